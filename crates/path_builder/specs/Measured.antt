-- The bytes that a path's atom is measured at, from the number of its bytes.
-- Assumes nothing.
use Rattle.std.specs.Prelude.{ℕ, ◌+◌, Bool, cond, ◌&&◌, not, eqb}
use Rattle.path.specs.declared.Measure.{Measure}
use Rattle.path.specs.declared.Measure.TheVariants.{Counted, Documented}
use Rattle.path.specs.Measure.{counted_bytes}
use Rattle.path.specs.MeasureLaws.{documented_prefix}

-- By the documentation; `full` says that the bits fill a single byte, which then does not stand for itself.
abbrev pub documented_bytes : (full : Bool) → ℕ → ℕ
documented_bytes full n = cond (eqb n 1 && not full) 1 (documented_prefix n + n)

abbrev pub measured_bytes : Measure → (full : Bool) → ℕ → ℕ
measured_bytes Counted = counted_bytes
measured_bytes Documented = documented_bytes
