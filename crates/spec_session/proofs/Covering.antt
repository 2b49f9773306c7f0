-- Either measure of a path never counts less than the path's atom takes: the documentation's is just that, and the Rust's is never below it.
-- Assumes nothing.
use Rattle.std.specs.Prelude.{◌^◌, true, [], ◌∷◌, ◌++◌, length}
use Rattle.std.proofs.Common.{arith}
use Rattle.words.specs.Choice.{by_lt}
use Rattle.atom.specs.PrefixLaws.{single_other}
use Rattle.atom.specs.WriteLaws.{width_of_large, length_none}
use Rattle.path.specs.Bytes.{path_bytes}
use Rattle.path.specs.declared.Measure.{Measure}
use Rattle.path.specs.declared.Measure.TheVariants.{Counted, Documented}
use Rattle.path.specs.Measure.{counted, documented, measure_of}
use Rattle.path.proofs.MeasureLaws.{counted_documented}
use Rattle.spec_session.proofs.FindPathLaws.{Covers}

pub documented_covers : Covers documented
documented_covers s = omega arith

pub counted_covers : Covers counted
counted_covers s =
    let bytes = path_bytes (s ++ true ∷ []) in
    by_lt (length bytes) (2 ^ 34) (λ h. omega (arith, counted_documented s h))
    (λ h. omega (arith, length_none bytes (width_of_large bytes (single_other bytes (λ e. omega arith)) h)))

pub measure_covers : (m : Measure) → Covers (measure_of m)
measure_covers Counted = counted_covers
measure_covers Documented = documented_covers
