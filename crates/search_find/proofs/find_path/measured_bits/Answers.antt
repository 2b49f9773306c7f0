-- `search_find::find_path::measured_bits` meets its contract: the number of bits says how many bytes there are, and whether they are full.
-- Assumes nothing.
use Prim.Native.Nat.{ℕ, ◌+◌, ◌/◌, ◌%◌}
use mathlib.Core.Path.{ap, ◌∙◌}
use native.Mathlib.Omega.{arith}
use lib.Dec.{eqb}
use Rattle.path_builder.specs.Measured.{measured_bytes}
use Rattle.search_find.proofs.find_path.Ends.{measured_is}
use Rattle.search_find.proofs.find_path.measured_bits.Goals as goal

pub returns : goal.returns
returns c = λ bits e h.
    let s = c in
    c.from.ensures ∙ c.measured_bytes.ensures ∙ ap (λ (n : ℕ). measured_bytes s.args.measure (eqb (n % 8) 0) ((n + 7) / 8)) e ∙ measured_is s.args.measure bits h (omega (arith, s.requires, e))
