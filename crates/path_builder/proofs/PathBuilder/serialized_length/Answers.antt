-- `path_builder::PathBuilder::serialized_length` meets its contract: what the builder's numbers count is what its bits are counted at.
-- Assumes nothing.
use Prim.Native.Nat.{ℕ, ◌<◌}
use mathlib.Core.Path.{◌≡◌, ap, ◌∙◌}
use mathlib.Core.Bool.{Bool, ◌&&◌}
use native.Mathlib.Omega.{arith}
use lib.Dec.{eqb, ltb, leb}
use lib.ListN.{get_or}
use borrow.Author.Tests.{eq-eqb, ne_eqb, lt-ltb, le-ltb}
use Rattle.words.specs.Lists.{all_of}
use Rattle.path.specs.Measure.{counted_bytes}
use Rattle.path_builder.proofs.Counting.{counted_same}
use Rattle.path_builder.proofs.PathBuilder.serialized_length.Goals as goal
use Rattle.path_builder.proofs.PathBuilder.serialized_length.Goals.{then-n-gt0+then-self-eq7, then-n-gt0+else-self-eq7, else-n-gt0}

pub returns : goal.returns
returns c =
    let s = c.args.self in
    let full : c.if-n-gt0.full ≡ ltb 0 s.in_use && (eqb s.bit_pos 7 && leb 80 (get_or c.args.store.now 0 0)) =
    elim c.if-n-gt0.branch [
      | then-n-gt0+then-self-eq7 w ↦ w.full-is ∙ rw (lt-ltb 0 s.in_use w.if-n-gt0.true, eq-eqb s.bit_pos 7 w.if-self-eq7.true)
      | then-n-gt0+else-self-eq7 w ↦ w.full-is ∙ rw (lt-ltb 0 s.in_use w.if-n-gt0.true, ne_eqb s.bit_pos 7 w.if-self-eq7.false)
      | else-n-gt0 w ↦ w.full-is ∙ rw (le-ltb 0 s.in_use w.if-n-gt0.false)
    ] in
    c.counted_bytes.ensures ∙ ap (λ (b : Bool). counted_bytes b c.args.self.in_use) full
    ∙ counted_same c.args.store.now c.args.self c.requires (all_of (λ (n : ℕ). n < 256) c.args.store.now 0 (λ i l. omega (arith, c.type_inv.store i)))
