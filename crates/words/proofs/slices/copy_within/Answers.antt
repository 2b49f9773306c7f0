-- `words::slices::copy_within` meets its contract.
-- Assumes nothing.
use mathlib.Core.Path.{ap, ◌∙◌}
use mathlib.Core.List.{List}
use Prim.Native.Nat.{ℕ, ◌+◌, ◌≤◌, ◌<◌}
use native.Mathlib.Omega.{arith}
use lib.ListN.{set, get_or}
use Rattle.words.proofs.Copies.{within_more}
use Rattle.words.proofs.slices.copy_within.Goals as goal
use Rattle.words.proofs.slices.copy_within.Goals.{else-from-to-via-then-from-to+else-to-from, else-from-to-via-else-from-to}

pub loop-i-preserved : goal.loop-i-preserved
loop-i-preserved c =
    let l = c.loop-i in
    let a = c.args in
    let apart : a.from < a.to → a.from + a.count ≤ a.to = elim c.else-from-to.branch [
      | else-from-to-via-then-from-to+else-to-from w ↦ λ q. omega (arith, w.if-to-from.false)
      | else-from-to-via-else-from-to w ↦ λ q. omega (arith, q, w.if-from-to.false)
    ] in
    ap (λ (x : List ℕ). set x (a.to + l.i) (get_or x (a.from + l.i) 0)) l.invariant
    ∙ within_more a.words.now a.from a.to a.count l.i c.requires.0 c.requires.1 apart (omega arith)
