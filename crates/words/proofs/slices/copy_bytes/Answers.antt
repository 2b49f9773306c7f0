-- `words::slices::copy_bytes` meets its contract.
-- Assumes nothing.
use mathlib.Core.Path.{ap, ◌∙◌}
use mathlib.Core.List.{List}
use Prim.Native.Nat.{ℕ, ◌+◌}
use native.Mathlib.Omega.{arith}
use lib.ListN.{set, get_or}
use lib.Seq.{paste-zero}
use Rattle.words.proofs.Copies.{paste_more}
use Rattle.words.proofs.slices.copy_bytes.Goals as goal

pub loop-i-init : goal.loop-i-init
loop-i-init c = paste-zero c.args.to.now c.args.position c.args.from.now

pub loop-i-preserved : goal.loop-i-preserved
loop-i-preserved c =
    let l = c.loop-i in
    ap (λ (x : List ℕ). set x (c.args.position + l.i) (get_or c.args.from.now l.i 0)) l.invariant
    ∙ paste_more c.args.to.now c.args.position c.args.from.now l.i (omega arith) (omega arith)
