-- `read_item::settle::settle` meets its contract.
-- Assumes nothing.
use native.Mathlib.Omega.{arith}
use Rattle.read_item.proofs.settle.Settling as settling
use Rattle.read_item.proofs.settle.settle.Goals as goal

pub returns-then-r-input : goal.returns-then-r-input
returns-then-r-input c =
    let j = c.join_all-r in
    settling.settle_whole _ _ _ _ _ _ _ j.ensures c.if-r-eq0.true c.if-r-input.true

pub returns-then-r-eq0 : goal.returns-then-r-eq0
returns-then-r-eq0 c =
    let joined = c in
    let j = joined.join_all-r in
    let inside = joined.requires.1 in
    settling.settle_left _ _ _ _ _ _ _ j.ensures c.if-r-eq0.true (omega (arith, c.if-r-input.false, j.ensures.onward.follows.position, inside))

pub returns : goal.returns
returns c = settling.settle_go _ _ _ _ _ _ _ c.join_all-r.ensures (omega arith)
