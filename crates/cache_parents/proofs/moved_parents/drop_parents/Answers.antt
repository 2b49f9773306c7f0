-- `drop_parents` meets its contract, turn by turn: the parents from `dropped + i` on are still as they were.
-- Assumes nothing.
use Rattle.std.proofs.Common.{◌+◌, ◌∙◌, arith}
use Rattle.work_layout.specs.Rows.{link_at}
use Rattle.cache_parents.proofs.moved_parents.Move.{filled_none, filled_more}
use Rattle.cache_parents.proofs.moved_parents.drop_parents.Goals as goal

pub loop-i-init : goal.loop-i-init
loop-i-init c = filled_none c.args.work.now c.args.e.0 0 (λ j. link_at c.args.work.now c.args.e.0 (c.args.dropped + j))

pub set_parent-requires : goal.set_parent-requires
set_parent-requires c =
    let b = c.requires.in_bounds in
    let q = c.loop-i.invariant.others c.args.e.0 (c.args.dropped + c.loop-i.i) b.1 (λ x y z. omega arith) in
    (omega arith, b.1, omega arith, omega (arith, c.parent_at-p.ensures, q, c.requires.by_index c.loop-i.i (omega arith)))

pub loop-i-preserved : goal.loop-i-preserved
loop-i-preserved c =
    let e = c.args.e.0 in
    let v = c.loop-i.invariant in
    let h = c.requires.in_bounds.1 in
    filled_more c.args.work.now c.loop-i.work _ e 0 c.loop-i.i c.loop-i.i c.parent_at-p.result.0 (λ j. link_at c.args.work.now e (c.args.dropped + j)) h
    (omega arith) (c.parent_at-p.ensures ∙ v.others e (c.args.dropped + c.loop-i.i) h (λ x y z. omega arith)) v c.set_parent.ensures
