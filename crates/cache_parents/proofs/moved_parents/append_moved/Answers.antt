-- `append_moved` meets its contract, turn by turn: those in MOVED are still as they were.
-- Assumes nothing.
use Rattle.std.proofs.Common.{◌+◌, ◌∙◌, refl, arith}
use Rattle.work_layout.specs.Rows.{moved_at}
use Rattle.cache_parents.proofs.moved_parents.Move.{filled_none, filled_more, still_there}
use Rattle.cache_parents.proofs.moved_parents.append_moved.Goals as goal

pub loop-i-init : goal.loop-i-init
loop-i-init c = filled_none c.args.work.now c.args.e.0 c.args.kept (moved_at c.args.work.now)

pub set_parent-requires : goal.set_parent-requires
set_parent-requires c =
    let q = still_there c.args.work.now c.loop-i.work c.loop-i.i (omega arith) c.loop-i.invariant in
    (omega arith, c.requires.1, omega arith, omega (arith, c.moved_at-p.ensures, q, c.requires.3 c.loop-i.i (omega arith)))

pub loop-i-preserved : goal.loop-i-preserved
loop-i-preserved c =
    let w = c.args.work.now in
    filled_more w c.loop-i.work _ c.args.e.0 c.args.kept c.loop-i.i (c.args.kept + c.loop-i.i) c.moved_at-p.result.0 (moved_at w) c.requires.1
    refl (c.moved_at-p.ensures ∙ still_there w c.loop-i.work c.loop-i.i (omega arith) c.loop-i.invariant) c.loop-i.invariant c.set_parent.ensures
