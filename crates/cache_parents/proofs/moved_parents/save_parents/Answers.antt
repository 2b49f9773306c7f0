-- `save_parents` meets its contract, turn by turn: no parent changes while they are saved.
-- Assumes nothing.
use Rattle.std.proofs.Common.{arith}
use Rattle.cache_parents.proofs.moved_parents.Move.{saved_links, saved_more}
use Rattle.cache_parents.proofs.moved_parents.save_parents.Goals as goal

pub set_moved-requires : goal.set_moved-requires
set_moved-requires c =
    let q = saved_links c.args.work.now c.loop-i.work c.args.e.0 c.loop-i.i c.args.e.0 c.loop-i.i c.requires.1 (omega arith) c.loop-i.invariant in
    (omega arith, omega arith, omega (arith, c.parent_at-p.ensures, q, c.requires.3 c.loop-i.i (omega arith)))

pub loop-i-preserved : goal.loop-i-preserved
loop-i-preserved c =
    saved_more c.args.work.now c.loop-i.work _ c.args.e.0 c.loop-i.i c.parent_at-p.result.0 c.requires.1 (omega arith) c.parent_at-p.ensures c.loop-i.invariant
    c.set_moved.ensures
