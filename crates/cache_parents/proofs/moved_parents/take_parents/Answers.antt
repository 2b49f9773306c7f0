-- `take_parents` meets its contract: the parents are saved in MOVED, and their count is 0.
-- Assumes nothing.
use Rattle.std.proofs.Common.{refl, arith}
use Rattle.cache_parents.proofs.moved_parents.Move.{take_list}
use Rattle.cache_parents.proofs.moved_parents.take_parents.Goals as goal

pub save_parents-requires : goal.save_parents-requires
save_parents-requires c =
    (omega arith, omega arith, omega arith, λ i l. omega (arith, c.requires.0.links c.args.e.0 i (omega arith) (omega arith)))

pub returns : goal.returns
returns c =
    take_list c.args.work.now c.save_parents.new.work c.args.e.0 c.args.e.0 c.count_of-n.result c.requires.0 c.requires.1
    refl c.count_of-n.ensures.0 c.count_of-n.ensures.1 c.save_parents.ensures
