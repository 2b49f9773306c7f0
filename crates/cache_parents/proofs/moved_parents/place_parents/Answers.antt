-- `place_parents` meets its contract: the end of the list goes to its front, and those in MOVED behind it.
-- Assumes nothing.
use Rattle.std.proofs.Common.{◌+◌, refl, arith}
use Rattle.cache_parents.proofs.moved_parents.Move.{still_there, place_list}
use Rattle.cache_parents.proofs.moved_parents.place_parents.Goals as goal

pub drop_parents-requires : goal.drop_parents-requires
drop_parents-requires c =
    record {
      in_bounds = (omega arith, omega arith, omega arith);
      by_index = λ i l. omega (arith, c.requires.0.links c.args.e.0 (c.saturating_sub-dropped.result + i) (omega arith) (omega arith));
    }

pub append_moved-requires : goal.append_moved-requires
append_moved-requires c = (
  omega arith,
  omega arith,
  omega arith,
  λ i l. omega (arith, c.requires.3 i l, still_there c.args.work.now _ i (omega arith) c.drop_parents.ensures),
)

pub returns : goal.returns
returns c =
    place_list c.args.work.now c.drop_parents.new.work c.append_moved.new.work c.args.e.0 c.args.e.0 c.count_of-n.result
    c.args.moved c.saturating_sub-dropped.result c.requires.0 c.requires.1 refl c.count_of-n.ensures.0 c.count_of-n.ensures.1 c.requires.2 c.requires.3
    c.saturating_sub-dropped.ensures c.drop_parents.ensures c.append_moved.ensures
