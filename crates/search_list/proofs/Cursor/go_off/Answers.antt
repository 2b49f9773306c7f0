-- `search_list::Cursor::go_off` meets its contract: the copy on the stack is added first, and then the list's last path takes the dropped path's slot.
-- Assumes nothing.
use Rattle.search_list.proofs.Kept.{off_of, off_count, off_asks, off_done}
use native.Mathlib.Omega.{arith}
use Rattle.search_list.proofs.Cursor.go_off.Goals as goal

pub overflow_sub-last : goal.overflow_sub-last
overflow_sub-last c =
    let off = off_of c.requires.links c.requires.slot_lt_paths c.add_stacked-last.ensures c.add_stacked-last.auto.work in
    omega (arith, (off_count off).0, c.requires.slot_lt_paths.0)

pub drop_path-requires : goal.drop_path-requires
drop_path-requires c = off_asks (off_of c.requires.links c.requires.slot_lt_paths c.add_stacked-last.ensures c.add_stacked-last.auto.work)

pub returns : goal.returns
returns c = off_done (off_of c.requires.links c.requires.slot_lt_paths c.add_stacked-last.ensures c.add_stacked-last.auto.work) c.drop_path.ensures
