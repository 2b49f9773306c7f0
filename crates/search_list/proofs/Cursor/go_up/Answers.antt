-- `search_list::Cursor::go_up` meets its contract: the path itself, the copies at the later parents, and the copy on the stack, in this order.
-- Assumes nothing.
use Rattle.search_list.proofs.Kept.{up_of, up_asks, up_asks_2, up_done}
use Rattle.search_list.proofs.Cursor.go_up.Goals as goal

pub add_copies-paths-requires : goal.add_copies-paths-requires
add_copies-paths-requires c =
    let f = up_asks (up_of c.requires.links c.requires.slot_lt_paths c.put_at_entry.ensures c.put_at_entry.auto.work) in
    record { links = f.0; e_bound = f.1 }

pub add_stacked-requires : goal.add_stacked-requires
add_stacked-requires c =
    let up = up_of c.requires.links c.requires.slot_lt_paths c.put_at_entry.ensures c.put_at_entry.auto.work in
    let f = up_asks_2 up c.add_copies-paths.ensures c.add_copies-paths.auto.work in
    record { links = f.0; e_bound = f.1 }

pub returns : goal.returns
returns c =
    let up = up_of c.requires.links c.requires.slot_lt_paths c.put_at_entry.ensures c.put_at_entry.auto.work in
    up_done up c.add_copies-paths.ensures c.add_copies-paths.auto.work c.add_stacked.ensures
