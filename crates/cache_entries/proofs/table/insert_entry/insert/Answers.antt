-- `cache_entries::table::insert_entry::insert` meets its contract: its seven stores add a row at the end and put it first in its chain.
-- Assumes nothing.
use Rattle.std.proofs.Common.{refl}
use Rattle.words.specs.Words.{at}
use Rattle.work_layout.specs.Layout.{USED}
use Rattle.cache_entries.proofs.table.insert_entry.NewEntry.{inserted}
use Rattle.cache_entries.proofs.table.insert_entry.insert.Goals as goal

pub returns : goal.returns
returns c =
    let w = c.args.work.now in
    let words = c.from-k in
    rw (← words.ensures.0, ← words.ensures.1)
    (inserted w words.result.left words.result.right c.args.len (at w USED) c.slot_of-slot.result c.requires.0 c.requires.1
    (rw (words.ensures.0, words.ensures.1) c.requires.2) refl c.slot_of-slot.ensures)
