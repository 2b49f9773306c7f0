-- `cache_update::make_entry::join` meets its contract: an entry, two parents and a word of the map.
-- Assumes nothing.
use Rattle.cache_entries.proofs.Joining.{joins}
use Rattle.cache_update.proofs.make_entry.join.Goals as goal

pub returns : goal.returns
returns c =
    joins c.args.i c.requires.whole.0 c.requires.whole.1 c.requires.whole.2 c.enter_pair-e.ensures c.add_parent.ensures c.add_parent-2.ensures
