-- `cache_update::enter_node::find_or_add` meets its contract: the entry is the one found, or the one that `insert` adds.
-- Assumes nothing.
use Rattle.cache_update.proofs.enter_node.Interning.{found_interned, new_interned}
use Rattle.cache_update.proofs.enter_node.find_or_add.Goals as goal

pub returns-in-Some : goal.returns-in-Some
returns-in-Some c = found_interned c.args.work.now _ _ c.args.len c.in-Some.e.0 c.requires.0 c.in-Some.ensures

pub returns-in-None : goal.returns-in-None
returns-in-None c = new_interned c.args.work.now _ _ _ c.args.len _ c.in-None.ensures c.insert.ensures
