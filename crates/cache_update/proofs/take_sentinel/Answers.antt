-- `cache_update::take_sentinel` meets its contract.
-- Assumes nothing.
use Rattle.cache_entries.proofs.Updating.{cleared_none, cleared_some}
use Rattle.cache_update.proofs.take_sentinel.Goals as goal

pub returns-in-Some : goal.returns-in-Some
returns-in-Some c = cleared_some c.args.work.now c.take_parents.new.work c.in-Some.e.0 c.take_parents.result c.requires c.in-Some.ensures c.take_parents.ensures

pub returns-in-None : goal.returns-in-None
returns-in-None c = cleared_none c.args.work.now c.requires c.in-None.ensures
