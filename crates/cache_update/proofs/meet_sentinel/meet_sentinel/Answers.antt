-- `cache_update::meet_sentinel::meet_sentinel` meets its contract: no entry has the key with the next number.
-- Assumes nothing.
use Rattle.cache_entries.proofs.Meeting.{sentinel_made}
use Rattle.cache_entries.proofs.Keys.{no_sentinel}
use Rattle.cache_update.proofs.meet_sentinel.meet_sentinel.Goals as goal

pub insert-e-requires : goal.insert-e-requires
insert-e-requires c = (c.requires.0.sound, c.requires.1, no_sentinel c.args.work.now c.requires.0)

pub returns : goal.returns
returns c = sentinel_made c.args.work.now c.insert-e.new.work c.insert-e.result.0 c.requires.0 c.insert-e.ensures
