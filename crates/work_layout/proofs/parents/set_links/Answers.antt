-- `set_links` meets its contract: the word that is stored is that of two parents of the entry, and no other's.
-- Assumes nothing.
use Rattle.work_layout.specs.Parents.{links_set}
use Rattle.work_layout.proofs.parents.set_links.Goals as goal

pub returns : goal.returns
returns c = links_set c.args.work.now c.args.e.0 c.args.c c.args.v c.requires.0 c.requires.1 c.requires.2
