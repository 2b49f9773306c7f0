-- `search_list::put_path` meets its contract: the three words are stored, and no other.
-- Assumes nothing.
use Rattle.search_list.proofs.Trails.{stored}
use Rattle.search_list.proofs.put_path.Goals as goal

pub returns : goal.returns
returns c = stored c.args.work.now c.args.i c.args.a c.args.v c.args.x c.requires.0 c.requires.1
