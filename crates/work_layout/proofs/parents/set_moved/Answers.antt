-- `set_moved` meets its contract: the half that is set is that parent's, and no other's.
-- Assumes nothing.
use Rattle.work_layout.specs.Parents.{moved_set}
use Rattle.work_layout.proofs.parents.set_moved.Goals as goal

pub returns : goal.returns
returns c = moved_set c.args.work.now _ c.args.i c.args.p.0 c.requires.1 c.set_half.ensures
