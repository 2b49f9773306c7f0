-- `moved_at` meets its contract: the half that is read is that parent's.
-- Assumes nothing.
use Rattle.work_layout.specs.Rows.{moved_at}
use Rattle.work_layout.proofs.parents.moved_at.Goals as goal

pub returns : goal.returns
unfolding moved_at
returns c = c.half_at.ensures
