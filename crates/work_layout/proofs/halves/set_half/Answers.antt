-- `set_half` meets its contract: the store leaves the word with that half set.
-- Assumes nothing.
use Rattle.work_layout.specs.Halves.{half_set}
use Rattle.work_layout.proofs.halves.set_half.Goals as goal

pub returns : goal.returns
returns c = rw c.with_half.ensures (half_set c.args.work.now c.args.k c.args.h c.args.v c.requires.0 c.requires.1 c.requires.2)
