-- `read_path::path_walk::side` meets its contract: the left side of a pair is its first word, the right side its second.
-- Assumes nothing.
use Rattle.read_path.proofs.path_walk.Walking.{side_is}
use Rattle.read_path.proofs.path_walk.side.Goals as goal

pub returns : goal.returns
returns c = side_is c.args.pairs.now _ _ c.index.ensures c.args.right _ c.from.ensures
