-- `path_builder::PathBuilder::new` meets its contract: it has no bits.
-- Assumes nothing.
use Rattle.path_builder.proofs.Building.{fresh}
use Rattle.path_builder.proofs.PathBuilder.new.Goals as goal

pub returns : goal.returns
returns c = fresh
