-- `search_passes::pass` meets its contract: the pass from each slot on is the whole pass.
-- Assumes nothing.
use Rattle.search_passes.proofs.PassLaws.{Walking}
use Rattle.search_list.specs.Cursor.{ahead}
use Rattle.search_list.specs.State.{trails_of}
use Rattle.search_passes.proofs.pass.Given as goal

abbrev pub invariant-loop-at : goal.invariant-loop-at
invariant-loop-at l = Walking l.initial.work l.work l.l l.initial.at.search l.at

abbrev pub decreases-loop-at : goal.decreases-loop-at
decreases-loop-at l = ahead l.l (trails_of l.work l.at.search.paths) l.at.slot
