-- `search_passes::all_passes` meets its contract: the passes that are left give what all passes give.
-- Assumes nothing.
use Rattle.search_passes.proofs.PassLaws.{Searching}
use Rattle.search_passes.proofs.all_passes.Given as goal

abbrev pub invariant-loop-l : goal.invariant-loop-l
invariant-loop-l l = Searching l.initial.work l.work l.depth l.limit l.l l.s
