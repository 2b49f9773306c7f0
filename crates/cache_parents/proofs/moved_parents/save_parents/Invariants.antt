-- `save_parents` meets its contract. The invariant: the first i parents are saved.
-- Assumes nothing.
use Rattle.cache_parents.specs.Lists.{Saved}
use Rattle.cache_parents.proofs.moved_parents.save_parents.Given as goal

abbrev pub invariant-loop-i : goal.invariant-loop-i
invariant-loop-i l = Saved l.initial.work l.work l.e.0 l.i
