-- `append_moved` meets its contract. The invariant: the first i of those in MOVED stand behind the first `kept`, and the others are as they were.
-- Assumes nothing.
use Rattle.work_layout.specs.Rows.{moved_at}
use Rattle.cache_parents.specs.Lists.{Filled}
use Rattle.cache_parents.proofs.moved_parents.append_moved.Given as goal

abbrev pub invariant-loop-i : goal.invariant-loop-i
invariant-loop-i l = Filled l.initial.work l.work l.e.0 l.kept l.i (moved_at l.initial.work)
