-- `drop_parents` meets its contract. The invariant: the first i parents are those from `dropped` on, and the others are as they were.
-- Assumes nothing.
use Rattle.std.proofs.Common.{◌+◌}
use Rattle.work_layout.specs.Rows.{link_at}
use Rattle.cache_parents.specs.Lists.{Filled}
use Rattle.cache_parents.proofs.moved_parents.drop_parents.Given as goal

abbrev pub invariant-loop-i : goal.invariant-loop-i
invariant-loop-i l = Filled l.initial.work l.work l.e.0 0 l.i (λ j. link_at l.initial.work l.e.0 (l.dropped + j))
