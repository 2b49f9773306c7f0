-- `cache_undo::cache_copy::take_off` meets its contract. The invariant: the entries from number e on are taken off their slots.
-- Assumes nothing.
use Rattle.std.proofs.Common.{◌≤◌}
use Rattle.cache_undo.proofs.cache_copy.TakeLaws.{Taking}
use Rattle.cache_undo.proofs.cache_copy.take_off.Given as goal

abbrev pub invariant-loop-e : goal.invariant-loop-e
invariant-loop-e l = (l.n ≤ l.e) × Taking l.initial.work l.work l.e
