-- `cache_undo::push_all` meets its contract. The invariant: the first i entries are pushed.
-- Assumes nothing.
use Rattle.cache_undo.specs.Effects.{PushedAll}
use Rattle.cache_undo.proofs.push_all.Given as goal

abbrev pub invariant-loop-i : goal.invariant-loop-i
invariant-loop-i l = PushedAll l.initial.work l.work l.from l.i
