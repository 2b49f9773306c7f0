-- `cache_undo::pop_all` meets its contract. The invariant: `left` entries are left, and only the words of the stack have changed.
-- Assumes nothing.
use Rattle.cache_stack.specs.Effects.{Stacked, StackOnly}
use Rattle.cache_undo.proofs.pop_all.Given as goal

abbrev pub invariant-loop-left : goal.invariant-loop-left
invariant-loop-left l = Stacked l.work l.left × StackOnly l.initial.work l.work
