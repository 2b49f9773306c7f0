-- `write_loop::resume` meets its contract: each turn goes on as the definition does, and the bytes left bound the turns.
-- Assumes nothing.
use lib.ListN.{length}
use Rattle.write_loop.specs.Effects.{ahead}
use Rattle.write_loop.proofs.write_turn.Looping.{Looping}
use Rattle.write_loop.proofs.resume.Given as goal

abbrev pub invariant-loop-next : goal.invariant-loop-next
invariant-loop-next l = Looping l.measure l.file l.initial.work l.initial.output l.initial.next l.work l.output l.next

abbrev pub decreases-loop-next : goal.decreases-loop-next
decreases-loop-next l = ahead (length l.output) l.next
