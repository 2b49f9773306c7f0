-- `steps` meets its contract. The invariant: what is left gives what all would give.
-- Assumes nothing.
use Prim.Native.Nat.{◌≤◌}
use lib.ListN.{length}
use Rattle.file_parts.proofs.session_file.ListLaws.{StepsSoFar}
use Rattle.file_check.proofs.file_handles.steps.Given as goal

abbrev pub invariant-loop-listed : goal.invariant-loop-listed
invariant-loop-listed l = (l.done ≤ 1024) × StepsSoFar l.rest l.listed.atoms l.listed.pairs l.next l.done

abbrev pub decreases-loop-listed : goal.decreases-loop-listed
decreases-loop-listed l = length l.next
