-- `pairs` meets its contract. The invariant: what is left gives what all would give.
-- Assumes nothing.
use Rattle.file_parts.proofs.session_file.ListLaws.{PairsSoFar}
use Rattle.file_check.proofs.file_handles.pairs.Given as goal

abbrev pub invariant-loop-done : goal.invariant-loop-done
invariant-loop-done l = PairsSoFar l.rest l.listed.atoms l.listed.pairs l.next l.done
