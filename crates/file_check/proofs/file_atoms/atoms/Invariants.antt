-- `atoms` meets its contract. The invariant: what is left gives what all would give.
-- Assumes nothing.
use Prim.Native.Nat.{◌≤◌}
use Rattle.file_parts.proofs.session_file.ListLaws.{AtomsSoFar}
use Rattle.file_check.proofs.file_atoms.atoms.Given as goal

abbrev pub invariant-loop : goal.invariant-loop
invariant-loop l = (l.used ≤ 32768) × AtomsSoFar l.rest l.count l.next l.used l.counter
