-- `load_atoms` meets its contract. The invariant: the atoms passed are loaded, and the others stand from the present place on.
-- Assumes nothing.
use Rattle.file_parts.proofs.LoadLaws.{LoadingAtoms}
use Rattle.file_parts.proofs.load_atoms.Given as goal

abbrev pub invariant-loop-i : goal.invariant-loop-i
invariant-loop-i l = LoadingAtoms l.file l.count l.initial.table l.table l.place l.i
