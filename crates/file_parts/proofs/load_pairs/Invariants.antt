-- `load_pairs` meets its contract. The invariant: the pairs passed are loaded, and the others stand from the present place on.
-- Assumes nothing.
use Rattle.file_parts.proofs.LoadLaws.{LoadingPairs}
use Rattle.file_parts.proofs.load_pairs.Given as goal

abbrev pub invariant-loop-i : goal.invariant-loop-i
invariant-loop-i l = LoadingPairs l.file l.from l.count l.initial.table l.table l.place l.i
