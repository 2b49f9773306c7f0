-- `load_firsts` meets its contract. The invariant: the tables of the atoms before `i` are loaded.
-- Assumes nothing.
use Rattle.file_tables.proofs.Turns.{Progress}
use Rattle.file_tables.proofs.load_firsts.Given as goal

abbrev pub invariant-loop-i : goal.invariant-loop-i
invariant-loop-i l = Progress l.file l.initial.work l.work l.i
