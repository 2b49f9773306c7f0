-- `path_builder::right_align::right_align` meets its contract. The loop's invariant: the bytes from j on are shifted, and those before are as they were.
-- Assumes nothing.
use Rattle.path_builder.proofs.right_align.Aligning.{Aligning}
use Rattle.path_builder.proofs.right_align.right_align.Given as goal

abbrev pub invariant-loop-j : goal.invariant-loop-j
invariant-loop-j l = Aligning l.initial.store l.n l.r l.store l.j
