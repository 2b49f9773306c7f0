-- `words::slices::clear` meets its contract. The invariant: the first `i` elements are zero and the rest as they came.
-- Assumes nothing.
use Rattle.std.proofs.Common.{◌≡◌, ◌++◌, replicate, drop}
use Rattle.words.proofs.slices.clear.Given as goal

abbrev pub invariant-loop-i : goal.invariant-loop-i
invariant-loop-i g l = l.elements ≡ replicate l.i l.zero ++ drop l.i l.initial.elements
