-- `words::slices::copy_within` meets its contract. The invariant: the first `i` words stand from `to` on.
-- Assumes nothing.
use Rattle.std.proofs.Common.{◌≡◌, drop}
use Rattle.std.proofs.Math.Seq.{paste}
use Rattle.words.proofs.slices.copy_within.Given as goal

abbrev pub invariant-loop-i : goal.invariant-loop-i
invariant-loop-i l = l.words ≡ paste l.initial.words l.to (drop l.from l.initial.words) l.i
