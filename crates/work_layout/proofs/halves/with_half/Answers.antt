-- `with_half` meets its contract: each of its two sums is the word with that half set.
-- Assumes nothing.
use Rattle.std.proofs.Common.{arith}
use Rattle.work_layout.specs.Halves.{with_low, with_high}
use Rattle.work_layout.proofs.halves.with_half.Goals as goal

pub returns-then-h-eq0 : goal.returns-then-h-eq0
returns-then-h-eq0 c = with_low c.args.h c.args.word c.args.v c.if-h-eq0.true

pub returns-else-h-eq0 : goal.returns-else-h-eq0
returns-else-h-eq0 c = with_high c.args.h c.args.word c.args.v c.requires.0 c.if-h-eq0.false (omega arith)
