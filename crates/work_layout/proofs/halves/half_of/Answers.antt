-- `half_of` meets its contract: the remainder is the low half, the quotient the high one.
-- Assumes nothing.
use Rattle.std.proofs.Common.{arith}
use Rattle.work_layout.specs.Halves.{low_half, high_half}
use Rattle.work_layout.proofs.halves.half_of.Goals as goal

pub returns-then-h-eq0 : goal.returns-then-h-eq0
returns-then-h-eq0 c = low_half c.args.h c.args.word c.if-h-eq0.true

pub returns-else-h-eq0 : goal.returns-else-h-eq0
returns-else-h-eq0 c = high_half c.args.h c.args.word c.requires c.if-h-eq0.false (omega arith)
