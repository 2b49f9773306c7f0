-- `words::slices::clear` meets its contract.
-- Assumes nothing.
use Rattle.std.proofs.Common.{arith}
use Rattle.words.proofs.Words.{filled_more}
use Rattle.words.proofs.slices.clear.Goals as goal

pub loop-i-preserved : goal.loop-i-preserved
loop-i-preserved g c =
    let l = c.loop-i in
    rw l.invariant (filled_more l.i c.default-zero.result c.args.elements.now (omega arith))
