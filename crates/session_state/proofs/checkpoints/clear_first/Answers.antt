-- `session_state::checkpoints::clear_first` meets its contract: the first i records are blank, and the rest are as they were.
-- Assumes nothing.
use Rattle.std.proofs.Common.{arith}
use Rattle.words.proofs.Words.{filled_more}
use Rattle.session_state.specs.Records.{blank}
use Rattle.session_state.proofs.checkpoints.clear_first.Goals as goal

pub loop-i-preserved : goal.loop-i-preserved
loop-i-preserved c =
    let l = c.loop-i in
    rw l.invariant (filled_more l.i blank c.args.checkpoints.now (omega arith))
