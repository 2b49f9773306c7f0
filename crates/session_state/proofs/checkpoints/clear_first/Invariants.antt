-- `session_state::checkpoints::clear_first` meets its contract: the first i records are blank, and the rest are as they were.
-- Assumes nothing.
use Rattle.std.proofs.Common.{◌≡◌, ◌++◌, replicate, drop}
use Rattle.session_state.specs.Records.{blank}
use Rattle.session_state.proofs.checkpoints.clear_first.Given as goal

abbrev pub invariant-loop-i : goal.invariant-loop-i
invariant-loop-i l = l.checkpoints ≡ replicate l.i blank ++ drop l.i l.initial.checkpoints
