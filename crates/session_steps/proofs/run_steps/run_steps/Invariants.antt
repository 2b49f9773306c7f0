-- `session_steps::run_steps::run_steps` meets its contract. The invariant is what `Between` says of the slices and the progress; the measure is `ahead`.
-- Assumes nothing.
use Rattle.session_steps.proofs.run_steps.Between.{Between, ahead}
use Rattle.session_steps.proofs.run_steps.run_steps.Given as goal

abbrev pub invariant-loop-p : goal.invariant-loop-p
invariant-loop-p l =
    Between l.file
    (record { rows = l.initial.checkpoints; work = l.initial.work; words = l.initial.words; out = l.initial.output; progress = l.initial.p })
    (record { rows = l.checkpoints; work = l.work; words = l.words; out = l.output; progress = l.p })

abbrev pub decreases-loop-p : goal.decreases-loop-p
decreases-loop-p l = ahead l.p
