-- `session_steps::bounded_step` makes a step with the first 65,535 bytes of the output.
-- Assumes nothing.
use Rattle.session_steps.proofs.Bounds.{used_ready, used_onward}
use Rattle.session_steps.proofs.bounded_step.Goals as goal

pub core_step-requires : goal.core_step-requires
core_step-requires c =
    let known = c in
    let s = known in
    used_ready s.args.output.now known.space_of-space.ensures s.requires

pub returns : goal.returns
returns c =
    let stepped = c in
    let cs = stepped.core_step in
    let known = stepped in
    let s = known in
    used_onward s.args.output.now known.space_of-space.ensures s.requires cs.new.work cs.new.words cs.new.output cs.result cs.auto.output cs.ensures
