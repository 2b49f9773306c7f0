-- `session_steps::core_step` meets its contract: the end of the file, and a taking with no quote open.
-- Assumes nothing.
use mathlib.Core.Path.{refl}
use Rattle.session_steps.proofs.Answers.{stops_at_end, stops_17}
use Rattle.session_steps.proofs.quoted_step.Answers.{taking}
use Rattle.session_steps.proofs.core_step.Goals as goal

pub returns-in_default : goal.returns-in_default
returns-in_default c = stops_at_end c.requires c.if-p.false c.stop.ensures c.in_default.ensures.first_step

pub returns-in-Take : goal.returns-in-Take
returns-in-Take c =
    stops_17 c.requires c.if-p.false c.stop-in-Take.ensures
    (taking c.args.file.now c.args.p.at c.in-Some.field-0 _ (cc) refl c.in-Some.ensures.first_step)
