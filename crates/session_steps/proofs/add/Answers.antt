-- `session_steps::add` saves the state, enters the tree in the cache and writes it up to the next open place.
-- Assumes nothing.
use Rattle.session_steps.proofs.Adding.{update_asks, resume_asks}
use Rattle.session_steps.proofs.add.Goals as goal

pub update-requires : goal.update-requires
update-requires c =
    let saved = c in
    let sv = saved.save_state in
    let the_facts = update_asks saved.requires sv.auto.work sv.ensures in
    record { whole = the_facts.0; work_bound = the_facts.1 }

pub resume-o-requires : goal.resume-o-requires
resume-o-requires c =
    let updated = c in
    let saved = updated in
    let sv = saved.save_state in
    resume_asks saved.requires sv.auto.work sv.ensures updated.update.ensures
