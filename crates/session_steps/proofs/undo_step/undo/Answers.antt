-- `session_steps::undo_step::undo` brings back a copy and its record.
-- Assumes nothing.
use Rattle.session_steps.proofs.undo_step.Undoing.{restore_asks}
use Rattle.session_steps.proofs.undo_step.undo.Goals as goal

pub restore-requires : goal.restore-requires
restore-requires c =
    let br = c in
    let s = br in
    restore_asks s.args.forgets s.requires br.bring_cache.auto.work br.bring_cache.ensures
