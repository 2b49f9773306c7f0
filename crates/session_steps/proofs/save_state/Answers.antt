-- `session_steps::save_state` saves open pairs, stack and marks, and the cache where a step of the file forgets.
-- Assumes nothing.
use native.Mathlib.Omega.{arith}
use Rattle.session_steps.proofs.Saving.{cache_asks, saved_both}
use Rattle.session_steps.proofs.save_state.Goals as goal

pub save-requires-then-p : goal.save-requires-then-p
save-requires-then-p c =
    let sv = c.save in
    let s = c in
    let q = cache_asks s.args.p s.requires.0 sv.auto.work sv.ensures in
    (q.0, q.1, q.2, omega (arith, s.requires.1))

pub returns-then-p : goal.returns-then-p
returns-then-p c =
    let sv = c in
    let s = sv in
    saved_both s.args.p s.requires.0 sv.save.auto.work sv.save.ensures c.save-then-p.ensures
