-- `pairs` meets its contract. The invariant: what is left gives what all would give.
-- Assumes nothing.
use mathlib.Core.Path.{refl}
use native.Mathlib.Omega.{arith}
use Rattle.std.proofs.lemmas.Result.{err_from_is_err_and}
use Rattle.file_parts.proofs.session_file.ListLaws.{pairs_refused, pairs_turn, pairs_end}
use Rattle.file_check.proofs.file_handles.pairs.Goals as goal

pub returns-in_err-p : goal.returns-in_err-p
returns-in_err-p c =
    let p = err_from_is_err_and c.from_residual.result c.from_residual.ensures.1 in
    rw (p.1, p.2) (pairs_refused c.loop-done.invariant (omega arith) _ c.in_err-p.ensures)

pub loop-done-preserved : goal.loop-done-preserved
loop-done-preserved c = pairs_turn c.loop-done.invariant (omega arith) c.in_ok-p.p c.in_ok-p.ensures

pub returns : goal.returns
returns c = pairs_end c.loop-done.invariant _ (omega arith) (omega arith) refl refl
