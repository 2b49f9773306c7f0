-- `steps` meets its contract. The invariant: what is left gives what all would give.
-- Assumes nothing.
use mathlib.Core.Path.{refl, sym, ◌∙◌}
use Rattle.std.proofs.lemmas.Result.{err_from_is_err_and}
use Rattle.file_parts.proofs.session_file.ListLaws.{steps_refused, steps_few, steps_turn, steps_end}
use Rattle.file_check.proofs.file_handles.steps.Goals as goal

pub returns-in_err-s : goal.returns-in_err-s
returns-in_err-s c =
    let p = err_from_is_err_and c.from_residual.result c.from_residual.ensures.1 in
    rw (p.1, p.2) (steps_refused c.loop-listed.invariant.1 (sym c.is_empty.ensures ∙ c.loop-listed-test.true) _ c.in_err-s.ensures)

pub loop-listed-preserved : goal.loop-listed-preserved
loop-listed-preserved c =
    let l = c.loop-listed in
    let s = c.in_ok-s in
    (steps_few l.invariant.1 (sym c.is_empty.ensures ∙ c.loop-listed-test.true) s.s s.ensures, steps_turn l.invariant.1 (sym c.is_empty.ensures ∙ c.loop-listed-test.true) s.s s.ensures)

pub returns : goal.returns
returns c = steps_end c.loop-listed.invariant.1 _ (sym c.is_empty.ensures ∙ c.loop-listed-test.false) refl refl
