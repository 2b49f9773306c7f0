-- `next_step` meets its contract: the code says which step it is, and the next place is beyond it.
-- Assumes nothing.
use Prim.Native.Nat.{ℕ, ◌≤◌}
use mathlib.Core.Path.{refl, sym, ap, subst, ◌∙◌}
use mathlib.Core.Logic.{inl, inr}
use native.Mathlib.Omega.{arith}
use Rattle.words.specs.Words.{part}
use Rattle.words.specs.BigEndian.{number}
use Rattle.spec_session.specs.File.{add, restore, forget, quote}
use Rattle.spec_session.specs.Places.{step_size}
use Rattle.file_parts.specs.PlaceLaws.{size_low}
use Rattle.file_parts.proofs.LoadLaws.{step_short, step_first, coded, handle_size, number_size, restore_coded}
use Rattle.file_parts.proofs.next_step.Goals as goal
use Rattle.file_parts.proofs.next_step.Goals.{in-1+in_ok-operand_at-in-1, in-4+in_ok-operand_at-in-4, in-3+in_ok-operand_at-in-3, in-5, in_default+in_ok-operand_at-in_default}

pub returns-then-file-at-clause-first_step : goal.returns-then-file-at-clause-first_step
returns-then-file-at-clause-first_step c =
    let a = c.args in
    let code = number (part a.file.now a.at 1) in
    step_short a.file.now a.at code refl 1 (size_low (coded a.file.now a.at code)) (omega arith)

pub returns-in_err-operand_at-in-1-clause-first_step : goal.returns-in_err-operand_at-in-1-clause-first_step
returns-in_err-operand_at-in-1-clause-first_step c =
    let a = c.args in
    let code = c.number_at in
    rw c.from_residual.ensures
    (step_short a.file.now a.at code.result code.ensures 5 (handle_size a.file.now a.at code.result (inl c.in-1.is)) (omega (arith, c.in_err-operand_at-in-1.ensures)))

pub returns-in_err-operand_at-in-4-clause-first_step : goal.returns-in_err-operand_at-in-4-clause-first_step
returns-in_err-operand_at-in-4-clause-first_step c =
    let a = c.args in
    let code = c.number_at in
    rw c.from_residual-in_err-operand_at-in-4.ensures
    (step_short a.file.now a.at code.result code.ensures 5 (handle_size a.file.now a.at code.result (inr c.in-4.is)) (omega (arith, c.in_err-operand_at-in-4.ensures)))

pub returns-in_err-operand_at-in-3-clause-first_step : goal.returns-in_err-operand_at-in-3-clause-first_step
returns-in_err-operand_at-in-3-clause-first_step c =
    let a = c.args in
    let code = c.number_at in
    rw c.from_residual-in_err-operand_at-in-3.ensures
    (step_short a.file.now a.at code.result code.ensures 3 (subst (λ (k : ℕ). 3 ≤ step_size (coded a.file.now a.at k)) (sym c.in-3.is) (omega arith)) (omega (arith, c.in_err-operand_at-in-3.ensures)))

pub returns-in_err-operand_at-in_default-clause-first_step : goal.returns-in_err-operand_at-in_default-clause-first_step
returns-in_err-operand_at-in_default-clause-first_step c =
    let a = c.args in
    let code = c.number_at in
    rw c.from_residual-in_err-operand_at-in_default.ensures
    (step_short a.file.now a.at code.result code.ensures 3
    (number_size a.file.now a.at code.result (λ e. omega arith) (λ e. omega arith) (λ e. omega arith)) (omega (arith, c.in_err-operand_at-in_default.ensures)))

pub returns-clause-first_step : goal.returns-clause-first_step
returns-clause-first_step c ss h =
    let a = c.args in
    let code = c.number_at in
    elim c.match-number_at.branch [
      | in-1+in_ok-operand_at-in-1 w ↦ rw w.step-is
          (step_first a.file.now a.at code.result code.ensures _ (ap add w.in_ok-operand_at-in-1.ensures.1 ∙ ap (coded a.file.now a.at) (sym w.in-1.is)) (omega arith) ss h)
      | in-4+in_ok-operand_at-in-4 w ↦ rw w.step-is
          (step_first a.file.now a.at code.result code.ensures _ (ap quote w.in_ok-operand_at-in-4.ensures.1 ∙ ap (coded a.file.now a.at) (sym w.in-4.is)) (omega arith) ss h)
      | in-3+in_ok-operand_at-in-3 w ↦ rw w.step-is
          (step_first a.file.now a.at code.result code.ensures _ (ap forget w.in_ok-operand_at-in-3.ensures.1 ∙ ap (coded a.file.now a.at) (sym w.in-3.is)) (omega arith) ss h)
      | in-5 w ↦ rw w.step-is (step_first a.file.now a.at code.result code.ensures _ (ap (coded a.file.now a.at) (sym w.in-5.is)) (omega arith) ss h)
      | in_default+in_ok-operand_at-in_default w ↦ rw w.step-is
          (step_first a.file.now a.at code.result code.ensures _
          (ap restore w.in_ok-operand_at-in_default.ensures.1 ∙ sym (restore_coded a.file.now a.at code.result (λ e. omega arith) (λ e. omega arith) (λ e. omega arith) (λ e. omega arith)))
          (omega arith) ss h)
    ]
