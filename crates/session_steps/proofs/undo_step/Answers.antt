-- What the answer of an undo means: the run goes on, or question 11 ends it. What each call of it asks.
-- Assumes nothing.
use Prim.Native.Nat.{ℕ, suc, ◌+◌, ◌≤◌, ◌<◌}
use mathlib.Core.Path.{◌≡◌, sym, ap, subst, ◌∙◌}
use mathlib.Core.Bool.{Bool, true, false, not}
use mathlib.Core.List.{List, ◌∷◌}
use native.Mathlib.Omega.{arith}
use lib.ListN.{length, set}
use Rattle.session_state.specs.declared.checkpoints.Checkpoint.{Checkpoint}
use Rattle.path.specs.Measure.{measure_of}
use Rattle.spec_session.specs.File.{File, Step}
use Rattle.file_parts.specs.Loaded.{FirstStep}
use Rattle.spec_session.specs.Places.{StepsAt}
use Rattle.spec_session.specs.Steps.{run_steps}
use Rattle.session_state.specs.declared.progress.Progress.{Progress}
use Rattle.session_state.specs.declared.progress.StepAnswer.{StepAnswer}
use Rattle.path.specs.Bytes.{bit}
use Rattle.session_state.specs.Stored.{Noting, noted_words}
use Rattle.session_state.specs.Moves.{noted_at, undone_at, stopped_at}
use Rattle.session_state.specs.State.{standing, slot_for, undo_of}
use Rattle.session_state.specs.Steps.{Comes, told_undo, Ready, Onward}
use Rattle.session_steps.specs.undo_step.Effects.{Undoing, Undone}
use Rattle.session_state.proofs.Slots.{nth_none}
use Rattle.session_state.proofs.Runs.{run_beyond}
use Rattle.session_steps.proofs.undo_step.Undoing.{undo_fits, undo_takes, undone_on}
use Rattle.session_state.proofs.Answers.{stands_on, stops}

module _ {input : List ℕ} {f : File} {w words out : List ℕ} {p : Progress} {c : Checkpoint} (ready : Ready input f w words out p c)
    (none_open : p.quoted ≡ false) (b : Bool) (n next : ℕ) (told : Comes input p.at (told_undo b n next)) where
  -- The steps that are left begin with it.
  comes : (ss : List Step) → StepsAt input p.at ss → (rest : List Step) × (ss ≡ undo_of b n ∷ rest) × StepsAt input next rest
  comes ss there = go b (told ss there)
    where
      go : (c : Bool) → FirstStep input ss (told_undo c n next) → (rest : List Step) × (ss ≡ undo_of c n ∷ rest) × StepsAt input next rest
      go false q = q
      go true q = q

  -- Question 11.
  pub stops_11 : {a : StepAnswer} → a ≡ stopped_at p 11 c → p.adds ≤ n → Onward input f w words out p c w words out a
  stops_11 {a} is beyond =
      stops input f w words out p c none_open 11 a is (λ measure rows u.
      let e = comes u.left u.steps_there in
      ap (λ (ss : List Step). run_steps (measure_of measure) (length out) f ss (standing u.past u.session)) e.1
      ∙ run_beyond measure (length out) f u.past u.session b n e.0 (nth_none u.past n (omega (arith, u.history.long))))

  module _ (few : n < p.adds) where
    pub undo_asks : Undoing b w p.depth n c
    undo_asks =
        let u = ready.underway in
        let e = comes u.left u.steps_there in
        undo_takes b u none_open e.1 few ready.record_is

    pub undo_note_asks : {q : Progress} → q ≡ undone_at p c n → Noting words q
    undo_note_asks {q} is =
        let u = ready.underway in
        let e = comes u.left u.steps_there in
        let l : length u.left ≡ suc (length e.0) = ap length e.1 in
        let r = undo_fits b u none_open e.1 few ready.record_is in
        subst (Noting words) (sym is)
        (record { room = omega (arith, u.few_steps, u.many_words); short = r.0; bounded = r.1; few_steps = omega (arith, u.few_steps) })

    pub undoes_on : {w' : List ℕ} → length w' ≡ length w → Undone b w w' n c → {words' : List ℕ} {q t : Progress} → q ≡ undone_at p c n
        → words' ≡ noted_words words q → t ≡ noted_at q next
        → Onward input f w words out p c w' words' out (record { state = t; saved = c })
    undoes_on {w'} long un {words'} {q} {t} qi ws is measure rows u r_is =
        let e = comes u.left u.steps_there in
        let s : t.steps ≡ p.steps + 1 = ap (λ (x : Progress). x.steps) is ∙ ap (λ (x : Progress). x.steps + 1) qi in (
          stands_on measure input f w' words' (set rows (slot_for p.quoted u.left p.adds) c) out t (ap (λ (x : Progress). x.done) is ∙ ap (λ (x : Progress). x.done) qi)
              (undone_on b u none_open e.1 few r_is long un next e.2 qi ws is),
          omega (arith, ap bit (ap not none_open), ap (λ (x : Progress). bit (not x.quoted)) is, ap (λ (x : Progress). bit (not x.quoted)) qi),
        )
