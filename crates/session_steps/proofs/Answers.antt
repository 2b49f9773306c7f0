-- What the answer of an add means, and that of the end: the run goes on, or it is over. What each call of an add asks.
-- Assumes nothing.
use Prim.Native.Nat.{ℕ, ◌+◌, ◌≤◌, ◌<◌}
use mathlib.Core.Path.{◌≡◌, refl, sym, ap, subst, ◌∙◌}
use mathlib.Core.Bool.{Bool, true, false, not, cond}
use mathlib.Core.List.{List, ◌∷◌}
use native.Mathlib.Omega.{arith}
use lib.Dec.{ltb}
use lib.ListN.{length, set}
use borrow.Author.Tests.{ltb-true, ltb-false}
use Rattle.session_state.specs.declared.checkpoints.Checkpoint.{Checkpoint}
use Rattle.path.specs.Measure.{measure_of}
use Rattle.allocator.specs.declared.NodePtr.{NodePtr}
use Rattle.spec_session.specs.File.{File, Step}
use Rattle.spec_session.specs.Places.{StepsAt}
use Rattle.file_parts.specs.Loaded.{FirstStep}
use Rattle.file_parts.specs.declared.session_file.Step.TheVariants as code
use Rattle.std.specs.Prelude.{Some, None, Result, Ok, Err}
use Rattle.spec_session.specs.Steps.{run_steps}
use Rattle.write_place.specs.State.{todo_of}
use Rattle.write_place.specs.declared.Outcome.{Outcome}
use Rattle.write_place.specs.declared.Refused.{Refused}
use Rattle.write_place.specs.declared.AddError.TheVariants.{TooManyOpen, OutputFull}
use Rattle.write_place.specs.declared.Outcome.TheVariants as outcome
use Rattle.session_state.specs.declared.progress.Progress.{Progress}
use Rattle.session_state.specs.declared.progress.StepAnswer.{StepAnswer}
use Rattle.path.specs.Bytes.{bit}
use Rattle.session_state.specs.Stored.{noted_words, record_of}
use Rattle.session_state.specs.Moves.{noted_at, with_quote, after_outcome, refusal_of, stopped_at}
use Rattle.session_state.specs.Questions.{question_of}
use Rattle.session_state.specs.Errors.{number_of}
use Rattle.session_state.specs.declared.step_error.StepError.{StepError}
use Rattle.session_state.specs.declared.step_error.StepError.TheVariants.{Finished, TooManyAdds, NoSuchAdd, Add, NoQuote}
use Rattle.session_state.specs.State.{standing, waits, Underway, slot_for, add_of}
use Rattle.session_state.specs.Steps.{Comes, Ready, Onward}
use Rattle.session_steps.specs.Effects.{told_add, Added}
use Rattle.session_state.proofs.Runs.{run_ends, run_none_open, run_finished, run_full}
use Rattle.session_steps.proofs.Adding.{added_on, added_off}
use Rattle.session_state.proofs.Answers.{stands_on, stands_off, stops}

-- No error has the number 0.
not_0 : (error : StepError) → number_of error ≡ 0 → ⊥
not_0 Finished e = omega (arith, e)
not_0 TooManyAdds e = omega (arith, e)
not_0 NoSuchAdd e = omega (arith, e)
not_0 (Add TooManyOpen) e = omega (arith, e)
not_0 (Add OutputFull) e = omega (arith, e)
not_0 NoQuote e = omega (arith, e)

pub bit_most : (b : Bool) → bit b ≤ 1
bit_most true = omega arith
bit_most false = omega arith

-- Neither question gets no.
pub not_asked : (p : Progress) → ◌≡◌ {A = ℕ} 0 (question_of p.finished p.adds) → (p.finished ≡ false) × (p.adds < 16)
not_asked p e = go p.finished refl (ltb p.adds 16) refl e
  where
    go : (b : Bool) → p.finished ≡ b → (d : Bool) → ltb p.adds 16 ≡ d → ◌≡◌ {A = ℕ} 0 (cond b 9 (cond d 0 10)) → (p.finished ≡ false) × (p.adds < 16)
    go true fin d m q = absurd (omega (arith, q))
    go false fin true m q = (fin, ltb-true p.adds 16 m)
    go false fin false m q = absurd (omega (arith, q))

module _ {input : List ℕ} {f : File} {w words out : List ℕ} {p : Progress} {c : Checkpoint} (ready : Ready input f w words out p c)
    (none_open : p.quoted ≡ false) where
  pub stops_at_end : {a : StepAnswer} → a ≡ stopped_at p 0 c → Comes input p.at None → Onward input f w words out p c w words out a
  stops_at_end {a} is comes =
      stops input f w words out p c none_open 0 a is (λ measure rows u.
      let e = comes u.left u.steps_there in
      ap (λ (ss : List Step). run_steps (measure_of measure) (length out) f ss (standing u.past u.session)) e ∙ run_ends measure (length out) f u.past u.session)

  -- A taking with no quote open.
  pub stops_17 : {next : ℕ} {a : StepAnswer} → a ≡ stopped_at p 17 c → Comes input p.at (Some (record { step = code.Take; next = next })) → Onward input f w words out p c w words out a
  stops_17 {next} {a} is comes =
      stops input f w words out p c none_open 17 a is (λ measure rows u.
      let e = comes u.left u.steps_there in
      ap (λ (ss : List Step). run_steps (measure_of measure) (length out) f ss (standing u.past u.session)) e.1 ∙ run_none_open measure (length out) f u.past u.session e.0)

  module _ (quotes : Bool) (node : NodePtr) (next : ℕ) (told : Comes input p.at (told_add quotes node next)) where
    -- The steps that are left begin with it.
    comes : (ss : List Step) → StepsAt input p.at ss → (rest : List Step) × (ss ≡ add_of quotes node.0 ∷ rest) × StepsAt input next rest
    comes ss there = go quotes (told ss there)
      where
        go : (b : Bool) → FirstStep input ss (told_add b node next) → (rest : List Step) × (ss ≡ add_of b node.0 ∷ rest) × StepsAt input next rest
        go false q = q
        go true q = q

    -- Question 9.
    stops_9 : (a : StepAnswer) → a ≡ stopped_at p 9 c → p.finished ≡ true → Onward input f w words out p c w words out a
    stops_9 a is fin =
        stops input f w words out p c none_open 9 a is (λ measure rows u.
        let e = comes u.left u.steps_there in
        ap (λ (ss : List Step). run_steps (measure_of measure) (length out) f ss (standing u.past u.session)) e.1
        ∙ run_finished measure (length out) f u.past u.session quotes node.0 e.0
        (u.present.waiting ∙ ap (λ (b : Bool). waits b (todo_of f w p.opens)) fin))

    -- Question 10.
    stops_10 : (a : StepAnswer) → a ≡ stopped_at p 10 c → p.finished ≡ false → 16 ≤ p.adds → Onward input f w words out p c w words out a
    stops_10 a is fin full =
        stops input f w words out p c none_open 10 a is (λ measure rows u.
        let e = comes u.left u.steps_there in
        ap (λ (ss : List Step). run_steps (measure_of measure) (length out) f ss (standing u.past u.session)) e.1
        ∙ run_full measure (length out) f u.past u.session quotes node.0 e.0 (todo_of f w p.opens)
        (u.present.waiting ∙ ap (λ (b : Bool). waits b (todo_of f w p.opens)) fin) (omega (arith, u.history.long)))

    -- Both questions.
    pub stops_asked : (error : StepError) → number_of error ≡ question_of p.finished p.adds → {a : StepAnswer} → a ≡ stopped_at p (number_of error) c
        → Onward input f w words out p c w words out a
    stops_asked error e {a} is = go p.finished refl (ltb p.adds 16) refl e
      where
        go : (b : Bool) → p.finished ≡ b → (d : Bool) → ltb p.adds 16 ≡ d → number_of error ≡ cond b 9 (cond d 0 10) → Onward input f w words out p c w words out a
        go true fin d m q = stops_9 a (is ∙ ap (λ (x : ℕ). stopped_at p x c) q) fin
        go false fin true m q = absurd (not_0 error q)
        go false fin false m q = stops_10 a (is ∙ ap (λ (x : ℕ). stopped_at p x c) q) fin (ltb-false p.adds 16 m)

    module _ (free : (p.finished ≡ false) × (p.adds < 16)) where
      module _ {w' out' : List ℕ} {q : Progress} (ad : Added input w out w' out' p node q) where
        steps_same : (o : Result Outcome Refused) → (after_outcome p o).steps ≡ p.steps
        steps_same (Ok (outcome.Done pl)) = refl
        steps_same (Ok (outcome.Stopped pl)) = refl
        steps_same (Err r) = refl

        same_steps : q.steps ≡ p.steps
        same_steps = ap (λ (x : Progress). x.steps) ad.is ∙ steps_same ad.outcome

        -- A refused add.
        pub adds_off : (saved : Checkpoint) {t : Progress} → q.done ≡ true → t ≡ refusal_of quotes p q
            → Onward input f w words out p c w' words out' (record { state = t; saved = saved })
        adds_off saved {t} d is measure rows u r_is =
            let e = comes u.left u.steps_there in
            let r = refused_so quotes in (
              stands_off measure input f w' words (set rows (slot_for p.quoted u.left p.adds) saved) out' t (ap (λ (x : Progress). x.done) is ∙ r.0)
                  (added_off quotes next u none_open e.1 e.2 free.0 free.1 ad d is),
              omega (arith, ap (λ (x : Progress). x.steps) is, r.1, ap (λ (x : Progress). bit x.done) is, ap bit r.0, bit_most (not p.quoted)),
            )
          where
            refused_so : (b : Bool) → ((refusal_of b p q).done ≡ true) × ((refusal_of b p q).steps ≡ p.steps)
            refused_so false = (d, same_steps)
            refused_so true = (refl, refl)

        -- An add that is not refused.
        pub adds_on : {words' : List ℕ} {saved : Checkpoint} {t : Progress} → saved ≡ record_of w p → q.done ≡ false
            → {k : Progress} → k ≡ with_quote q quotes → words' ≡ noted_words words k → t ≡ noted_at k next
            → Onward input f w words out p c w' words' out' (record { state = t; saved = saved })
        adds_on {words'} {saved} {t} sv d {k} kept ws is measure rows u r_is =
            let e = comes u.left u.steps_there in
            let is' : t ≡ noted_at (with_quote q quotes) next = is ∙ ap (λ (x : Progress). noted_at x next) kept in
            let ws' : words' ≡ noted_words words q =
            ws ∙ ap (λ (x : Progress). noted_words words x) kept in
            let s : t.steps ≡ q.steps + 1 = ap (λ (x : Progress). x.steps) is' in (
              stands_on measure input f w' words' (set rows (slot_for p.quoted u.left p.adds) saved) out' t (ap (λ (x : Progress). x.done) is' ∙ d)
                  (subst (λ (x : Checkpoint). Underway measure input f w' words' (set rows (slot_for p.quoted u.left p.adds) x) out' t) (sym sv)
                  (added_on quotes next u none_open e.1 e.2 free.0 free.1 ad d ws' is')),
              omega (arith, same_steps, bit_most (not p.quoted)),
            )
