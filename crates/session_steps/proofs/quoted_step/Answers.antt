-- A step while a quote is open: its taking keeps the add, any other step drops it. What each call asks, and what it leaves.
-- Assumes nothing.
use Prim.Native.Nat.{ℕ, suc, ◌+◌, ◌-◌, ◌*◌, ◌<◌}
use mathlib.Core.Path.{◌≡◌, refl, sym, ap, subst, ◌∙◌}
use mathlib.Core.Bool.{Bool, true, false, not}
use mathlib.Core.List.{List, [], ◌∷◌}
use mathlib.Core.Logic.{◌≢◌}
use mathlib.Core.Option.{none, some-injective}
use native.Mathlib.Omega.{arith}
use lib.Dec.{ltb}
use lib.ListN.{length, get_or, set, take, length-append}
use lib.Seq.{take_at, set-get_or}
use borrow.Author.Tests.{lt-ltb}
use Rattle.words.specs.Choice.{cond_true, clash}
use Rattle.words.specs.Lists.{All}
use Rattle.session_state.specs.Records.{blank}
use Rattle.session_state.specs.declared.checkpoints.Checkpoint.{Checkpoint}
use Rattle.path.specs.declared.Measure.{Measure}
use Rattle.path.specs.Measure.{measure_of}
use Rattle.path.specs.Bytes.{bit}
use Rattle.spec_session.specs.File.{File, Step, take_quote}
use Rattle.spec_session.specs.Places.{StepsAt, StepNamed}
use Rattle.spec_session.specs.Trees.{nth}
use Rattle.spec_session.proofs.Trees.{nth_end}
use Rattle.spec_session.specs.Premises.{IfAny}
use Rattle.spec_session.proofs.StepLaws.{run_unseen}
use Rattle.spec_session.specs.Steps.{words_of, Run, with_words, run_steps}
use Rattle.file_parts.specs.Loaded.{forgets}
use Rattle.file_parts.specs.declared.session_file.Step.TheVariants as code
use Rattle.std.specs.Prelude.{Some, None}
use Rattle.file_parts.specs.declared.session_file.Step as code_step
use Rattle.file_parts.specs.declared.session_file.NextStep.{NextStep}
use Rattle.file_parts.specs.Loaded.{FirstStep, step_of}
use Rattle.session_state.specs.declared.progress.Progress.{Progress}
use Rattle.session_state.specs.declared.progress.StepAnswer.{StepAnswer}
use Rattle.session_state.specs.Stored.{noted_words}
use Rattle.session_state.specs.Moves.{noted_at, with_quote, undone_at}
use Rattle.session_state.specs.State.{standing, whole_run, after_words, Shows, Stocked, Underway, Stands, slot_for}
use Rattle.session_state.specs.Steps.{Comes, Ready, Onward}
use Rattle.session_state.proofs.Runs.{run_taking}
use Rattle.session_state.proofs.States.{roomy_later, history_later, go_on}
use Rattle.session_state.proofs.Answers.{stands_on}
use Rattle.session_steps.specs.undo_step.Effects.{Undoing, Undone}
use Rattle.session_steps.proofs.undo_step.Undoing.{found, was, undoing, present, stocked, history}

module _ {measure : Measure} {input : List ℕ} {f : File} {w words : List ℕ} {rows : List Checkpoint} {out : List ℕ} {p : Progress} (u : Underway measure input f w words rows out p)
    (is_open : p.quoted ≡ true) where
  shown : Shows measure true f (length out) u.state u.past u.session
  shown = subst (λ (b : Bool). Shows measure b f (length out) u.state u.past u.session) is_open u.shown

  -- The quote's add is the last one.
  adds_are : p.adds ≡ length u.state.past + 1
  adds_are = sym u.history.long ∙ ap length shown.1 ∙ length-append u.state.past (u.state.now ∷ [])

  slot : slot_for p.quoted u.left p.adds ≡ p.adds - 1
  slot =
      ap (λ (b : Bool). slot_for b u.left p.adds) is_open
      ∙ cond_true (ltb (p.adds - 1) 16) (p.adds - 1) 0 (lt-ltb (p.adds - 1) 16 (omega (arith, u.few_adds, adds_are)))

  -- ---- a taking

  taken_on : (next : ℕ) {rest : List Step} → u.left ≡ take_quote ∷ rest → StepsAt input next rest → {words' : List ℕ}
      → words' ≡ noted_words words p → Underway measure input f w words' rows out (noted_at (with_quote p false) next)
  taken_on next {rest} e there {words'} ws =
      go_on measure input f w words words' rows out (with_quote p false) next rest u.past u.session (standing u.past u.session) u.present later
      (history_later out out refl f w w (λ j l. refl) p.forgets p.steps (p.steps + 1) (omega arith) rows p.counts.size p.adds u.past u.session.cache
      (λ j x y. refl) refl u.history)
      (λ z. ap forgets (sym e) ∙ u.known z) u.few_adds u.goes there
      (subst (λ (ss : List Step). All (StepNamed (length f.atoms) (length f.pairs)) ss) e u.steps_named).1
      (let l : length u.left ≡ suc (length rest) = ap length e in omega (arith, u.few_steps)) u.many_rows u.many_words (λ z. clash cc) refl run ws u.measure_is
    where
      later : Stocked input f w (p.steps + 1)
      later =
          let k = u.stocked in
          record { tables = k.tables; places = k.places; atoms_there = k.atoms_there; room = roomy_later w p.steps (p.steps + 1) (omega arith) k.room }

      run : whole_run measure f (length out)
          ≡ after_words p.steps (take (3 * p.steps) words) (with_words (words_of u.session) (run_steps (measure_of measure) (length out) f rest (standing u.past u.session)))
      run =
          u.same
          ∙ ap (λ (ss : List Step). after_words p.steps (take (3 * p.steps) words) (run_steps (measure_of measure) (length out) f ss u.state)) e
          ∙ ap (λ (r : Run). after_words p.steps (take (3 * p.steps) words) r)
          (run_taking measure (length out) f u.state (words_of u.session) (standing u.past u.session) rest shown.0)

  -- ---- a drop

  module _ {r : Checkpoint} (r_is : get_or rows (slot_for p.quoted u.left p.adds) blank ≡ r) where
    row : get_or rows (p.adds - 1) blank ≡ r
    row = ap (λ (k : ℕ). get_or rows k blank) (sym slot) ∙ r_is

    few : p.adds - 1 < p.adds
    few = omega (arith, adds_are)

    flag : true ≡ true → p.forgets ≡ true
    flag q = u.quote_saved is_open

    drop_takes : (0 < p.adds) × Undoing true w p.depth (p.adds - 1) r
    drop_takes = (omega (arith, adds_are), undoing true u few row flag)

    -- The session before the quote's add is the one that the definitions have.
    last_at : p.adds - 1 ≡ length u.state.past
    last_at = omega (arith, adds_are)

    was_now : u.state.now ≡ was true u few row flag
    was_now =
        some-injective u.state.now (was true u few row flag)
        (sym (nth_end u.state.past u.state.now) ∙ (λ i. nth (sym shown.1 i) (sym last_at i)) ∙ (found true u few row flag).is)

    past_before : u.state.past ≡ take (p.adds - 1) u.past
    past_before =
        sym (take_at u.state.past (u.state.now ∷ []) (p.adds - 1) (sym last_at)) ∙ ap (take (p.adds - 1)) (sym shown.1)

    dropped_on : {w' : List ℕ} → length w' ≡ length w → Undone true w w' (p.adds - 1) r → IfAny (λ x. x ≢ take_quote) (nth u.left 0)
        → Underway measure input f w' words rows out (undone_at p r (p.adds - 1))
    dropped_on {w'} long a other =
        record {
          left = u.left;
          past = take (p.adds - 1) u.past;
          session = was true u few row flag;
          present = present true u few row flag long a p.steps (omega arith);
          stocked = stocked true u few row flag long a p.steps (omega arith);
          history = history true u few row flag long a p.steps (omega arith);
          known = u.known;
          few_adds = omega (arith, u.few_adds);
          goes = refl;
          steps_there = u.steps_there;
          steps_named = u.steps_named;
          few_steps = u.few_steps;
          many_rows = u.many_rows;
          many_words = u.many_words;
          quote_saved = λ z. clash cc;
          state = standing (take (p.adds - 1) u.past) (was true u few row flag);
          shown = refl;
          measure_is = u.measure_is;
          same =
              u.same
              ∙ ap (λ (y : Run). after_words p.steps (take (3 * p.steps) words) y)
              (sym (run_unseen (measure_of measure) (length out) f u.left other none u.state)
              ∙ (λ i. run_steps (measure_of measure) (length out) f u.left (standing (past_before i) (was_now i))));
        }

-- ---- the step that comes

-- It is a taking.
pub taking : (input : List ℕ) (place : ℕ) (n : NextStep) (next : ℕ) → n.step ≡ code.Take → n.next ≡ next → Comes input place (Some n)
    → Comes input place (Some (record { step = code.Take; next = next }))
taking input place n next s k comes ss there =
    let h = comes ss there in (h.0, h.1 ∙ ap (λ (x : code_step.Step). step_of x ∷ h.0) s, subst (λ (x : ℕ). StepsAt input x h.0) k h.2)

take_is : (s : code_step.Step) → step_of s ≡ take_quote → s ≡ code.Take
take_is (code.Add node) e = clash cc
take_is (code.Restore number) e = clash cc
take_is (code.Forget number) e = clash cc
take_is (code.Quote node) e = clash cc
take_is code.Take e = refl

-- It is another, or there is none.
pub another : (input : List ℕ) (ss : List Step) (n : NextStep) → n.step ≢ code.Take → FirstStep input ss (Some n) → IfAny (λ x. x ≢ take_quote) (nth ss 0)
another input ss n differs h = rw h.1 (λ e. differs (take_is n.step e))

pub no_step : (input : List ℕ) (ss : List Step) → FirstStep input ss None → IfAny (λ x. x ≢ take_quote) (nth ss 0)
no_step input ss h = rw h tt

-- ---- the answers

module _ {input : List ℕ} {f : File} {w words out : List ℕ} {p : Progress} {c : Checkpoint} (ready : Ready input f w words out p c)
    (is_open : p.quoted ≡ true) where
  -- The run goes on, with the record as it was.
  goes_on : (measure : Measure) {w' words' : List ℕ} {t : Progress} (a : StepAnswer) → a ≡ record { state = t; saved = c } → (rows : List Checkpoint) (k : ℕ) → get_or rows k blank ≡ c → t.done ≡ false
      → Underway measure input f w' words' rows out t → Stands measure input f w' words' (set rows k a.saved) out a.state a.state.done
  goes_on measure {w'} {words'} {t} a is rows k r_is d u =
      subst (λ (x : StepAnswer). Stands measure input f w' words' (set rows k x.saved) out x.state x.state.done) (sym is)
      (stands_on measure input f w' words' (set rows k c) out t d
      (subst (λ (y : List Checkpoint). Underway measure input f w' words' y out t) (sym (ap (set rows k) (sym r_is) ∙ set-get_or rows k blank)) u))

  module _ (next : ℕ) (comes : Comes input p.at (Some (record { step = code.Take; next = next }))) where
    pub takes_on : {words' : List ℕ} {a : StepAnswer} → words' ≡ noted_words words p
        → a ≡ record { state = noted_at (with_quote p false) next; saved = c } → Onward input f w words out p c w words' out a
    takes_on {words'} {a} ws is measure rows u r_is =
        let e = comes u.left u.steps_there in
        let k = slot_for p.quoted u.left p.adds in (
          goes_on measure a is rows k r_is u.goes (taken_on u is_open next e.1 e.2 ws),
          omega (arith, ap (λ (b : Bool). bit (not b)) is_open, ap (λ (x : StepAnswer). x.state.steps) is, ap (λ (x : StepAnswer). bit (not x.state.quoted)) is),
        )

  pub drop_asks : (0 < p.adds) × Undoing true w p.depth (p.adds - 1) c
  drop_asks = drop_takes ready.underway is_open ready.record_is

  -- The next step is no taking.
  module _ (other : (ss : List Step) → StepsAt input p.at ss → IfAny (λ x. x ≢ take_quote) (nth ss 0)) where
    pub drops_on : {w' : List ℕ} {a : StepAnswer} → length w' ≡ length w → Undone true w w' (p.adds - 1) c
        → a ≡ record { state = undone_at p c (p.adds - 1); saved = c } → Onward input f w words out p c w' words out a
    drops_on {w'} {a} long un is measure rows u r_is =
        let k = slot_for p.quoted u.left p.adds in (
          goes_on measure a is rows k r_is refl (dropped_on u is_open r_is long un (other u.left u.steps_there)),
          omega (arith, ap (λ (b : Bool). bit (not b)) is_open, ap (λ (x : StepAnswer). x.state.steps) is, ap (λ (x : StepAnswer). bit (not x.state.quoted)) is),
        )
