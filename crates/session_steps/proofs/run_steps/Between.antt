-- The loop over the steps: what holds between two steps, what a step asks and leaves, and the end.
-- Assumes nothing.
use Prim.Native.Nat.{ℕ, ◌+◌, ◌-◌, ◌*◌, ◌<◌}
use mathlib.Core.Path.{◌≡◌, refl, sym, ap, subst, ◌∙◌}
use mathlib.Core.Bool.{Bool, true, false, not}
use mathlib.Core.List.{List}
use native.Mathlib.Omega.{arith}
use lib.Dec.{T as Holds}
use lib.ListN.{length, get_or, set, take}
use Rattle.session_state.specs.Records.{blank}
use Rattle.session_state.specs.declared.checkpoints.Checkpoint.{Checkpoint}
use Rattle.spec_session.specs.File.{Step}
use Rattle.spec_session.specs.Places.{StepsAt}
use Rattle.session_state.specs.declared.progress.Progress.{Progress}
use Rattle.session_state.specs.declared.progress.StepAnswer.{StepAnswer}
use Rattle.path.specs.Bytes.{bit}
use Rattle.session_state.specs.State.{the_file, Underway, Stands, slot_for}
use Rattle.session_state.specs.Steps.{Ready, Onward}
use Rattle.session_state.proofs.Answers.{stands_on, under, ended}
use Rattle.session_steps.specs.Driven.{Going, Driven}
use Rattle.session_steps.proofs.Answers.{bit_most}

-- What the slices hold, and where the run stands.
pub record Values : Type 0 where
  pub rows : List Checkpoint
  pub work : List ℕ
  pub words : List ℕ
  pub out : List ℕ
  pub progress : Progress

-- How far the run is from its end.
abbrev pub ahead : Progress → ℕ
ahead p = 2052 - (2 * (p.steps + bit p.done) + bit (not p.quoted))

-- Record k is the one that the step at a place takes.
abbrev pub Slot : (input : List ℕ) (p : Progress) (k : ℕ) → Type 0
Slot input p k = (k < 16) × ((ss : List Step) → StepsAt input p.at ss → k ≡ slot_for p.quoted ss p.adds)

-- The step of a run, with record k.
abbrev pub Stepped : (input : List ℕ) (m : Values) (k : ℕ) (w words out : List ℕ) (a : StepAnswer) → Type 0
Stepped input m k w words out a =
    Onward input (the_file input) m.work m.words (take 65535 m.out) m.progress (get_or m.rows k blank) w words (take 65535 out) a

-- The values after a step, whose record is stored.
abbrev pub after_step : Values → ℕ → StepAnswer → (w words out : List ℕ) → Values
after_step m k a w words out = record { rows = set m.rows k a.saved; work = w; words = words; out = out; progress = a.state }

pub goes : (b : Bool) → Holds (not b) → b ≡ false
goes true h = absurd h
goes false h = refl

pub stops : (b : Bool) → Holds (not (not b)) → b ≡ true
stops true h = refl
stops false h = absurd h

module _ (input : List ℕ) (first : Values) where
  -- A run that was over is as it was. Any other is under way, or it has ended.
  abbrev Since : Values → Bool → Type 0
  Since m true = m ≡ first
  Since m false = Stands first.progress.measure input (the_file input) m.work m.words m.rows (take 65535 m.out) m.progress m.progress.done

  abbrev pub Between : Values → Type 0
  Between m = Since m first.progress.done

  pub at_start : Going input first.work first.words first.rows first.out first.progress first.progress.done → Between first
  at_start g = go first.progress.done refl g
    where
      go : (b : Bool) → first.progress.done ≡ b → Going input first.work first.words first.rows first.out first.progress b → Since first b
      go true e h = refl
      go false e h = stands_on first.progress.measure input (the_file input) first.work first.words first.rows (take 65535 first.out) first.progress e h

  -- A run that goes on was not over.
  was_not_over : (m : Values) → Between m → m.progress.done ≡ false → first.progress.done ≡ false
  was_not_over m s e = go first.progress.done refl s
    where
      go : (b : Bool) → first.progress.done ≡ b → Since m b → b ≡ false
      go true d h = sym d ∙ sym (ap (λ (x : Values). x.progress.done) h) ∙ e
      go false d h = refl

  under_way : (m : Values) → Between m → m.progress.done ≡ false
      → Underway first.progress.measure input (the_file input) m.work m.words m.rows (take 65535 m.out) m.progress
  under_way m s e =
      under first.progress.measure input (the_file input) m.work m.words m.rows (take 65535 m.out) m.progress e (subst (λ (b : Bool). Since m b) (was_not_over m s e) s)

  module _ (m : Values) (s : Between m) (e : m.progress.done ≡ false) (k : ℕ) (slot : Slot input m.progress k) where
    abbrev u : Underway first.progress.measure input (the_file input) m.work m.words m.rows (take 65535 m.out) m.progress
    u = under_way m s e

    pub in_rows : k < length m.rows
    in_rows = omega (arith, slot.0, u.many_rows)

    is_slot : k ≡ slot_for m.progress.quoted u.left m.progress.adds
    is_slot = slot.1 u.left u.steps_there

    record_is : get_or m.rows (slot_for m.progress.quoted u.left m.progress.adds) blank ≡ get_or m.rows k blank
    record_is = ap (λ (j : ℕ). get_or m.rows j blank) (sym is_slot)

    pub ready : Ready input (the_file input) m.work m.words (take 65535 m.out) m.progress (get_or m.rows k blank)
    ready = record { measure = first.progress.measure; rows = m.rows; underway = u; record_is = record_is }

    module _ (a : StepAnswer) (w words out : List ℕ) (st : Stepped input m k w words out a) where
      pub goes_on : Between (after_step m k a w words out)
      goes_on =
          subst (λ (b : Bool). Since (after_step m k a w words out) b) (sym (was_not_over m s e))
          (subst (λ (j : ℕ). Stands first.progress.measure input (the_file input) w words (set m.rows j a.saved) (take 65535 out) a.state a.state.done) (sym is_slot)
          (st first.progress.measure m.rows u record_is).0)

      pub falls : ahead a.state < ahead m.progress
      falls = omega (arith, (st first.progress.measure m.rows u record_is).1, u.few_steps, ap bit e, bit_most (not m.progress.quoted))

  -- The run is over.
  pub at_end : (m : Values) → Between m → m.progress.done ≡ true
      → Driven input first.work first.words first.rows first.out first.progress m.work m.words m.rows m.out m.progress first.progress.done
  at_end m s e = go first.progress.done s
    where
      go : (b : Bool) → Since m b
          → Driven input first.work first.words first.rows first.out first.progress m.work m.words m.rows m.out m.progress b
      go true h = (
        ap (λ (x : Values). x.work) h,
        ap (λ (x : Values). x.words) h,
        ap (λ (x : Values). x.rows) h,
        ap (λ (x : Values). x.out) h,
        ap (λ (x : Values). x.progress) h,
      )
      go false h = ended first.progress.measure input (the_file input) m.work m.words m.rows (take 65535 m.out) m.progress e h
