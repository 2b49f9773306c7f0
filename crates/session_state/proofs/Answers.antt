-- What a step's answer means: the run goes on, or it is over.
-- Assumes nothing.
use Prim.Native.Nat.{ℕ, ◌*◌}
use mathlib.Core.Path.{◌≡◌, sym, ap, subst, ◌∙◌}
use mathlib.Core.Bool.{Bool, true, false}
use mathlib.Core.List.{List}
use native.Mathlib.Omega.{arith}
use lib.ListN.{length, take}
use Rattle.write_place.proofs.Sizes.{size_written}
use Rattle.session_state.specs.declared.checkpoints.Checkpoint.{Checkpoint}
use Rattle.path.specs.declared.Measure.{Measure}
use Rattle.path.specs.Measure.{measure_of}
use Rattle.spec_session.specs.File.{File}
use Rattle.spec_session.specs.Steps.{State, Run, stop_at, run_steps}
use Rattle.session_state.specs.declared.progress.Progress.{Progress}
use Rattle.session_state.specs.declared.progress.StepAnswer.{StepAnswer}
use Rattle.session_state.specs.Moves.{refused_at, stopped_at}
use Rattle.session_state.specs.State.{whole_run, standing, after_words, Shows, Underway, Ended, Stands}
use Rattle.session_state.specs.Steps.{Onward}
use Rattle.session_state.proofs.Runs.{words_ended}

module _ (m : Measure) (input : List ℕ) (f : File) (w words : List ℕ) (rows : List Checkpoint) (out : List ℕ) (t : Progress) where
  pub stands_on : t.done ≡ false → Underway m input f w words rows out t → Stands m input f w words rows out t t.done
  stands_on d u = subst (λ (b : Bool). Stands m input f w words rows out t b) (sym d) u

  pub stands_off : t.done ≡ true → Ended m f words out t → Stands m input f w words rows out t t.done
  stands_off d u = subst (λ (b : Bool). Stands m input f w words rows out t b) (sym d) u

  pub under : t.done ≡ false → Stands m input f w words rows out t t.done → Underway m input f w words rows out t
  under d s = subst (λ (b : Bool). Stands m input f w words rows out t b) d s

  pub ended : t.done ≡ true → Stands m input f w words rows out t t.done → Ended m f words out t
  ended d s = subst (λ (b : Bool). Stands m input f w words rows out t b) d s

module _ (input : List ℕ) (f : File) (w words out : List ℕ) (p : Progress) (c : Checkpoint) (none_open : p.quoted ≡ false) where
  -- The run from the session that is held, where no quote is open.
  pub same_standing : (m : Measure) (rows : List Checkpoint) (u : Underway m input f w words rows out p)
      → whole_run m f (length out) ≡ after_words p.steps (take (3 * p.steps) words) (run_steps (measure_of m) (length out) f u.left (standing u.past u.session))
  same_standing m rows u =
      u.same
      ∙ ap (λ (st : State). after_words p.steps (take (3 * p.steps) words) (run_steps (measure_of m) (length out) f u.left st))
      (subst (λ (b : Bool). Shows m b f (length out) u.state u.past u.session) none_open u.shown)

  -- The run is over at a step.
  over : (m : Measure) (rows : List Checkpoint) (u : Underway m input f w words rows out p) (n : ℕ)
      → run_steps (measure_of m) (length out) f u.left (standing u.past u.session) ≡ stop_at n u.session → Ended m f words out (refused_at p n)
  over m rows u n e =
      record {
        session = u.session;
        size_is = size_written u.present.writes;
        bytes_are = u.present.writes.bytes_are;
        short = u.present.running.short;
        few_steps = omega (arith, u.few_steps);
        many_words = u.many_words;
        same = same_standing m rows u ∙ ap (λ (r : Run). after_words p.steps (take (3 * p.steps) words) r) e ∙ words_ended p.steps (take (3 * p.steps) words) n u.session;
      }

  -- The answer of a step that is refused, or of the end.
  pub stops : (n : ℕ) (a : StepAnswer) → a ≡ stopped_at p n c
      → ((m : Measure) (rows : List Checkpoint) (u : Underway m input f w words rows out p)
      → run_steps (measure_of m) (length out) f u.left (standing u.past u.session) ≡ stop_at n u.session)
      → Onward input f w words out p c w words out a
  stops n a is h =
      subst (λ (x : StepAnswer). Onward input f w words out p c w words out x) (sym is) (λ m rows u r. (over m rows u n (h m rows u), omega arith))
