-- The part of the output that is used, its first 65,535 bytes: lent to a step, and come back.
-- Assumes nothing.
use Prim.Native.Nat.{ℕ, min}
use mathlib.Core.Path.{◌≡◌, sym, subst, ◌∙◌}
use mathlib.Core.List.{List, ◌++◌}
use native.Mathlib.Omega.{arith}
use lib.ListN.{length, take, drop, length-append, length-drop}
use lib.Seq.{length-take-le, take_at}
use Rattle.words.proofs.Words.{take_lesser}
use Rattle.session_state.specs.declared.checkpoints.Checkpoint.{Checkpoint}
use Rattle.spec_session.specs.File.{File}
use Rattle.session_state.specs.declared.progress.Progress.{Progress}
use Rattle.session_state.specs.declared.progress.StepAnswer.{StepAnswer}
use Rattle.session_state.specs.Steps.{Ready, Onward}

module _ {n : ℕ} (o : List ℕ) (e : n ≡ min (length o) 65535) where
  pub used_many : n ≡ length (take n o)
  used_many = sym (length-take-le n o (omega arith))

  used_back : (part : List ℕ) → length part ≡ length (take n o) → part ≡ take 65535 (part ++ drop n o)
  used_back part l =
      let t : length part ≡ n = l ∙ sym used_many in
      let long : length (part ++ drop n o) ≡ length o = length-append part (drop n o) ∙ omega (arith, length-drop n o) in
      sym (take_at part (drop n o) n t) ∙ take_lesser n 65535 (part ++ drop n o) (omega arith)

  module _ {input : List ℕ} {f : File} {w words : List ℕ} {p : Progress} {c : Checkpoint} (r : Ready input f w words (take 65535 o) p c) where
    pub used_ready : Ready input f w words (take n o) p c
    used_ready = subst (λ (x : List ℕ). Ready input f w words x p c) (sym (take_lesser n 65535 o (omega arith))) r

    pub used_onward : (w' words' part : List ℕ) (a : StepAnswer) → length part ≡ length (take n o) → Onward input f w words (take n o) p c w' words' part a
        → Onward input f w words (take 65535 o) p c w' words' (take 65535 (part ++ drop n o)) a
    used_onward w' words' part a l h =
        subst (λ (x : List ℕ). Onward input f w words (take 65535 o) p c w' words' x a) (used_back part l)
        (subst (λ (x : List ℕ). Onward input f w words x p c w' words' part a) (take_lesser n 65535 o (omega arith)) h)
