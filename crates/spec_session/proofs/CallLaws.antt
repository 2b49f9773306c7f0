-- The session call is its run, if it took a step; and what stands in the slices after it.
-- Assumes nothing.
use Rattle.std.specs.Prelude.{ℕ, ◌-◌, ◌≤◌, ◌<◌, ◌≡◌, Bool, true, false, cond, List, length, take, replicate}
use Rattle.std.proofs.Common.{sym, ap, arith, length-append, take_at}
use Rattle.std.proofs.Math.ListN.{get_or-append}
use Rattle.std.proofs.lemmas.List.{length-replicate}
use Rattle.words.specs.Words.{at}
use Rattle.spec_reading.specs.Call.{filled}
use Rattle.spec_session.specs.File.{File, Limits, Got, got, refused, file}
use Rattle.spec_session.specs.Steps.{at_start, run_steps}
use Rattle.spec_session.specs.Call.{Slices, long_enough, usable, untouched, after_run, after_file, session}

-- What is filled in stands at the front.
pub taken : (l used : List ℕ) (n : ℕ) → n ≡ length used → take n (filled l used) ≡ used
taken l used n e = take_at used (replicate (length l - length used) 0) n (sym e)

pub at_front : (l used : List ℕ) (k : ℕ) → k < length used → at (filled l used) k ≡ at used k
at_front l used k h = get_or-append used (replicate (length l - length used) 0) 0 k h

-- Filling in leaves the length.
pub filled_length : (l used : List ℕ) → length used ≤ length l → length (filled l used) ≡ length l
filled_length l used h = omega (arith, length-append used (replicate (length l - length used) 0), length-replicate {A = ℕ} (length l - length used) 0)

pub call_is : {C : Type 0} (blank : C) (l : Limits) (measure : List Bool → ℕ) (input : List ℕ) (f : File) (rest : List ℕ) → file l input ≡ got f rest
    → (s : Slices C) (k : ℕ) → k < (session blank l measure input s).answer.steps
    → session blank l measure input s ≡ after_run blank (run_steps measure (usable l s) f f.steps at_start) s
unfolding session
call_is blank l measure input f rest file-is s k = go (long_enough l s) (file l input) file-is
  where
    go : (b : Bool) (g : Got File) → g ≡ got f rest → k < (cond b (after_file blank l measure g s) (untouched 1 s)).answer.steps
        → cond b (after_file blank l measure g s) (untouched 1 s) ≡ after_run blank (run_steps measure (usable l s) f f.steps at_start) s
    go false g e h = absurd (omega arith)
    go true (refused n) e h = absurd (omega arith)
    go true (got f' rest') e h =
        let alike : f' ≡ f = cc in
        ap (λ (x : File). after_run blank (run_steps measure (usable l s) x x.steps at_start) s) alike
