-- What a session call's answer means, in the terms of the definition, and what is left in its slices.
use Rattle.std.specs.Prelude.{ℕ, ◌*◌, ◌≡◌, Bool, true, false, List, take}
use Rattle.spec_reading.specs.Call.{zeroed, filled}
use Rattle.spec_session.specs.Call.{Answer}
use Rattle.session_state.specs.declared.progress.Progress.{Progress}
use Rattle.session_answer.specs.declared.SessionAnswer.{SessionAnswer}

abbrev pub answer_of : SessionAnswer → Answer
answer_of r = record { number = r.number; steps = r.steps; size = r.size }

-- The number, the finished steps and the bytes written.
abbrev pub answer_at : Progress → Answer
answer_at p = record { number = p.number; steps = p.steps; size = p.counts.size }

-- What the run leaves of work, words and output: the words of the finished steps and the bytes written. Everything else is zero. With 1 to 8 they are as they were.
abbrev pub Cleared : (p : Progress) (w ws o w' ws' o' : List ℕ) → (refused : Bool) → Type 0
Cleared p w ws o w' ws' o' true = (w' ≡ w) × (ws' ≡ ws) × (o' ≡ o)
Cleared p w ws o w' ws' o' false = (w' ≡ zeroed w) × (ws' ≡ filled ws (take (3 * p.steps) ws)) × (o' ≡ filled o (take p.counts.size o))
