-- Where a session stands after each move: a refusal, a finished step, an add, a quote, an undo.
use Rattle.std.specs.Prelude.{ℕ, ◌+◌, Bool, true, false, Result, Ok, Err}
use Rattle.session_state.specs.declared.checkpoints.Checkpoint.{Checkpoint}
use Rattle.write_counts.specs.declared.Counts.{Counts}
use Rattle.write_place.specs.declared.Place.{Place}
use Rattle.write_place.specs.declared.Outcome.{Outcome}
use Rattle.write_place.specs.declared.Outcome.TheVariants as outcome
use Rattle.write_place.specs.declared.Refused.{Refused}
use Rattle.write_place.specs.Numbers.{question_of}
use Rattle.session_state.specs.declared.progress.Progress.{Progress}
use Rattle.session_state.specs.declared.progress.StepAnswer.{StepAnswer}

-- The run ends with a number.
abbrev pub refused_at : Progress → ℕ → Progress
refused_at p n =
    record {
      at = p.at;
      steps = p.steps;
      adds = p.adds;
      opens = p.opens;
      depth = p.depth;
      counts = p.counts;
      finished = p.finished;
      number = n;
      done = true;
      forgets = p.forgets;
      quoted = p.quoted;
      measure = p.measure;
    }

-- A step is finished; the next one stands at `next`.
abbrev pub noted_at : Progress → ℕ → Progress
noted_at p next =
    record {
      at = next;
      steps = p.steps + 1;
      adds = p.adds;
      opens = p.opens;
      depth = p.depth;
      counts = p.counts;
      finished = p.finished;
      number = p.number;
      done = p.done;
      forgets = p.forgets;
      quoted = p.quoted;
      measure = p.measure;
    }

-- Another place of the writer, and another count of adds.
abbrev pub moved_to : Progress → Place → (adds : ℕ) → (finished : Bool) → Progress
moved_to p q n b =
    record {
      at = p.at;
      steps = p.steps;
      adds = n;
      opens = q.opens;
      depth = q.depth;
      counts = q.counts;
      finished = b;
      number = 0;
      done = false;
      forgets = p.forgets;
      quoted = false;
      measure = p.measure;
    }

-- A quote is open, or none.
abbrev pub with_quote : Progress → Bool → Progress
with_quote p b =
    record {
      at = p.at;
      steps = p.steps;
      adds = p.adds;
      opens = p.opens;
      depth = p.depth;
      counts = p.counts;
      finished = p.finished;
      number = p.number;
      done = p.done;
      forgets = p.forgets;
      quoted = b;
      measure = p.measure;
    }

-- The progress after an add.
abbrev pub after_outcome : Progress → Result Outcome Refused → Progress
after_outcome p (Ok (outcome.Done q)) = moved_to p q (p.adds + 1) true
after_outcome p (Ok (outcome.Stopped q)) = moved_to p q (p.adds + 1) false
after_outcome p (Err r) = refused_at (moved_to p r.place p.adds false) (question_of r.error)

-- The progress p before an add that is refused, and q after it: a quote of it leaves the one before.
abbrev pub refusal_of : (quotes : Bool) → (p q : Progress) → Progress
refusal_of false p q = q
refusal_of true p q = refused_at p q.number

-- What was counted, as a record has it.
abbrev pub counts_in : Checkpoint → Counts
counts_in r = record { size = r.size; references = r.references; prefix_bytes = r.prefix_bytes }

-- The progress after an undo.
abbrev pub undone_at : Progress → Checkpoint → ℕ → Progress
undone_at p r n = moved_to p (record { opens = r.opens; depth = r.depth; counts = counts_in r }) n false

-- The run ends with a number, and the record stays.
abbrev pub stopped_at : Progress → ℕ → Checkpoint → StepAnswer
stopped_at p n c = record { state = refused_at p n; saved = c }
