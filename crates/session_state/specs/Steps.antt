-- What a step takes and leaves, in the terms of the states.
use Rattle.std.specs.Prelude.{ℕ, ◌+◌, ◌*◌, ◌<◌, ◌≡◌, Bool, true, false, not, List, get_or, set, Option, Some}
use Rattle.session_state.specs.Records.{blank}
use Rattle.session_state.specs.declared.checkpoints.Checkpoint.{Checkpoint}
use Rattle.path.specs.declared.Measure.{Measure}
use Rattle.spec_session.specs.File.{File, Step}
use Rattle.spec_session.specs.Places.{StepsAt}
use Rattle.file_parts.specs.Loaded.{FirstStep}
use Rattle.file_parts.specs.declared.session_file.NextStep.{NextStep}
use Rattle.file_parts.specs.declared.session_file.Step.TheVariants as code
use Rattle.session_state.specs.declared.progress.Progress.{Progress}
use Rattle.session_state.specs.declared.progress.StepAnswer.{StepAnswer}
use Rattle.path.specs.Bytes.{bit}
use Rattle.session_state.specs.State.{Underway, Stands, slot_for}

-- The step at a place of the file.
abbrev pub Comes : (input : List ℕ) (place : ℕ) → Option NextStep → Type 0
Comes input place r = (ss : List Step) → StepsAt input place ss → FirstStep input ss r

-- An undo at a place of the file.
abbrev pub told_undo : (forgets : Bool) → (number next : ℕ) → Option NextStep
told_undo false n next = Some (record { step = code.Restore n; next = next })
told_undo true n next = Some (record { step = code.Forget n; next = next })

-- A run under way, and the record that its next step takes.
pub record Ready (input : List ℕ) (f : File) (w words out : List ℕ) (p : Progress) (c : Checkpoint) : Type 0 where
  pub measure : Measure
  pub rows : List Checkpoint
  pub underway : Underway measure input f w words rows out p
  pub record_is : get_or rows (slot_for p.quoted underway.left p.adds) blank ≡ c

-- One step more is finished, or a quote is dropped, or the run is over.
abbrev pub Nearer : Progress → Progress → Type 0
Nearer p q = 2 * p.steps + bit (not p.quoted) < 2 * (q.steps + bit q.done) + bit (not q.quoted)

-- The step is done, or refused, whatever the other records are, by the measure that the run has.
abbrev pub Onward : (input : List ℕ) (f : File) (w words out : List ℕ) (p : Progress) (c : Checkpoint) (w' words' out' : List ℕ) (a : StepAnswer) → Type 0
Onward input f w words out p c w' words' out' a =
    (m : Measure) (rows : List Checkpoint) (u : Underway m input f w words rows out p) → get_or rows (slot_for p.quoted u.left p.adds) blank ≡ c
    → Stands m input f w' words' (set rows (slot_for p.quoted u.left p.adds) a.saved) out' a.state a.state.done × Nearer p a.state
