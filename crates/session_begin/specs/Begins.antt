-- Questions 1 to 8 of a session call, and what its run starts with.
use Rattle.std.specs.Prelude.{ℕ, ◌≤◌, ◌≡◌, true, false, cond, List, length}
use Rattle.path.specs.declared.Measure.{Measure}
use Rattle.spec_session.specs.File.{File, Got, got, refused, version_1, file}
use Rattle.session_state.specs.declared.checkpoints.Checkpoint.{Checkpoint}
use Rattle.write_counts.specs.Counts.{no_items}
use Rattle.session_state.specs.declared.progress.Progress.{Progress}
use Rattle.session_state.specs.State.{the_file, Underway}
use Rattle.session_begin.specs.Lengths.{are_long}
use Rattle.session_begin.specs.declared.Begun.{Begun}

-- Questions 1 to 8, of the bytes and of these lengths: the contents of the file, or the question that gets no.
abbrev pub asked : (input : List ℕ) (work words records : ℕ) → Got File
asked input work words records = cond (are_long work words records) (file version_1 input) (refused 1)

-- A run that is over before it starts.
abbrev pub refused_with : Measure → ℕ → Progress
refused_with m n = record { at = 0; steps = 0; adds = 0; opens = 0; depth = 0; counts = no_items; finished = false; number = n; done = true; forgets = false; quoted = false; measure = m }

-- The run can start, by this measure, with work as it is. All records are to be cleared.
pub record Starts (m : Measure) (input w : List ℕ) (words records : ℕ) (b : Begun) : Type 0 where
  pub many_words : 3072 ≤ words
  pub many_rows : 16 ≤ records
  pub all_records : b.records ≡ records
  pub goes : b.start.done ≡ false
  pub measure_is : b.start.measure ≡ m
  pub ready : (ws : List ℕ) (rows : List Checkpoint) (out : List ℕ) → 3072 ≤ length ws → 16 ≤ length rows → length out ≤ 65535 → Underway m input (the_file input) w ws rows out b.start

-- With a number of 1 to 8 work is as it was.
abbrev pub Begins : Measure → (input w : List ℕ) (words records : ℕ) (w' : List ℕ) (b : Begun) → Got File → Type 0
Begins m input w words records w' b (refused n) = (b ≡ record { start = refused_with m n; records = 0 }) × (w' ≡ w)
Begins m input w words records w' b (got f rest) = Starts m input w' words records b
