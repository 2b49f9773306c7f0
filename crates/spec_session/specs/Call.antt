-- The session call of 01, whole: from the file's bytes and the lent slices to the answer and to what each slice holds afterwards, for every input.
use Rattle.std.specs.Prelude.{ℕ, ◌*◌, min, Bool, cond, ◌&&◌, List, leb, length, replicate}
use Rattle.spec_reading.specs.Call.{zeroed, filled}
use Rattle.spec_session.specs.File.{File, Limits, Got, got, refused, file}
use Rattle.spec_session.specs.Items.{size_of, output}
use Rattle.spec_session.specs.Steps.{Run, at_start, run_steps}

-- "A session gives its number, 0 for none, with the count of finished steps and the size in bytes."
pub record Answer : Type 0 where
  pub number : ℕ
  pub steps : ℕ
  pub size : ℕ

-- The lent slices; C is the type of a checkpoint record.
pub record Slices (C : Type 0) : Type 0 where
  pub work : List ℕ
  pub words : List ℕ
  pub checkpoints : List C
  pub output : List ℕ

pub record Result (C : Type 0) : Type 0 where
  pub answer : Answer
  pub slices : Slices C

-- "1 to 8 touch no slice", and "with 1 to 8 both are 0".
abbrev pub untouched : {C : Type 0} → ℕ → Slices C → Result C
untouched n s = record { answer = record { number = n; steps = 0; size = 0 }; slices = s }

-- Question 1: are the slices long enough? A step has three words, and there are sixteen checkpoint records.
abbrev pub long_enough : {C : Type 0} → Limits → Slices C → Bool
long_enough l s = leb l.work_words (length s.work) && (leb (3 * l.steps) (length s.words) && leb 16 (length s.checkpoints))

-- The output, "of which at most 65,535 bytes are used".
abbrev pub usable : {C : Type 0} → Limits → Slices C → ℕ
usable l s = min (length s.output) l.output_bytes

-- `blank` is the checkpoint record whose words are zero.
module _ {C : Type 0} (blank : C) where
  -- "9 to 13 keep finished steps' words and whole items written; the rest of output and words is zero, as past the size after any run." "From question 9 on
  -- work ends all zero, as do the checkpoint records of a session." 02, of 17: "This and later numbers given at a session's step leave the slices as 9 does."
  abbrev pub after_run : Run → Slices C → Result C
  after_run r s =
      record {
        answer = record { number = r.number; steps = r.steps; size = size_of r.last.written.items };
        slices =
            record {
              work = zeroed s.work;
              words = filled s.words r.words;
              checkpoints = replicate (length s.checkpoints) blank;
              output = filled s.output (output r.last.written.items);
            };
      }

  -- The steps run from a fresh session.
  abbrev pub after_file : Limits → (measure : List Bool → ℕ) → Got File → Slices C → Result C
  after_file l measure (refused n) s = untouched n s
  after_file l measure (got f rest) s = after_run (run_steps measure (usable l s) f f.steps at_start) s

  -- Over any limits and any measure of a found path. 01's are `version_1` and `counted`.
  unfoldable pub session : Limits → (measure : List Bool → ℕ) → (input : List ℕ) → Slices C → Result C
  session l measure input s = cond (long_enough l s) (after_file l measure (file l input) s) (untouched 1 s)
