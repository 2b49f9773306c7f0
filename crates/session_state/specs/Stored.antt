-- What is stored of a session's state, and brought back: a step's words, the checkpoint record, and the sentinel's entry of a record.
use Rattle.std.specs.Prelude.{ℕ, zero, suc, ◌+◌, ◌*◌, ◌≤◌, ◌<◌, List, [], ◌∷◌, Bool, length, set}
use Rattle.std.proofs.Math.Seq.{paste}
use Rattle.words.specs.Words.{at}
use Rattle.write_counts.specs.declared.Counts.{Counts}
use Rattle.write_counts.specs.Counts.{Bounded}
use Rattle.session_state.specs.declared.checkpoints.Checkpoint.{Checkpoint}
use Rattle.work_layout.specs.Layout.{SENTINEL_ENTRY}
use Rattle.session_state.specs.declared.progress.Progress.{Progress}
use Rattle.path.specs.Bytes.{bit}

-- The words of a finished step: the size times 2 and 1 more where the session is finished, the references, and the prefix bytes.
abbrev pub told : Counts → (finished : Bool) → List ℕ
told c finished = (c.size * 2 + bit finished) ∷ c.references ∷ c.prefix_bytes ∷ []

-- What the words of the step take: their room, and counts that fit.
pub record Noting (words : List ℕ) (p : Progress) : Type 0 where
  pub room : 3 * p.steps + 3 ≤ length words
  pub short : p.counts.size ≤ 65535
  pub bounded : Bounded p.counts
  pub few_steps : p.steps < 1024

-- Step i has the words 3 × i to 3 × i + 2.
abbrev pub noted_words : List ℕ → Progress → List ℕ
noted_words words p = paste words (3 * p.steps) (told p.counts p.finished) 3

-- The record of a state: open pairs, depth, what is counted, and one more than the sentinel's entry, or 0.
abbrev pub record_of : List ℕ → Progress → Checkpoint
record_of w p =
    record {
      opens = p.opens;
      depth = p.depth;
      size = p.counts.size;
      references = p.counts.references;
      prefix_bytes = p.counts.prefix_bytes;
      sentinel = at w SENTINEL_ENTRY;
    }

-- The words with the sentinel's entry of a record. One that was not there stays as it is.
abbrev pub with_entry : List ℕ → ℕ → List ℕ
with_entry w zero = w
with_entry w (suc e) = set w SENTINEL_ENTRY (suc e)
