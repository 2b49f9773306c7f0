-- Where the copies of undo lie, what `save` leaves, and which words are as they were.
use Rattle.std.specs.Prelude.{ℕ, ◌+◌, ◌*◌, ◌≤◌, ◌<◌, ◌≡◌, List}
use Rattle.words.specs.Words.{at}
use Rattle.work_layout.specs.Layout.{OPEN, STACK, WRITTEN, COPIES, COPY}

-- Copy k: where its open pairs, its stack and its marks lie.
abbrev pub copied_open : ℕ → ℕ
copied_open k = COPIES + k * COPY

abbrev pub copied_stack : ℕ → ℕ
copied_stack k = COPIES + k * COPY + 4096

abbrev pub copied_marks : ℕ → ℕ
copied_marks k = COPIES + k * COPY + 8193

-- Copy k has the first `opens` open pairs, the d entries of the stack, and the marks.
pub record Saved (w w' : List ℕ) (k opens d : ℕ) : Type 0 where
  pub open_pairs : (i : ℕ) → i < opens → at w' (copied_open k + i) ≡ at w (OPEN + i)
  pub places : (i : ℕ) → i < d → at w' (copied_stack k + i) ≡ at w (STACK + i)
  pub marks : (i : ℕ) → i < 96 → at w' (copied_marks k + i) ≡ at w (WRITTEN + i)
  pub low : (j : ℕ) → j < COPIES + k * COPY → at w' j ≡ at w j
  pub high : (j : ℕ) → COPIES + k * COPY + COPY ≤ j → at w' j ≡ at w j
