-- What each function that restores a copy of undo leaves, and which words are as they were.
use Rattle.std.specs.Prelude.{ℕ, ◌+◌, ◌≤◌, ◌<◌, ◌≡◌, List}
use Rattle.words.specs.Words.{at}
use Rattle.work_layout.specs.Layout.{OPEN, STACK, WRITTEN, MOVED}
use Rattle.cache_stack.specs.Effects.{Stacked, StackOnly}
use Rattle.cache_undo.specs.undo_state.Effects.{copied_open, copied_stack, copied_marks}

-- All entries go.
pub record PoppedAll (w w' : List ℕ) : Type 0 where
  pub stacked : Stacked w' 0
  pub only : StackOnly w w'

-- The d entries that stand from `from` on are the stack, the first one lowest.
pub record PushedAll (w w' : List ℕ) (from d : ℕ) : Type 0 where
  pub stacked : Stacked w' d
  pub places : (i : ℕ) → i < d → at w' (STACK + i) ≡ at w (from + i)
  pub only : StackOnly w w'

-- The first `opens` open pairs, the stack of d entries and the marks are those of copy k.
pub record Restored (w w' : List ℕ) (k opens d : ℕ) : Type 0 where
  pub stacked : Stacked w' d
  pub open_pairs : (i : ℕ) → i < opens → at w' (OPEN + i) ≡ at w (copied_open k + i)
  pub places : (i : ℕ) → i < d → at w' (STACK + i) ≡ at w (copied_stack k + i)
  pub marks : (i : ℕ) → i < 96 → at w' (WRITTEN + i) ≡ at w (copied_marks k + i)
  pub low : (j : ℕ) → j < OPEN → at w' j ≡ at w j
  pub later : (j : ℕ) → OPEN + opens ≤ j → j < STACK → at w' j ≡ at w j
  pub high : (j : ℕ) → MOVED ≤ j → at w' j ≡ at w j
