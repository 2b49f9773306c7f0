-- What the marks of the entries written are, what `mark` leaves, and which words are as they were.
use Rattle.std.specs.Prelude.{ℕ, ◌+◌, ◌/◌, ◌%◌, ◌^◌, ◌≤◌, ◌<◌, ◌≡◌, Bool, ◌||◌, List, eqb}
use Rattle.words.specs.Words.{at}
use Rattle.path.specs.Bytes.{odd}
use Rattle.work_layout.specs.Layout.{WRITTEN, MOVED, ENTRIES}

-- Whether entry x is marked written: bit x of the words from WRITTEN on, 32 to a word, the lowest first.
unfoldable pub marked_at : List ℕ → ℕ → Bool
marked_at w x = odd (at w (WRITTEN + x / 32) / 2 ^ (x % 32))

-- Entry e is marked.
pub record Marked (w w' : List ℕ) (e : ℕ) : Type 0 where
  pub marks : (x : ℕ) → x < ENTRIES → marked_at w' x ≡ (eqb x e || marked_at w x)
  pub low : (k : ℕ) → k < WRITTEN → at w' k ≡ at w k
  pub high : (k : ℕ) → MOVED ≤ k → at w' k ≡ at w k
