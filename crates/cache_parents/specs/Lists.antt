-- What each loop over a list of parents leaves.
use Rattle.std.specs.Prelude.{ℕ, ◌+◌, ◌≤◌, ◌<◌, ◌≡◌, List, length}
use Rattle.words.specs.Words.{at}
use Rattle.work_layout.specs.Layout.{MOVED, MAPS, PARENTS, SEEN, ENTRIES}
use Rattle.work_layout.specs.Rows.{link_at, moved_at}

-- The first n parents of entry e stand in MOVED too.
pub record Saved (w w' : List ℕ) (e n : ℕ) : Type 0 where
  pub len : length w' ≡ length w
  pub here : (i : ℕ) → i < n → moved_at w' i ≡ link_at w e i
  pub low : (k : ℕ) → k < MOVED → at w' k ≡ at w k
  pub high : (k : ℕ) → MAPS ≤ k → at w' k ≡ at w k

-- The n parents of entry e from place a on are f 0, f 1, ..; no other parent of any entry changes, and no word but those of the parents.
pub record Filled (w w' : List ℕ) (e a n : ℕ) (f : ℕ → ℕ) : Type 0 where
  pub len : length w' ≡ length w
  pub here : (i : ℕ) → i < n → link_at w' e (a + i) ≡ f i
  pub others : (d j : ℕ) → d < ENTRIES → (d ≡ e → a ≤ j → j < a + n → ⊥) → link_at w' d j ≡ link_at w d j
  pub low : (k : ℕ) → k < PARENTS → at w' k ≡ at w k
  pub high : (k : ℕ) → SEEN ≤ k → at w' k ≡ at w k
