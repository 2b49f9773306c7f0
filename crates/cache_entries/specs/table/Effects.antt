-- What each function on the entries of the tree cache leaves. All but the words of the entries, from USED to PARENTS' end, are as they were; `take_parents` writes MOVED too.
use Rattle.std.specs.Prelude.{ℕ, ◌+◌, ◌*◌, ◌≤◌, ◌<◌, ◌≡◌, Bool, cond, ◌&&◌, List, [], ◌∷◌, ◌++◌, eqb, length, Some, None}
use Rattle.std.specs.Prelude as code
use Rattle.std.proofs.Math.Option.{Option, none, some}
use Rattle.words.specs.Words.{at}
use Rattle.spec_session.specs.Cache.{later, add_parent, move_parents, no_parents}
use Rattle.work_layout.specs.Layout.{MOVED, MAPS, USED, LEFT, RIGHT, SEEN, ENTRIES, MAX_PARENTS}
use Rattle.work_layout.specs.Rows.{Row, rows_of, new_row, adjust_row, parents_of, moved_at, moved_of, Sound, all_counts}
use Rattle.work_layout.specs.declared.EntryIndex.{EntryIndex}
use Rattle.cache_entries.specs.declared.table.Key.{Key}
use Rattle.cache_entries.specs.declared.table.Key.TheVariants.{Pair, Atom, Sentinel}
use Rattle.cache_entries.specs.Meaning.{ATOM_KEY, SENTINEL_KEY}

-- The two words that stand for a key in work: the entries of a pair's sides; else a mark, and an atom's handle or a sentinel's own entry.
abbrev pub first_word : Key → ℕ
first_word (Pair l r) = l.0
first_word (Atom h) = ATOM_KEY
first_word (Sentinel e) = SENTINEL_KEY

abbrev pub second_word : Key → ℕ
second_word (Pair l r) = r.0
second_word (Atom h) = h.0
second_word (Sentinel e) = e.0

-- The first entry with this key.
abbrev pub find_row : (left right : ℕ) → List Row → Option ℕ
find_row l r [] = none
find_row l r (x ∷ xs) = cond (eqb x.left l && eqb x.right r) (some 0) (later (find_row l r xs))

-- The number of the entry that is found.
abbrev pub option_of : code.Option EntryIndex → Option ℕ
option_of (Some e) = some e.0
option_of None = none

-- Nothing but the words of the entries is touched.
pub record Kept (w w' : List ℕ) : Type 0 where
  pub low : (k : ℕ) → k < USED → at w' k ≡ at w k
  pub high : (k : ℕ) → SEEN ≤ k → at w' k ≡ at w k

-- The entries that were there keep their keys. (The rows say so too; this is for those who read the words.)
abbrev pub SameKeys : (w w' : List ℕ) → Type 0
SameKeys w w' = (k : ℕ) → k < at w USED → (at w' (LEFT + k) ≡ at w (LEFT + k)) × (at w' (RIGHT + k) ≡ at w (RIGHT + k))

-- Entry x has this key.
abbrev pub HasKey : (w : List ℕ) (x left right : ℕ) → Type 0
HasKey w x l r = (at w (LEFT + x) ≡ l) × (at w (RIGHT + x) ≡ r)

-- An entry is added at the end, without parents.
pub record Inserted (w w' : List ℕ) (left right len x : ℕ) : Type 0 where
  pub sound : Sound w'
  pub index : x ≡ at w USED
  pub used : at w' USED ≡ at w USED + 1
  pub rows : rows_of w' ≡ rows_of w ++ new_row left right len ∷ []
  pub keys : SameKeys w w'
  pub key : HasKey w' x left right
  pub counts : all_counts w' ENTRIES ≡ all_counts w ENTRIES
  pub kept : Kept w w'

-- The entries and the number of the one with a key: the one found, or a new one at the end.
abbrev pub found_or_added : Option ℕ → (left right len : ℕ) → List Row → List Row × ℕ
found_or_added (some e) l r n xs = (xs, e)
found_or_added none l r n xs = (xs ++ new_row l r n ∷ [], length xs)

-- The entry with a key is found, or added at the end.
pub record Interned (w w' : List ℕ) (left right len x : ℕ) : Type 0 where
  pub sound : Sound w'
  pub made : ◌≡◌ {A = List Row × ℕ} (rows_of w', x) (found_or_added (find_row left right (rows_of w)) left right len (rows_of w))
  pub low : x < at w' USED
  pub keys : SameKeys w w'
  pub key : HasKey w' x left right
  pub new : (k : ℕ) → at w USED ≤ k → k < at w' USED → k ≡ x
  pub more : at w USED ≤ at w' USED
  pub few : at w' USED ≤ at w USED + 1
  pub counts : all_counts w' ENTRIES ≡ all_counts w ENTRIES
  pub kept : Kept w w'

-- Entry e gets a parent.
pub record ParentAdded (w w' : List ℕ) (e parent : ℕ) (right : Bool) : Type 0 where
  pub sound : Sound w'
  pub used : at w' USED ≡ at w USED
  pub rows : rows_of w' ≡ adjust_row e (add_parent parent right) (rows_of w)
  pub keys : SameKeys w w'
  pub counts : all_counts w' ENTRIES ≤ all_counts w ENTRIES + 1
  pub kept : Kept w w'

-- The n parents of entry e go to MOVED.
pub record Taken (w w' : List ℕ) (e n : ℕ) : Type 0 where
  pub sound : Sound w'
  pub used : at w' USED ≡ at w USED
  pub few : n ≤ MAX_PARENTS
  pub rows : rows_of w' ≡ adjust_row e no_parents (rows_of w)
  pub keys : SameKeys w w'
  pub moved : moved_of w' n ≡ parents_of w e
  pub links : (i : ℕ) → i < n → moved_at w' i < 2 * at w USED
  pub counts : all_counts w' ENTRIES + n ≡ all_counts w ENTRIES
  pub low : (k : ℕ) → k < MOVED → at w' k ≡ at w k
  pub maps : (k : ℕ) → MAPS ≤ k → k < USED → at w' k ≡ at w k
  pub high : (k : ℕ) → SEEN ≤ k → at w' k ≡ at w k

-- The n parents in MOVED are entries.
abbrev pub MovedLinks : List ℕ → ℕ → Type 0
MovedLinks w n = (i : ℕ) → i < n → moved_at w i < 2 * at w USED

-- The n parents in MOVED go to the end of those of entry e.
pub record Placed (w w' : List ℕ) (e n : ℕ) : Type 0 where
  pub sound : Sound w'
  pub used : at w' USED ≡ at w USED
  pub rows : rows_of w' ≡ adjust_row e (move_parents (moved_of w n)) (rows_of w)
  pub keys : SameKeys w w'
  pub counts : all_counts w' ENTRIES ≤ all_counts w ENTRIES + n
  pub kept : Kept w w'
