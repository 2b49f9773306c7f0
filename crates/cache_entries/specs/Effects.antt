-- What each function of an update leaves in the words, and what it does to the cache that they hold.
use Rattle.std.specs.Prelude.{ℕ, suc, ◌+◌, ◌*◌, ◌≤◌, ◌<◌, ◌≡◌, Bool, true, false, List}
use Rattle.words.specs.Words.{at}
use Rattle.atom.specs.Write.{serialized_length}
use Rattle.allocator.specs.Handle.{Node, pair, listed_atom, small_atom, unknown, node_of}
use Rattle.spec_session.specs.File.{File}
use Rattle.spec_session.specs.Unfold.{unfolded}
use Rattle.spec_session.specs.Cache.{Cache, atom_key, pair_key, pair_length, length_at, find_or_add, meet_sentinel, join_pair, enter, update, with_entries, clear_sentinel, sentinel_parents}
use Rattle.work_layout.specs.Layout.{PAIR_COUNT, MOVED, MAPS, USED, SEEN, ENTRIES, MAX_PARENTS}
use Rattle.work_layout.specs.Rows.{moved_at, moved_of, all_counts}
use Rattle.cache_entries.specs.Meaning.{bytes_named, Tables, FirstOf, Whole, Holds, unmapped}

-- ---- atoms

abbrev pub is_listed : Node → Bool
is_listed (pair i) = false
is_listed (listed_atom i) = true
is_listed (small_atom v) = false
is_listed (unknown k i) = false

-- The handle r stands for all atoms with the bytes of h.
pub record Stands (w : List ℕ) (h r : ℕ) : Type 0 where
  pub first : FirstOf w (node_of r)
  pub bytes : (f : File) → Tables f w → bytes_named f (node_of r) ≡ bytes_named f (node_of h)

-- n is the length of the atom h, serialized.
pub record Measured (w : List ℕ) (h n : ℕ) : Type 0 where
  pub measured : (f : File) → Tables f w → n ≡ serialized_length (bytes_named f (node_of h))

-- ---- one entry

-- What is done to the cache, and the entry that it gives.
abbrev pub Action : Type 0
Action = File → Cache → Cache × ℕ

abbrev pub sentinel_action : Action
sentinel_action f c = meet_sentinel c

abbrev pub atom_action : ℕ → Action
atom_action h f c = find_or_add (atom_key (bytes_named f (node_of h))) (serialized_length (bytes_named f (node_of h))) c

abbrev pub pair_action : ℕ → ℕ → Action
pair_action l r f c = find_or_add (pair_key l r) (pair_length (length_at l c.entries) (length_at r c.entries)) c

abbrev pub join_action : ℕ → ℕ → ℕ → Action
join_action i l r f c = join_pair i l (c, r)

abbrev pub enter_action : ℕ → Action
enter_action h f c = enter (unfolded f h) c

-- The words did what the action does, with the entry x as the answer.
pub record Acts (a : Action) (w' : List ℕ) (x : ℕ) (f : File) (c : Cache) : Type 0 where
  pub holds : Holds f w' (a f c).0
  pub answer : x ≡ (a f c).1

-- Whatever file and cache the words hold.
abbrev pub Does : Action → List ℕ → List ℕ → ℕ → Type 0
Does a w w' x = (f : File) (c : Cache) → Tables f w → Holds f w c → Acts a w' x f c

-- All words but those of the map and of the entries are as they were.
pub record Outside (w w' : List ℕ) : Type 0 where
  pub below : (k : ℕ) → k < MAPS → at w' k ≡ at w k
  pub above : (k : ℕ) → SEEN ≤ k → at w' k ≡ at w k

-- At most one entry more, and no pair mapped.
pub record Made (a : Action) (w w' : List ℕ) (x : ℕ) : Type 0 where
  pub whole : Whole w'
  pub low : x < at w' USED
  pub more : at w USED ≤ at w' USED
  pub few : at w' USED ≤ at w USED + 1
  pub counts : all_counts w' ENTRIES ≡ all_counts w ENTRIES
  pub maps : (k : ℕ) → k < 1024 → at w' (MAPS + k) ≡ at w (MAPS + k)
  pub outside : Outside w w'
  pub does : Does a w w' x

-- Pair i, with the entries l and r of its sides, is mapped.
pub record Joined (w w' : List ℕ) (i l r x : ℕ) : Type 0 where
  pub whole : Whole w'
  pub low : x < at w' USED
  pub more : at w USED ≤ at w' USED
  pub few : at w' USED ≤ at w USED + 1
  pub counts : all_counts w' ENTRIES ≤ all_counts w ENTRIES + 2
  pub mapped : at w' (MAPS + i) ≡ x + 1
  pub maps : (k : ℕ) → k < 1024 → (k ≡ i → ⊥) → at w' (MAPS + k) ≡ at w (MAPS + k)
  pub outside : Outside w w'
  pub does : Does (join_action i l r) w w' x

-- ---- a tree

-- The unfolding of a node has no pair from this number on.
abbrev pub span : Node → ℕ
span (pair i) = suc i
span (listed_atom i) = 0
span (small_atom v) = 0
span (unknown k i) = 0

-- What the entries made, and the parents given, are at most: two for each pair that gets mapped, and one entry.
pub record Bounded (w w' : List ℕ) (p : ℕ) : Type 0 where
  pub room : at w' USED + 2 * unmapped w' p ≤ at w USED + 2 * unmapped w p + 1
  pub counts : all_counts w' ENTRIES + 2 * unmapped w' p ≤ all_counts w ENTRIES + 2 * unmapped w p

-- The tree of handle h is entered, and its entry is x.
pub record Entered (w w' : List ℕ) (h x : ℕ) : Type 0 where
  pub whole : Whole w'
  pub low : x < at w' USED
  pub more : at w USED ≤ at w' USED
  pub bounded : (p : ℕ) → span (node_of h) ≤ p → p ≤ 1024 → Bounded w w' p
  pub maps : (k : ℕ) → span (node_of h) ≤ k → k < 1024 → at w' (MAPS + k) ≡ at w (MAPS + k)
  pub outside : Outside w w'
  pub does : Does (enter_action h) w w' x

-- There is room for the entries that a tree of handle h may take.
abbrev pub Room : List ℕ → ℕ → Type 0
Room w h = at w USED + 2 * unmapped w (span (node_of h)) < ENTRIES

-- ---- the parents of the sentinel's entry

-- The sentinel's parents are taken, n of them, and stand in MOVED.
pub record Cleared (w w' : List ℕ) (n : ℕ) : Type 0 where
  pub whole : Whole w'
  pub used : at w' USED ≡ at w USED
  pub few : n ≤ MAX_PARENTS
  pub links : (k : ℕ) → k < n → moved_at w' k < 2 * at w USED
  pub counts : all_counts w' ENTRIES + n ≡ all_counts w ENTRIES
  pub maps : (k : ℕ) → k < 1024 → at w' (MAPS + k) ≡ at w (MAPS + k)
  pub below : (k : ℕ) → k < MOVED → at w' k ≡ at w k
  pub above : (k : ℕ) → SEEN ≤ k → at w' k ≡ at w k
  pub holds : (f : File) (c : Cache) → Tables f w → Holds f w c → Holds f w' (with_entries (clear_sentinel c.sentinel_entry c.entries) c)
  pub moved : (f : File) (c : Cache) → Tables f w → Holds f w c → moved_of w' n ≡ sentinel_parents c.sentinel_entry c.entries

-- The added tree of handle h is in the cache.
pub record Updated (w w' : List ℕ) (h : ℕ) : Type 0 where
  pub whole : Whole w'
  pub more : at w USED ≤ at w' USED
  pub bounded : Bounded w w' (at w PAIR_COUNT)
  pub below : (k : ℕ) → k < MOVED → at w' k ≡ at w k
  pub above : (k : ℕ) → SEEN ≤ k → at w' k ≡ at w k
  pub holds : (f : File) (c : Cache) → Tables f w → Holds f w c → Holds f w' (update (unfolded f h) c)
