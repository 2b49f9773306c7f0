-- The tree cache of tree_cache.rs, as 01 fills it: entries with their parents and lengths, the map of handles, the sentinel's entry.
use Rattle.std.specs.Prelude.{List, [], ◌∷◌, ◌++◌, Bool, true, false, cond, ◌&&◌, ℕ, zero, suc, ◌+◌, ◌-◌, ◌%◌, min, eqb, ltb, length, set, drop}
use Rattle.std.proofs.Math.Option.{Option, none, some}
use Rattle.words.specs.Lists.{same}
use Rattle.atom.specs.Write.{serialized_length}
use Rattle.path.specs.Bytes.{bit}
use Rattle.spec_session.specs.Unfold.{Unfolded, hole, leaf, node}

-- What an entry is known by: "an entry is the cache's record of one distinct subtree". A pair's key has the entries of its two sides.
pub data Key : Type 0 where
  sentinel_key : Key
  atom_key : List ℕ → Key
  pair_key : ℕ → ℕ → Key

-- A parent's entry, and the position below it: false left, true right.
abbrev pub Parent : Type 0
Parent = ℕ × Bool

-- The parents in list order, and the length in full of the subtree: "length 0 marks the sentinel and every pair above it, also after it is filled".
pub record Entry : Type 0 where
  pub key : Key
  pub parents : List Parent
  pub len : ℕ

-- `mapped` gives the entry of a pair's handle, as node_map of the Rust does; an atom's is found by its bytes, and the sentinel's latest is kept by itself.
pub record Cache : Type 0 where
  pub entries : List Entry
  pub mapped : List (ℕ × ℕ)
  pub sentinel_entry : Option ℕ

abbrev pub fresh : Cache
fresh = record { entries = []; mapped = []; sentinel_entry = none }

-- No lookup finds a sentinel's entry.
abbrev pub same_key : Key → Key → Bool
same_key sentinel_key k = false
same_key (atom_key a) sentinel_key = false
same_key (atom_key a) (atom_key b) = same a b
same_key (atom_key a) (pair_key l r) = false
same_key (pair_key l r) sentinel_key = false
same_key (pair_key l r) (atom_key a) = false
same_key (pair_key l r) (pair_key l' r') = eqb l l' && eqb r r'

abbrev pub later : Option ℕ → Option ℕ
later none = none
later (some e) = some (suc e)

-- The first entry with this key.
abbrev pub find_key : Key → List Entry → Option ℕ
find_key k [] = none
find_key k (x ∷ xs) = cond (same_key k x.key) (some 0) (later (find_key k xs))

abbrev pub lookup : ℕ → List (ℕ × ℕ) → Option ℕ
lookup h [] = none
lookup h (m ∷ ms) = cond (eqb h m.0) (some m.1) (lookup h ms)

-- Entry e with its parents changed by f.
abbrev pub adjust : ℕ → (List Parent → List Parent) → List Entry → List Entry
adjust e f [] = []
adjust zero f (x ∷ xs) = record { key = x.key; parents = f x.parents; len = x.len } ∷ xs
adjust (suc e) f (x ∷ xs) = x ∷ adjust e f xs

abbrev pub parents_at : ℕ → List Entry → List Parent
parents_at e [] = []
parents_at zero (x ∷ xs) = x.parents
parents_at (suc e) (x ∷ xs) = parents_at e xs

abbrev pub length_at : ℕ → List Entry → ℕ
length_at e [] = 0
length_at zero (x ∷ xs) = x.len
length_at (suc e) (x ∷ xs) = length_at e xs

-- "The first 100 parents are kept; a later one overwrites slot (parent + position) mod 100, left 0, right 1."
abbrev pub add_parent : ℕ → Bool → List Parent → List Parent
add_parent p side ps = cond (ltb (length ps) 100) (ps ++ (p, side) ∷ []) (set ps ((p + bit side) % 100) (p, side))

-- "A sentinel's parents move to the end of the next root's list; beyond 100 the front ones are dropped."
abbrev pub move_parents : List Parent → List Parent → List Parent
move_parents moved ps = drop (length (ps ++ moved) - 100) (ps ++ moved)

abbrev pub no_parents : List Parent → List Parent
no_parents ps = []

-- "Length 0 marks the sentinel and every pair above it. Sums stop at 2^64 − 1."
abbrev pub pair_length : ℕ → ℕ → ℕ
pair_length zero b = 0
pair_length (suc a) zero = 0
pair_length (suc a) (suc b) = min (1 + (suc a + suc b)) 18446744073709551615

abbrev pub new_entry : Key → ℕ → Entry
new_entry k n = record { key = k; parents = []; len = n }

abbrev pub with_entries : List Entry → Cache → Cache
with_entries es c = record { entries = es; mapped = c.mapped; sentinel_entry = c.sentinel_entry }

abbrev pub keep_or_add : Option ℕ → Key → ℕ → Cache → Cache × ℕ
keep_or_add (some e) k n c = (c, e)
keep_or_add none k n c = (with_entries (c.entries ++ new_entry k n ∷ []) c, length c.entries)

abbrev pub find_or_add : Key → ℕ → Cache → Cache × ℕ
find_or_add k n c = keep_or_add (find_key k c.entries) k n c

-- "Each meeting with the sentinel in an add makes a new entry, and the latest one counts."
abbrev pub meet_sentinel : Cache → Cache × ℕ
meet_sentinel c = (
  record { entries = c.entries ++ new_entry sentinel_key 0 ∷ []; mapped = c.mapped; sentinel_entry = some (length c.entries) },
  length c.entries,
)

-- The entry found becomes a parent of a, on the left, and of b, on the right, and is mapped for the handle h. "A second pair handle with the same entry adds
-- that entry again to both children's lists."
abbrev pub link_pair : ℕ → ℕ → ℕ → Cache × ℕ → Cache × ℕ
link_pair h a b found = (
  record {
    entries = adjust b (add_parent found.1 true) (adjust a (add_parent found.1 false) found.0.entries);
    mapped = found.0.mapped ++ (h, found.1) ∷ [];
    sentinel_entry = found.0.sentinel_entry;
  },
  found.1,
)

abbrev pub join_pair : ℕ → ℕ → Cache × ℕ → Cache × ℕ
join_pair h a right =
    link_pair h a right.1
    (find_or_add (pair_key a right.1) (pair_length (length_at a right.0.entries) (length_at right.1 right.0.entries)) right.0)

abbrev pub known_or : Option ℕ → Cache → Cache × ℕ → Cache × ℕ
known_or (some e) c new = (c, e)
known_or none c new = new

-- A subtree's entry, made where it is missing: children first, left before right.
unfoldable pub enter : Unfolded → Cache → Cache × ℕ
enter hole c = meet_sentinel c
enter (leaf h bs) c = find_or_add (atom_key bs) (serialized_length bs) c
enter (node h l r) c =
    let new = join_pair h (enter l c).1 (enter r (enter l c).0) in
    known_or (lookup h c.mapped) c new

abbrev pub sentinel_parents : Option ℕ → List Entry → List Parent
sentinel_parents none es = []
sentinel_parents (some s) es = parents_at s es

abbrev pub clear_sentinel : Option ℕ → List Entry → List Entry
clear_sentinel none es = es
clear_sentinel (some s) es = adjust s no_parents es

abbrev pub place_root : List Parent → Cache × ℕ → Cache
place_root moved r = with_entries (adjust r.1 (move_parents moved) r.0.entries) r.0

-- The cache after the added tree is entered: the present sentinel entry's parents move to its root.
unfoldable pub update : Unfolded → Cache → Cache
update t c =
    place_root (sentinel_parents c.sentinel_entry c.entries)
    (enter t (with_entries (clear_sentinel c.sentinel_entry c.entries) c))
