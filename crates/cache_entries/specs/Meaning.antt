-- What the words of the tree cache mean: the file's tables, the cache of the definitions, and when the words are sound.
use Rattle.std.specs.Prelude.{ℕ, zero, suc, ◌+◌, ◌*◌, ◌≤◌, ◌<◌, ◌≡◌, ◌⊎◌, true, cond, List, [], ◌∷◌, map, eqb, length, get_or}
use Rattle.std.proofs.Math.Option.{Option, none, some}
use Rattle.words.specs.Lists.{same}
use Rattle.words.specs.Words.{at}
use Rattle.atom.specs.Write.{serialized_length}
use Rattle.allocator.specs.Handle.{Node, pair, listed_atom, small_atom, unknown, node_of}
use Rattle.allocator.specs.SmallAtom.{small_bytes, fits_in_small_atom}
use Rattle.spec_session.specs.File.{File, Pair, named}
use Rattle.spec_session.specs.Sentinel.{sentinel_word}
use Rattle.spec_session.specs.Cache.{Key, sentinel_key, atom_key, pair_key, Entry, Cache, lookup}
use Rattle.work_layout.specs.Layout.{PAIRS, FIRST, ATOM_LENGTHS, ATOM_COUNT, PAIR_COUNT, SENTINEL, MAPS, SENTINEL_ENTRY, USED, LEFT, RIGHT}
use Rattle.work_layout.specs.Rows.{Row, rows_of, Sound}

-- ---- keys: two words

-- The first word of an atom's key; the second one is its handle, of the first listed atom with the same bytes.
abbrev pub ATOM_KEY : ℕ
ATOM_KEY = 0xfffffffe

-- The first word of a sentinel's key; the second one is its own entry number, so that no two are the same.
abbrev pub SENTINEL_KEY : ℕ
SENTINEL_KEY = 0xffffffff

-- The bytes of an atom of the file.
abbrev pub bytes_named : File → Node → List ℕ
bytes_named f (pair i) = []
bytes_named f (listed_atom i) = get_or f.atoms i []
bytes_named f (small_atom v) = small_bytes v
bytes_named f (unknown k i) = []

-- The key that two words stand for. A pair's words are the entries of its sides.
abbrev pub key_of : File → (left right : ℕ) → Key
key_of f l r = cond (eqb l SENTINEL_KEY) sentinel_key (cond (eqb l ATOM_KEY) (atom_key (bytes_named f (node_of r))) (pair_key l r))

abbrev pub entry_of : File → Row → Entry
entry_of f x = record { key = key_of f x.left x.right; parents = x.parents; len = x.len }

-- ---- the file's tables

-- Where the first of the atoms with these bytes stands.
abbrev pub first_same : List ℕ → List (List ℕ) → ℕ
first_same bytes [] = 0
first_same bytes (a ∷ atoms) = cond (same a bytes) 0 (suc (first_same bytes atoms))

abbrev pub no_pair : Pair
no_pair = record { left = 0; right = 0 }

-- The words hold the tables of the file.
pub record Tables (f : File) (w : List ℕ) : Type 0 where
  pub atom_count : at w ATOM_COUNT ≡ length f.atoms
  pub pair_count : at w PAIR_COUNT ≡ length f.pairs
  pub sentinel : at w SENTINEL ≡ sentinel_word f.sentinel
  pub lefts : (i : ℕ) → i < length f.pairs → at w (PAIRS + 2 * i) ≡ (get_or f.pairs i no_pair).left
  pub rights : (i : ℕ) → i < length f.pairs → at w (PAIRS + 2 * i + 1) ≡ (get_or f.pairs i no_pair).right
  pub firsts : (i : ℕ) → i < length f.atoms → at w (FIRST + i) ≡ first_same (get_or f.atoms i []) f.atoms
  pub lengths : (i : ℕ) → i < length f.atoms → at w (ATOM_LENGTHS + i) ≡ serialized_length (get_or f.atoms i [])
  -- Question 6.
  pub listed : (i : ℕ) → i < length f.atoms → fits_in_small_atom (get_or f.atoms i []) ≡ none

-- The handle names an atom, or one of the first p pairs: question 7.
abbrev pub Names : List ℕ → ℕ → ℕ → Type 0
Names w p h = named (at w ATOM_COUNT) p (node_of h) ≡ true

-- What the code needs of the tables. Each pair names only earlier ones.
pub record Handles (w : List ℕ) : Type 0 where
  pub few_atoms : at w ATOM_COUNT ≤ 1024
  pub few_pairs : at w PAIR_COUNT ≤ 1024
  pub lefts : (i : ℕ) → i < at w PAIR_COUNT → Names w i (at w (PAIRS + 2 * i))
  pub rights : (i : ℕ) → i < at w PAIR_COUNT → Names w i (at w (PAIRS + 2 * i + 1))
  pub firsts : (i : ℕ) → i < at w ATOM_COUNT → at w (FIRST + i) ≤ i
  pub first_first : (i : ℕ) → i < at w ATOM_COUNT → at w (FIRST + at w (FIRST + i)) ≡ at w (FIRST + i)
  -- The sentinel's handle is none, or names something of the file.
  pub sentinel : (at w SENTINEL ≡ 0xffffffff) ⊎ Names w (at w PAIR_COUNT) (at w SENTINEL)

-- ---- the cache

-- The handle of an atom that stands for all atoms with the same bytes.
abbrev pub FirstOf : List ℕ → Node → Type 0
FirstOf w (pair i) = ⊥
FirstOf w (listed_atom i) = (i < at w ATOM_COUNT) × (at w (FIRST + i) ≡ i)
FirstOf w (small_atom v) = Unit {0}
FirstOf w (unknown k i) = ⊥

-- The words are a key: a sentinel's, an atom's, or a pair's.
pub data KeyOK (w : List ℕ) (e l r : ℕ) : Type 0 where
  sentinel_words : l ≡ SENTINEL_KEY → r ≡ e → KeyOK w e l r
  atom_words : l ≡ ATOM_KEY → FirstOf w (node_of r) → KeyOK w e l r
  pair_words : l < e → r < e → KeyOK w e l r

abbrev pub entry_or_none : ℕ → Option ℕ
entry_or_none zero = none
entry_or_none (suc e) = some e

-- How many of the first n pairs have no entry yet.
unfoldable pub unmapped : List ℕ → ℕ → ℕ
unmapped w zero = 0
unmapped w (suc n) = cond (eqb (at w (MAPS + n)) 0) 1 0 + unmapped w n

pub record Whole (w : List ℕ) : Type 0 where
  pub sound : Sound w
  pub handles : Handles w
  pub keys : (e : ℕ) → e < at w USED → KeyOK w e (at w (LEFT + e)) (at w (RIGHT + e))
  pub maps : (i : ℕ) → i < at w PAIR_COUNT → at w (MAPS + i) ≤ at w USED
  pub sentinel_entry : at w SENTINEL_ENTRY ≤ at w USED

-- The words hold the cache c of a session of the file.
pub record Holds (f : File) (w : List ℕ) (c : Cache) : Type 0 where
  pub entries : c.entries ≡ map (entry_of f) (rows_of w)
  pub mapped : (i : ℕ) → i < length f.pairs → lookup i c.mapped ≡ entry_or_none (at w (MAPS + i))
  pub sentinel_entry : c.sentinel_entry ≡ entry_or_none (at w SENTINEL_ENTRY)
