-- What a node of a store is as a tree. A node names one tree at most, and names it still in a store with more pairs, atoms and bytes.
use Rattle.std.specs.Prelude.{ℕ, ◌+◌, ◌-◌, ◌*◌, ◌≤◌, ◌<◌, ◌≡◌, List, length}
use Rattle.words.specs.Words.{at, part}
use Rattle.allocator.specs.Handle.{Node, pair, listed_atom, small_atom, node_of}
use Rattle.allocator.specs.SmallAtom.{small_bytes}
use Rattle.spec_reading.specs.Tree.{Tree, atom, cons}
use Rattle.spec_reading.specs.Store.{Store}

-- The bytes of listed atom i: those from its start up to its end.
abbrev pub start_of : Store → ℕ → ℕ
start_of s i = at s.atoms (2 * i)

abbrev pub end_of : Store → ℕ → ℕ
end_of s i = at s.atoms (2 * i + 1)

abbrev pub listed_bytes : Store → ℕ → List ℕ
listed_bytes s i = part s.bytes (start_of s i) (end_of s i - start_of s i)

-- The two sides of pair i.
abbrev pub left_of : Store → ℕ → ℕ
left_of s i = at s.pairs (2 * i)

abbrev pub right_of : Store → ℕ → ℕ
right_of s i = at s.pairs (2 * i + 1)

-- The tree that a node names. What a node names is all there in the store.
pub data Names (s : Store) : Node → Tree → Type 0 where
  small : {v : ℕ} {b : List ℕ} → small_bytes v ≡ b → Names s (small_atom v) (atom b)
  listed : {i : ℕ} {b : List ℕ} → 2 * i + 1 < length s.atoms → start_of s i ≤ end_of s i → end_of s i ≤ length s.bytes → listed_bytes s i ≡ b
      → Names s (listed_atom i) (atom b)
  paired : {i : ℕ} {l r : Tree} → 2 * i + 1 < length s.pairs → Names s (node_of (left_of s i)) l → Names s (node_of (right_of s i)) r
      → Names s (pair i) (cons l r)

-- The tree that a handle names.
abbrev pub NamesHandle : Store → ℕ → Tree → Type 0
NamesHandle s h t = Names s (node_of h) t
