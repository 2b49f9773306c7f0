-- What a handle names, and the handle of each node.
-- 01: a handle is 32 bits: a kind in bits 26 up (0 pair, 1 listed atom, 2 small atom) and 26 bits of index or small value.
-- Assumes nothing.
use Rattle.std.specs.Prelude.{ℕ, zero, suc, ◌+◌, ◌*◌, ◌/◌, ◌%◌, ◌^◌, Bool, true, false}
use Rattle.allocator.specs.declared.ObjectType.{ObjectType}
use Rattle.allocator.specs.declared.ObjectType.TheVariants.{Pair, Bytes, SmallAtom, Unknown}

-- What a handle names: the pair of an index, the listed atom of an index, the small atom of a value.
-- A handle of another kind names no node.
pub data Node : Type 0 where
  pair listed_atom small_atom : ℕ → Node
  unknown : (kind index : ℕ) → Node

abbrev pub node_of_kind : (kind index : ℕ) → Node
node_of_kind zero i = pair i
node_of_kind (suc zero) i = listed_atom i
node_of_kind (suc (suc zero)) i = small_atom i
node_of_kind (suc (suc (suc k))) i = unknown (suc (suc (suc k))) i

-- What the handle h names.
unfoldable pub node_of : ℕ → Node
node_of h = node_of_kind (h / 2 ^ 26) (h % 2 ^ 26)

abbrev pub kind_of : Node → ℕ
kind_of (pair i) = 0
kind_of (listed_atom i) = 1
kind_of (small_atom v) = 2
kind_of (unknown k i) = k

-- The index, or the small value.
abbrev pub index_of : Node → ℕ
index_of (pair i) = i
index_of (listed_atom i) = i
index_of (small_atom v) = v
index_of (unknown k i) = i

-- The handle of a node.
unfoldable pub handle_of : Node → ℕ
handle_of n = kind_of n * 2 ^ 26 + index_of n

-- The empty atom.
abbrev pub nil : Node
nil = small_atom 0

-- The Rust's name of each kind.
abbrev pub object_type_of : Node → ObjectType
object_type_of (pair i) = Pair
object_type_of (listed_atom i) = Bytes
object_type_of (small_atom v) = SmallAtom
object_type_of (unknown k i) = Unknown

abbrev pub is_pair : Node → Bool
is_pair (pair i) = true
is_pair (listed_atom i) = false
is_pair (small_atom v) = false
is_pair (unknown k i) = false

abbrev pub is_atom : Node → Bool
is_atom (pair i) = false
is_atom (listed_atom i) = true
is_atom (small_atom v) = true
is_atom (unknown k i) = false
