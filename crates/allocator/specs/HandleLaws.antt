-- A node is read back from its handle, and a handle from its node; nil's handle; tests on a handle.
-- Assumes nothing.
use Rattle.std.specs.Prelude.{ℕ, zero, suc, ◌+◌, ◌*◌, ◌/◌, ◌%◌, ◌^◌, ◌≤◌, ◌<◌, ◌≡◌, refl, Bool, true, false}
use Rattle.std.proofs.Common.{sym, ap, ◌∙◌, arith}
use Rattle.std.proofs.lemmas.Bool.{false≢true}
use Rattle.allocator.specs.declared.ObjectType.{ObjectType}
use Rattle.allocator.specs.declared.ObjectType.TheVariants.{Pair, Bytes, SmallAtom, Unknown}
use Rattle.allocator.specs.Handle.{Node, pair, listed_atom, small_atom, unknown, node_of_kind, node_of, kind_of, index_of, handle_of, nil, object_type_of, is_pair, is_atom}

kind_of_kind : (k i : ℕ) → kind_of (node_of_kind k i) ≡ k
kind_of_kind zero i = refl
kind_of_kind (suc zero) i = refl
kind_of_kind (suc (suc zero)) i = refl
kind_of_kind (suc (suc (suc k))) i = refl

index_of_kind : (k i : ℕ) → index_of (node_of_kind k i) ≡ i
index_of_kind zero i = refl
index_of_kind (suc zero) i = refl
index_of_kind (suc (suc zero)) i = refl
index_of_kind (suc (suc (suc k))) i = refl

-- The low 26 bits of a handle.
pub index_of_handle : (h : ℕ) → index_of (node_of h) ≡ h % 2 ^ 26
unfolding node_of
index_of_handle h = index_of_kind (h / 2 ^ 26) (h % 2 ^ 26)

-- A handle's kind stands in the bits from 26 up.
pub object_type_of_handle : (h k : ℕ) → h / 2 ^ 26 ≡ k → object_type_of (node_of_kind k 0) ≡ object_type_of (node_of h)
unfolding node_of
object_type_of_handle h k e = rw e (go k)
  where
    go : (j : ℕ) → object_type_of (node_of_kind j 0) ≡ object_type_of (node_of_kind j (h % 2 ^ 26))
    go zero = refl
    go (suc zero) = refl
    go (suc (suc zero)) = refl
    go (suc (suc (suc j))) = refl

pub object_type_unknown : (h : ℕ) → 3 ≤ h / 2 ^ 26 → Unknown ≡ object_type_of (node_of h)
unfolding node_of
object_type_unknown h l = go (h / 2 ^ 26) l
  where
    go : (j : ℕ) → 3 ≤ j → Unknown ≡ object_type_of (node_of_kind j (h % 2 ^ 26))
    go zero l = absurd (omega arith)
    go (suc zero) l = absurd (omega arith)
    go (suc (suc zero)) l = absurd (omega arith)
    go (suc (suc (suc j))) l = refl

-- Whether a node is a pair, or an atom, goes by its type alone.
abbrev pub type_is_pair : ObjectType → Bool
type_is_pair Pair = true
type_is_pair Bytes = false
type_is_pair SmallAtom = false
type_is_pair Unknown = false

abbrev pub type_is_atom : ObjectType → Bool
type_is_atom Pair = false
type_is_atom Bytes = true
type_is_atom SmallAtom = true
type_is_atom Unknown = false

type_is_pair_of : (n : Node) → type_is_pair (object_type_of n) ≡ is_pair n
type_is_pair_of (pair i) = refl
type_is_pair_of (listed_atom i) = refl
type_is_pair_of (small_atom v) = refl
type_is_pair_of (unknown k i) = refl

type_is_atom_of : (n : Node) → type_is_atom (object_type_of n) ≡ is_atom n
type_is_atom_of (pair i) = refl
type_is_atom_of (listed_atom i) = refl
type_is_atom_of (small_atom v) = refl
type_is_atom_of (unknown k i) = refl

pub is_pair_by_type : (n : Node) (t u : ObjectType) → t ≡ object_type_of n → t ≡ u → type_is_pair u ≡ is_pair n
is_pair_by_type n t u e f = ap type_is_pair (sym f ∙ e) ∙ type_is_pair_of n

pub is_atom_by_type : (n : Node) (t u : ObjectType) → t ≡ object_type_of n → t ≡ u → type_is_atom u ≡ is_atom n
is_atom_by_type n t u e f = ap type_is_atom (sym f ∙ e) ∙ type_is_atom_of n

-- Every handle is that of what it names.
pub handle_of_node_of : (h : ℕ) → handle_of (node_of h) ≡ h
unfolding node_of handle_of
handle_of_node_of h = rw (kind_of_kind, index_of_kind) (omega arith)

-- So two handles that name the same are the same.
pub same_node : (g h : ℕ) → node_of g ≡ node_of h → g ≡ h
same_node g h e = sym (handle_of_node_of g) ∙ ap handle_of e ∙ handle_of_node_of h

node_of_parts : (k i : ℕ) → i < 2 ^ 26 → node_of (k * 2 ^ 26 + i) ≡ node_of_kind k i
unfolding node_of
node_of_parts k i l = rw (quot, rest) refl
  where
    quot : (k * 2 ^ 26 + i) / 2 ^ 26 ≡ k
    quot = omega arith

    rest : (k * 2 ^ 26 + i) % 2 ^ 26 ≡ i
    rest = omega arith

-- A pair, a listed atom and a small atom are read back from their handles.
pub node_of_pair : (i : ℕ) → i < 2 ^ 26 → node_of (handle_of (pair i)) ≡ pair i
unfolding handle_of
node_of_pair i l = node_of_parts 0 i l

pub node_of_listed_atom : (i : ℕ) → i < 2 ^ 26 → node_of (handle_of (listed_atom i)) ≡ listed_atom i
unfolding handle_of
node_of_listed_atom i l = node_of_parts 1 i l

pub node_of_small_atom : (v : ℕ) → v < 2 ^ 26 → node_of (handle_of (small_atom v)) ≡ small_atom v
unfolding handle_of
node_of_small_atom v l = node_of_parts 2 v l

-- The handle of a pair is its number, and a handle that names a pair is the pair's number.
pub pair_handle : (i : ℕ) → handle_of (pair i) ≡ i
unfolding handle_of
pair_handle i = omega arith

pub is_pair_handle : (h i : ℕ) → node_of h ≡ pair i → h ≡ i
is_pair_handle h i e = sym (handle_of_node_of h) ∙ ap handle_of e ∙ pair_handle i

-- A node that is a pair is the pair of its index.
pub pair_of_index : (n : Node) → is_pair n ≡ true → n ≡ pair (index_of n)
pair_of_index (pair i) e = refl
pair_of_index (listed_atom i) e = absurd (false≢true e)
pair_of_index (small_atom v) e = absurd (false≢true e)
pair_of_index (unknown k i) e = absurd (false≢true e)

pub handle_of_nil : handle_of nil ≡ 134217728
unfolding handle_of
handle_of_nil = refl

pub node_of_nil : node_of 134217728 ≡ nil
unfolding node_of
node_of_nil = refl
