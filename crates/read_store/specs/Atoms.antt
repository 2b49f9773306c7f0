-- Atoms in lent slices: what each function leaves.
use Rattle.std.specs.Prelude.{ℕ, ◌+◌, ◌*◌, ◌≤◌, ◌≡◌, List, [], ◌∷◌, length, take, drop}
use Rattle.std.proofs.Math.Seq.{paste}
use Rattle.allocator.specs.Handle.{handle_of, listed_atom}
use Rattle.spec_reading.specs.Store.{Store, new_atom}

-- A listed atom is appended: its bytes, and where they start and end.
pub record ListedAppended (a b : List ℕ) (n m : ℕ) (blob : List ℕ) (a' b' : List ℕ) (node n' m' : ℕ) : Type 0 where
  pub node_is : node ≡ handle_of (listed_atom n)
  pub count_is : n' ≡ n + 1
  pub size_is : m' ≡ m + length blob
  pub atoms_are : a' ≡ paste a (2 * n) (m ∷ (m + length blob) ∷ []) 2
  pub bytes_are : b' ≡ paste b m blob (length blob)

-- An atom is stored as `new_atom` says, in any store whose listed atoms and bytes are those in use; what lies past them is as it was.
pub record AtomStored (a b : List ℕ) (n m : ℕ) (blob : List ℕ) (a' b' : List ℕ) (node n' m' : ℕ) : Type 0 where
  pub node_is : (s : Store) → s.atoms ≡ take (2 * n) a → node ≡ (new_atom blob s).node
  pub atoms_are : (s : Store) → s.atoms ≡ take (2 * n) a → s.bytes ≡ take m b → take (2 * n') a' ≡ (new_atom blob s).store.atoms
  pub bytes_are : (s : Store) → s.bytes ≡ take m b → take m' b' ≡ (new_atom blob s).store.bytes
  pub atoms_rest : drop (2 * n') a' ≡ drop (2 * n') a
  pub bytes_rest : drop m' b' ≡ drop m' b
  pub atoms_grow : (n ≤ n') × (n' ≤ n + 1)
  pub bytes_grow : (m ≤ m') × (m' ≤ m + length blob)
