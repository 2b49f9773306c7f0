-- What the walk's answers mean.
use Rattle.std.specs.Prelude.{ℕ, zero, suc, ◌*◌, ◌≤◌, ◌<◌, ◌≡◌, Bool, true, false, List, [], ◌∷◌, length, take, Result, Ok, Err}
use Rattle.std.proofs.Math.Option.{Option, none, some}
use Rattle.words.specs.Words.{at}
use Rattle.allocator.specs.Handle.{Node, pair, listed_atom, small_atom, unknown, node_of}
use Rattle.spec_reading.specs.Store.{Store, walk}
use Rattle.allocator.specs.declared.NodePtr.{NodePtr}
use Rattle.read_path.specs.declared.path_walk.PathIntoAtom.{PathIntoAtom}

-- How many set bits a path begins with, `depth` at most.
unfoldable pub down : List Bool → (depth : ℕ) → ℕ
down [] d = 0
down (b ∷ bs) zero = 0
down (false ∷ bs) (suc d) = 0
down (true ∷ bs) (suc d) = suc (down bs d)

-- A node that is one of n pairs, or no pair.
abbrev pub Within : ℕ → Node → Type 0
Within n (pair i) = i < n
Within n (listed_atom i) = Unit {0}
Within n (small_atom v) = Unit {0}
Within n (unknown k i) = Unit {0}

-- A walk from h stays within the n pairs.
pub record Reachable (p : List ℕ) (n h : ℕ) : Type 0 where
  pub room : 2 * n ≤ length p
  pub here : Within n (node_of h)
  pub there : (k : ℕ) → k < 2 * n → Within n (node_of (at p k))

-- None where a walk steps into an atom.
abbrev pub walked_to : Result NodePtr PathIntoAtom → Option Node
walked_to (Ok h) = some (node_of h.0)
walked_to (Err into) = none

-- The walk of the definition, in any store whose pairs are those in use.
abbrev pub Walks : List ℕ → ℕ → List Bool → ℕ → Result NodePtr PathIntoAtom → Type 0
Walks p n bits h r = (s : Store) → s.pairs ≡ take (2 * n) p → walked_to r ≡ walk s bits (node_of h)
