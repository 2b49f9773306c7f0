-- What holds of the store's reader after every item: its stacks fit, its counts are bounded by the bytes used, its handles name what is there.
-- Sound holds at the start and is kept by `ff`, by an atom, by a path and by a join.
use Rattle.std.specs.Prelude.{ℕ, zero, suc, ◌+◌, ◌*◌, ◌≤◌, ◌<◌, ◌≡◌, List, [], ◌∷◌, length}
use Rattle.std.proofs.Math.Option.{Option, none, some}
use Rattle.words.specs.Lists.{All}
use Rattle.allocator.specs.Handle.{Node, pair, listed_atom, small_atom, unknown, node_of}
use Rattle.spec_reading.specs.Format.{ParseOp, SExp, Cons}
use Rattle.spec_reading.specs.Store.{Store, Value, Stored, pair_count, atom_count}

-- What is left to do fits k values: a tree is one value more, a join finds two and makes them one, at the end there is one.
abbrev pub Fits : List ParseOp → ℕ → Type 0
Fits [] k = k ≡ 1
Fits (SExp ∷ ops) k = Fits ops (suc k)
Fits (Cons ∷ ops) zero = ⊥
Fits (Cons ∷ ops) (suc zero) = ⊥
Fits (Cons ∷ ops) (suc (suc k)) = Fits ops (suc k)

-- How many joins are left to do.
abbrev pub conses : List ParseOp → ℕ
conses [] = 0
conses (SExp ∷ ops) = conses ops
conses (Cons ∷ ops) = suc (conses ops)

-- A node that is there, among so many pairs and listed atoms.
abbrev pub Known : (pairs atoms : ℕ) → Node → Type 0
Known p a (pair i) = i < p
Known p a (listed_atom i) = i < a
Known p a (small_atom v) = Unit {0}
Known p a (unknown k i) = ⊥

abbrev pub KnownHandle : (pairs atoms : ℕ) → ℕ → Type 0
KnownHandle p a h = Known p a (node_of h)

abbrev pub KnownOption : (pairs atoms : ℕ) → Option ℕ → Type 0
KnownOption p a none = Unit {0}
KnownOption p a (some h) = KnownHandle p a h

-- A value's node is there, and so is its cached list.
pub record KnownValue (pairs atoms : ℕ) (v : Value) : Type 0 where
  pub node_known : KnownHandle pairs atoms v.node
  pub list_known : KnownOption pairs atoms v.list

-- How many values have no cached list.
abbrev pub one_if_none : Option ℕ → ℕ
one_if_none none = 1
one_if_none (some h) = 0

abbrev pub unlisted : List Value → ℕ
unlisted [] = 0
unlisted (v ∷ vs) = one_if_none v.list + unlisted vs

-- Pairs and atoms are two words each; each value with no cached list has its ghost pair; every handle names what is there.
pub record Holds (vs : List Value) (s : Store) : Type 0 where
  pub pairs_even : length s.pairs ≡ 2 * pair_count s
  pub atoms_even : length s.atoms ≡ 2 * atom_count s
  pub ghosts_enough : unlisted vs ≤ s.ghosts
  pub values_known : All (KnownValue (pair_count s) (atom_count s)) vs
  pub words_known : All (KnownHandle (pair_count s) (atom_count s)) s.pairs

-- After `used` bytes. Here `ops` is all that is left to do: it begins with SExp where a tree is read next, as in `At` (SExp ∷ a.ops), and with what
-- `settle` is given where a value was just pushed.
pub record Sound (used : ℕ) (ops : List ParseOp) (s : Stored) : Type 0 where
  pub fits : Fits ops (length s.values)
  pub ops_bound : length ops ≤ 2 * used + 1
  pub values_bound : length s.values ≤ used
  pub pairs_bound : pair_count s.store + s.store.ghosts + 2 * conses ops ≤ 2 * used
  pub atoms_bound : atom_count s.store ≤ used
  pub bytes_bound : length s.store.bytes ≤ used
  pub holds : Holds s.values s.store
