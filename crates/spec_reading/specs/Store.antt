-- The store's reader, as de_br.rs has it: its values are handles into a store of pairs and atoms, each with a cached list.
use Rattle.std.specs.Prelude.{ℕ, ◌+◌, ◌-◌, ◌*◌, ◌/◌, Bool, true, false, List, [], ◌∷◌, ◌++◌, length}
use Rattle.std.proofs.Math.Option.{Option, none, some}
use Rattle.words.specs.Words.{at}
use Rattle.allocator.specs.Handle.{Node, pair, listed_atom, small_atom, unknown, node_of, handle_of, nil}
use Rattle.allocator.specs.SmallAtom.{fits_in_small_atom}
use Rattle.spec_reading.specs.Format.{Values, Read, read}

-- Pair i is two words, left then right handle. Listed atom i is two words, start and end among the atom bytes. Ghost pairs are counted only.
pub record Store : Type 0 where
  pub pairs : List ℕ
  pub atoms : List ℕ
  pub bytes : List ℕ
  pub ghosts : ℕ

abbrev pub no_store : Store
no_store = record { pairs = []; atoms = []; bytes = []; ghosts = 0 }

abbrev pub pair_count : Store → ℕ
pair_count s = length s.pairs / 2

abbrev pub atom_count : Store → ℕ
atom_count s = length s.atoms / 2

-- A node of the store, and the store.
pub record Made : Type 0 where
  pub node : ℕ
  pub store : Store

abbrev pub new_pair : ℕ → ℕ → Store → Made
new_pair l r s =
    record { node = handle_of (pair (pair_count s)); store = record { pairs = s.pairs ++ l ∷ r ∷ []; atoms = s.atoms; bytes = s.bytes; ghosts = s.ghosts } }

abbrev pub new_listed : List ℕ → Store → Made
new_listed b s =
    record {
      node = handle_of (listed_atom (atom_count s));
      store = record { pairs = s.pairs; atoms = s.atoms ++ length s.bytes ∷ (length s.bytes + length b) ∷ []; bytes = s.bytes ++ b; ghosts = s.ghosts };
    }

abbrev pub small_or_listed : Option ℕ → List ℕ → Store → Made
small_or_listed (some v) b s = record { node = handle_of (small_atom v); store = s }
small_or_listed none b s = new_listed b s

-- An atom: a small one is its handle alone.
abbrev pub new_atom : List ℕ → Store → Made
new_atom b s = small_or_listed (fits_in_small_atom b) b s

abbrev pub add_ghost : Store → Store
add_ghost s = record { pairs = s.pairs; atoms = s.atoms; bytes = s.bytes; ghosts = s.ghosts + 1 }

abbrev pub remove_ghost : Store → Store
remove_ghost s = record { pairs = s.pairs; atoms = s.atoms; bytes = s.bytes; ghosts = s.ghosts - 1 }

-- ---- values

-- A value, and the list of the stack from it down where that was built.
pub record Value : Type 0 where
  pub node : ℕ
  pub list : Option ℕ

-- The values, the last one first, and the store.
pub record Stored : Type 0 where
  pub values : List Value
  pub store : Store

abbrev pub nothing_stored : Stored
nothing_stored = record { values = []; store = no_store }

-- A value is pushed: a ghost pair stands for the pair that a stack kept as a list would make. It has no list yet.
abbrev pub push_made : Made → List Value → Stored
push_made m vs = record { values = record { node = m.node; list = none } ∷ vs; store = add_ghost m.store }

abbrev pub join_values : List Value → Store → Stored
join_values [] s = record { values = []; store = s }
join_values (v ∷ []) s = record { values = v ∷ []; store = s }
join_values (r ∷ l ∷ vs) s = push_made (new_pair l.node r.node s) vs

-- ---- the walk of `traverse_path_with_vec`

abbrev pub pick_word : Bool → ℕ
pick_word false = 0
pick_word true = 1

-- Down a path in the store; none where it steps into an atom.
unfoldable pub walk : Store → List Bool → Node → Option Node
walk s [] n = some n
walk s (b ∷ bs) (pair i) = walk s bs (node_of (at s.pairs (2 * i + pick_word b)))
walk s (b ∷ bs) (listed_atom i) = none
walk s (b ∷ bs) (small_atom v) = none
walk s (b ∷ bs) (unknown k i) = none

-- What a path leads to: the node, none for a refusal, and the values and the store, which a list that was built has changed.
pub record Led : Type 0 where
  pub node : Option ℕ
  pub stored : Stored

abbrev pub node_handle : Option Node → Option ℕ
node_handle none = none
node_handle (some n) = some (handle_of n)

abbrev pub led_to : Option Node → List Value → Store → Led
led_to n vs s = record { node = node_handle n; stored = record { values = vs; store = s } }

-- The list of the values, made from the lowest up: a value's cached list, or a pair of the value and the list below, which is cached and is a ghost pair no more.
pub record Listed : Type 0 where
  pub node : ℕ
  pub values : List Value
  pub store : Store

abbrev pub add_to_list : Option ℕ → ℕ → Listed → Listed
add_to_list (some p) v l = record { node = p; values = record { node = v; list = some p } ∷ l.values; store = l.store }
add_to_list none v l =
    let m = new_pair v l.node (remove_ghost l.store) in
    record { node = m.node; values = record { node = v; list = some m.node } ∷ l.values; store = m.store }

unfoldable pub list_of : List Value → Store → Listed
list_of [] s = record { node = handle_of nil; values = []; store = s }
list_of (v ∷ vs) s = add_to_list v.list v.node (list_of vs s)

abbrev pub led_list : Listed → Led
led_list l = record { node = some l.node; stored = record { values = l.values; store = l.store } }

abbrev pub above : Value → Led → Led
above v l = record { node = l.node; stored = record { values = v ∷ l.stored.values; store = l.stored.store } }

-- A set bit goes down the stack, a clear one into the value there. Below the lowest value is nil. A path that ends on the stack is the list from there down.
unfoldable pub lead : List Bool → List Value → Store → Led
lead bs [] s = led_to (walk s bs nil) [] s
lead [] (v ∷ vs) s = led_list (list_of (v ∷ vs) s)
lead (true ∷ bs) (v ∷ vs) s = above v (lead bs vs s)
lead (false ∷ bs) (v ∷ vs) s = led_to (walk s bs (node_of v.node)) (v ∷ vs) s

abbrev pub push_led : Option ℕ → Stored → Option Stored
push_led none s = none
push_led (some n) s = some (push_made (record { node = n; store = s.store }) s.values)

abbrev pub push_path_stored : Option (List Bool) → Stored → Option Stored
push_path_stored none s = push_led (some (handle_of nil)) s
push_path_stored (some bits) s = let l = lead bits s.values s.store in push_led l.node l.stored

abbrev pub store_values : Values Stored
store_values =
    record {
      push_atom = λ bytes s. push_made (new_atom bytes s.store) s.values;
      push_path = push_path_stored;
      join = λ s. join_values s.values s.store;
    }

-- A serialized tree, read into a fresh, empty store.
abbrev pub read_stored : List ℕ → Read Stored
read_stored input = read store_values input nothing_stored
