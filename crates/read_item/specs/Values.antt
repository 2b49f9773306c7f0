-- An atom or a reference: what is asked before it is read, and what reading it leaves.
use Rattle.std.specs.Prelude.{ℕ, ◌+◌, ◌*◌, ◌^◌, ◌≤◌, ◌<◌, ◌≡◌, List, ◌∷◌, length, drop, Result, Err}
use Rattle.words.specs.Words.{WORK}
use Rattle.spec_reading.specs.Format.{SExp, Step, stop, settle, atom_item, path_item}
use Rattle.spec_reading.specs.Store.{Stored, store_values}
use Rattle.spec_reading.specs.Sound.{Sound}
use Rattle.atom.specs.Parse.{parse}
use Rattle.read_path.specs.Lists.{HaveLists}
use Rattle.read_store.specs.Atoms.{AtomStored}
use Rattle.read_store.specs.Layout.{ops_of, PushedValue}
use Rattle.read_item.specs.State.{stored_with, Next}
use Rattle.read_item.specs.declared.settle.Reader.{Reader}
use Rattle.read_item.specs.declared.settle.Item.{Item}
use Rattle.read_item.specs.declared.read_error.ReadError.{ReadError}
use Rattle.read_item.specs.Refusals.{number}
use Rattle.read_item.specs.Whole.{stored_of, item_of, StandsItem}

-- A node is pushed; what was read ends at `end`.
abbrev pub node_pushed : Reader → ℕ → Reader
node_pushed r end = record { position = end; ops = r.ops; values = r.values + 1; listed = r.listed; pairs = r.pairs; atoms = r.atoms; bytes = r.bytes; ghosts = r.ghosts + 1 }

-- ---- an atom

pub record AtomRoom (w a b : List ℕ) (r : Reader) (blob : List ℕ) : Type 0 where
  pub work : WORK ≤ length w
  pub values : r.values < 131072
  pub atoms_room : 2 * r.atoms + 2 ≤ length a
  pub bytes_room : r.bytes + length blob ≤ length b
  pub few_atoms : r.atoms < 2 ^ 26
  pub few_bytes : r.bytes + length blob < 2 ^ 32
  pub ghosts : r.ghosts ≤ 131072

-- The atom's node is on top, and its bytes are stored; it ends at `end`.
pub record AtomPushed (w a b : List ℕ) (r : Reader) (blob : List ℕ) (end : ℕ) (w' a' b' : List ℕ) (r' : Reader) : Type 0 where
  pub node : ℕ
  pub pushed : PushedValue w w' r.values node
  pub stored : AtomStored a b r.atoms r.bytes blob a' b' node r'.atoms r'.bytes
  pub position : r'.position ≡ end
  pub ops : r'.ops ≡ r.ops
  pub values : r'.values ≡ r.values + 1
  pub listed : r'.listed ≡ r.listed
  pub pairs : r'.pairs ≡ r.pairs
  pub ghosts : r'.ghosts ≡ r.ghosts + 1

-- The atom at the place was read as the definition says.
pub record SteppedAtom (input w p a b : List ℕ) (r : Reader) (w' p' a' b' : List ℕ) (i : Result Item ReadError) : Type 0 where
  pub same : atom_item store_values (parse (drop r.position input)) (drop r.position input) (ops_of w r.ops) (stored_of w p a b r) ≡ item_of input w' p' a' b' i
  pub stands : StandsItem input w' p' a' b' i

-- ---- a reference

-- The reader stands before a reference. A path knows the values and the pairs alone.
pub record BeforePath (input w p : List ℕ) (r : Reader) : Type 0 where
  pub atoms : List ℕ
  pub bytes : List ℕ
  pub work : WORK ≤ length w
  pub room : 262144 ≤ length p
  pub short : length input ≤ 65535
  pub inside : r.position < length input
  pub pairs_in : 2 * r.pairs ≤ length p
  pub sound : Sound r.position (SExp ∷ ops_of w r.ops) (stored_with w p atoms bytes r)
  pub lists : HaveLists w r.listed r.values

-- What the definition does with the path at the place.
abbrev pub path_there : (input w p a b : List ℕ) → Reader → Step Stored
path_there input w p a b r = path_item store_values (parse (drop (r.position + 1) input)) (drop (r.position + 1) input) (ops_of w r.ops) (stored_with w p a b r)

-- The node that the path led to is on top.
pub record PathPushed (input w p : List ℕ) (r : Reader) (w' p' : List ℕ) (r' : Reader) : Type 0 where
  pub same : (a b : List ℕ) → path_there input w p a b r ≡ settle store_values (drop r'.position input) (ops_of w' r'.ops) (stored_with w' p' a b r')
  pub kept : (a b : List ℕ) → Sound r.position (SExp ∷ ops_of w r.ops) (stored_with w p a b r) → Sound r'.position (ops_of w' r'.ops) (stored_with w' p' a b r')
  pub long_work : length w' ≡ length w
  pub long_pairs : length p' ≡ length p
  pub inside : r'.position ≤ length input
  pub pairs_in : 2 * r'.pairs ≤ length p
  pub more : r.pairs ≤ r'.pairs
  pub pairs_rest : drop (2 * r'.pairs) p' ≡ drop (2 * r'.pairs) p
  pub atoms_same : r'.atoms ≡ r.atoms
  pub bytes_same : r'.bytes ≡ r.bytes

-- The reference was read as the definition says: its node is pushed and settled, or it is refused.
pub data SteppedPath (input w p : List ℕ) (r : Reader) (w'' p'' : List ℕ) (i : Result Item ReadError) : Type 0 where
  path_settled : (w' p' : List ℕ) (r' : Reader) → PathPushed input w p r w' p' r' → length w'' ≡ length w' → length p'' ≡ length p' → Next input w' p' r' w'' p'' i
      → SteppedPath input w p r w'' p'' i
  path_refused : (e : ReadError) → i ≡ Err e → ((a b : List ℕ) → path_there input w p a b r ≡ stop (number e)) → SteppedPath input w p r w'' p'' i
