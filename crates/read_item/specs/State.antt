-- What the reader's counts, its stacks and the pairs stand for, and what the joins leave.
use Rattle.std.specs.Prelude.{ℕ, ◌*◌, ◌≤◌, ◌≡◌, List, [], ◌∷◌, length, take, drop, Result, Ok, Err}
use Rattle.words.specs.Words.{WORK}
use Rattle.spec_reading.specs.Format.{ParseOp, SExp, Cons, Step, go, whole, stop, settle}
use Rattle.spec_reading.specs.Store.{Stored, store_values}
use Rattle.spec_reading.specs.Sound.{Sound}
use Rattle.read_path.specs.Lists.{HaveLists}
use Rattle.read_store.specs.Layout.{ops_of, values_of}
use Rattle.read_item.specs.declared.settle.Reader.{Reader}
use Rattle.read_item.specs.declared.settle.Item.{Item}
use Rattle.read_item.specs.declared.settle.Item.TheVariants as item
use Rattle.read_item.specs.declared.read_error.ReadError.{ReadError}
use Rattle.read_item.specs.Refusals.{number}

-- The values and the store, with these listed atoms and atom bytes.
abbrev pub stored_with : (w p atoms bytes : List ℕ) → Reader → Stored
stored_with w p a b r =
    record { values = values_of w r.values; store = record { pairs = take (2 * r.pairs) p; atoms = a; bytes = b; ghosts = r.ghosts } }

-- ---- joins: they know the values and the pairs alone

-- A value was pushed, and the joins on top of the operations can be done.
pub record Ready (w p : List ℕ) (r : Reader) : Type 0 where
  pub atoms : List ℕ
  pub bytes : List ℕ
  pub work : WORK ≤ length w
  pub room : 262144 ≤ length p
  pub limit : r.position ≤ 65535
  pub pairs_in : 2 * r.pairs ≤ length p
  pub sound : Sound r.position (ops_of w r.ops) (stored_with w p atoms bytes r)
  pub lists : HaveLists w r.listed r.values

-- A reader whose counts follow from another's by pairs alone; the rest of the pairs is as it was.
pub record Follows (p : List ℕ) (r : Reader) (p' : List ℕ) (r' : Reader) : Type 0 where
  pub pairs_in : 2 * r'.pairs ≤ length p
  pub more : r.pairs ≤ r'.pairs
  pub pairs_rest : drop (2 * r'.pairs) p' ≡ drop (2 * r'.pairs) p
  pub position : r'.position ≡ r.position
  pub atoms : r'.atoms ≡ r.atoms
  pub bytes : r'.bytes ≡ r.bytes

-- Joins were done: what is left gives what all would give.
pub record Onward (w p : List ℕ) (r : Reader) (w' p' : List ℕ) (r' : Reader) : Type 0 where
  pub follows : Follows p r p' r'
  pub kept : (a b : List ℕ) → Sound r.position (ops_of w r.ops) (stored_with w p a b r) → Sound r.position (ops_of w' r'.ops) (stored_with w' p' a b r')
  pub same : (rest a b : List ℕ) → settle store_values rest (ops_of w r.ops) (stored_with w p a b r) ≡ settle store_values rest (ops_of w' r'.ops) (stored_with w' p' a b r')
  pub lists : HaveLists w' r'.listed r'.values

-- The topmost operation is no join.
abbrev pub NoJoin : List ParseOp → Type 0
NoJoin [] = Unit {0}
NoJoin (SExp ∷ ops) = Unit {0}
NoJoin (Cons ∷ ops) = ⊥

pub record Settled (w p : List ℕ) (r : Reader) (w' p' : List ℕ) (r' : Reader) : Type 0 where
  pub onward : Onward w p r w' p' r'
  pub no_join : NoJoin (ops_of w' r'.ops)

-- ---- after a value: what comes next

-- The item's answer, with these listed atoms and atom bytes.
abbrev pub item_with : (input w p atoms bytes : List ℕ) → Result Item ReadError → Step Stored
item_with input w p a b (Ok (item.Go r)) = go (record { rest = drop r.position input; ops = ops_of w r.ops; values = stored_with w p a b r })
item_with input w p a b (Ok (item.Whole r)) = whole (stored_with w p a b r)
item_with input w p a b (Err e) = stop (number e)

abbrev pub FollowsItem : (w p : List ℕ) → Reader → (w' p' : List ℕ) → Result Item ReadError → Type 0
FollowsItem w p r w' p' (Ok (item.Go r')) =
    Follows p r p' r' × ((a b : List ℕ) → Sound r.position (ops_of w r.ops) (stored_with w p a b r) → Sound r.position (SExp ∷ ops_of w' r'.ops) (stored_with w' p' a b r'))
    × HaveLists w' r'.listed r'.values
FollowsItem w p r w' p' (Ok (item.Whole r')) =
    Follows p r p' r' × ((a b : List ℕ) → Sound r.position (ops_of w r.ops) (stored_with w p a b r) → Sound r.position [] (stored_with w' p' a b r'))
FollowsItem w p r w' p' (Err e) = Unit {0}

-- The value is settled as the definition says.
pub record Next (input w p : List ℕ) (r : Reader) (w' p' : List ℕ) (i : Result Item ReadError) : Type 0 where
  pub same : (a b : List ℕ) → settle store_values (drop r.position input) (ops_of w r.ops) (stored_with w p a b r) ≡ item_with input w' p' a b i
  pub follows : FollowsItem w p r w' p' i
