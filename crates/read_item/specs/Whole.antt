-- The whole reader: what its counts and the lent slices stand for, and what holds before and after an item.
use Rattle.std.specs.Prelude.{ℕ, ◌-◌, ◌*◌, ◌≤◌, ◌≡◌, List, [], ◌∷◌, length, take, drop, replicate, Result, Ok, Err}
use Rattle.words.specs.Words.{WORK}
use Rattle.spec_reading.specs.Format.{SExp, At, Step, go, whole, stop}
use Rattle.spec_reading.specs.Store.{Stored}
use Rattle.spec_reading.specs.Sound.{Sound}
use Rattle.read_path.specs.Lists.{HaveLists}
use Rattle.read_store.specs.Layout.{ops_of}
use Rattle.read_item.specs.State.{stored_with}
use Rattle.read_item.specs.declared.settle.Reader.{Reader}
use Rattle.read_item.specs.declared.settle.Item.{Item}
use Rattle.read_item.specs.declared.settle.Item.TheVariants as item
use Rattle.read_item.specs.declared.read_error.ReadError.{ReadError}
use Rattle.read_item.specs.Refusals.{number}

abbrev pub stored_of : (w p a b : List ℕ) → Reader → Stored
stored_of w p a b r = stored_with w p (take (2 * r.atoms) a) (take r.bytes b) r

abbrev pub reader_at : (input w p a b : List ℕ) → Reader → At Stored
reader_at input w p a b r = record { rest = drop r.position input; ops = ops_of w r.ops; values = stored_of w p a b r }

abbrev pub zeros_from : ℕ → List ℕ → List ℕ
zeros_from n l = replicate (length l - n) 0

-- The slices are long enough, what is in use lies in them, and what is not is zero.
pub record Lent (input w p a b : List ℕ) (r : Reader) : Type 0 where
  pub work : WORK ≤ length w
  pub pairs_room : 262144 ≤ length p
  pub atoms_room : 131072 ≤ length a
  pub bytes_room : 65536 ≤ length b
  pub short : length input ≤ 65535
  pub inside : r.position ≤ length input
  pub pairs_in : 2 * r.pairs ≤ length p
  pub atoms_in : 2 * r.atoms ≤ length a
  pub bytes_in : r.bytes ≤ length b
  pub pairs_rest : drop (2 * r.pairs) p ≡ zeros_from (2 * r.pairs) p
  pub atoms_rest : drop (2 * r.atoms) a ≡ zeros_from (2 * r.atoms) a
  pub bytes_rest : drop r.bytes b ≡ zeros_from r.bytes b

-- The reader stands before an item.
pub record Stands (input w p a b : List ℕ) (r : Reader) : Type 0 where
  pub lent : Lent input w p a b r
  pub sound : Sound r.position (SExp ∷ ops_of w r.ops) (stored_of w p a b r)
  pub lists : HaveLists w r.listed r.values

-- Everything is read.
pub record Ends (input w p a b : List ℕ) (r : Reader) : Type 0 where
  pub lent : Lent input w p a b r
  pub sound : Sound r.position [] (stored_of w p a b r)

abbrev pub item_of : (input w p a b : List ℕ) → Result Item ReadError → Step Stored
item_of input w p a b (Ok (item.Go r)) = go (reader_at input w p a b r)
item_of input w p a b (Ok (item.Whole r)) = whole (stored_of w p a b r)
item_of input w p a b (Err e) = stop (number e)

abbrev pub StandsItem : (input w p a b : List ℕ) → Result Item ReadError → Type 0
StandsItem input w p a b (Ok (item.Go r)) = Stands input w p a b r
StandsItem input w p a b (Ok (item.Whole r)) = Ends input w p a b r
StandsItem input w p a b (Err e) = Unit {0}
