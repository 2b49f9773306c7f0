-- One item of a serialized tree: what reading it leaves.
use Rattle.std.specs.Prelude.{ℕ, ◌+◌, ◌≡◌, List, Result}
use Rattle.spec_reading.specs.Format.{step}
use Rattle.spec_reading.specs.Store.{store_values}
use Rattle.read_item.specs.declared.settle.Reader.{Reader}
use Rattle.read_item.specs.declared.settle.Item.{Item}
use Rattle.read_item.specs.declared.read_error.ReadError.{ReadError}
use Rattle.read_item.specs.Whole.{reader_at, item_of, StandsItem}

-- A pair's mark is passed.
abbrev pub pair_begun : Reader → Reader
pair_begun r = record { position = r.position + 1; ops = r.ops + 2; values = r.values; listed = r.listed; pairs = r.pairs; atoms = r.atoms; bytes = r.bytes; ghosts = r.ghosts }

-- One item was read as the definition says.
pub record Stepped (input w p a b : List ℕ) (r : Reader) (w' p' a' b' : List ℕ) (i : Result Item ReadError) : Type 0 where
  pub same : step store_values (reader_at input w p a b r) ≡ item_of input w' p' a' b' i
  pub stands : StandsItem input w' p' a' b' i
