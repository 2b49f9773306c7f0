-- What the reading call promises of its result: the tree that the input stands for, or why there is none. The call's definition keeps it, for every input
-- and all slices.
-- Assumes nothing.
use Rattle.std.specs.Prelude.{ℕ, ◌+◌, ◌≤◌, ◌<◌, ◌≡◌, false, List, [], ◌∷◌, length}
use Rattle.spec_reading.specs.Tree.{Tree}
use Rattle.spec_reading.specs.Grammar.{StandsFor}
use Rattle.spec_reading.specs.Format.{accepted, turned_down}
use Rattle.spec_reading.specs.Plain.{read_plain}
use Rattle.spec_reading.specs.Store.{Store}
use Rattle.spec_reading.specs.Names.{NamesHandle}
use Rattle.spec_reading.specs.Call.{Result, long_enough}

-- The store that the reading call left in its slices.
abbrev pub store_in : Result → Store
store_in r = record { pairs = r.slices.pairs; atoms = r.slices.atoms; bytes = r.slices.bytes; ghosts = r.answer.ghosts }

-- Reading exactly these bytes gives 0 and a root, and the root followed through the pairs and atoms read is the tree.
pub record ReadAs (r : Result) (tree : Tree) : Type 0 where
  pub number : r.answer.number ≡ 0
  pub root : NamesHandle (store_in r) r.answer.root tree

-- What the result of a reading call with this input says, by its number.
pub data ReadsPlainly (input : List ℕ) (r : Result) : Type 0 where
  -- 0: the input stands for a tree, the root in the slices is that tree, and pairs and ghost pairs together are as many as the plain reader makes.
  a_tree : (tree : Tree) → StandsFor [] input tree → ReadAs r tree
      → read_plain input ≡ accepted (record { trees = tree ∷ []; made = r.answer.pairs + r.answer.ghosts }) → ReadsPlainly input r
  -- 14, 15 or 16: the input stands for no tree, and the plain reader turns it down with this number.
  no_tree : 14 ≤ r.answer.number → r.answer.number ≤ 16 → ((tree : Tree) → StandsFor [] input tree → ⊥)
      → read_plain input ≡ turned_down r.answer.number → ReadsPlainly input r
  -- 1 or 2: the input was not read, since a slice is too short or the input too long.
  too_short : r.answer.number ≡ 1 → long_enough r.slices ≡ false → ReadsPlainly input r
  too_long : r.answer.number ≡ 2 → 65535 < length input → ReadsPlainly input r
