-- The list of the stack's values in work: the room that it takes, and what is left.
use Rattle.std.specs.Prelude.{ℕ, ◌+◌, ◌*◌, ◌≤◌, ◌<◌, max, ◌≡◌, List, ◌∷◌, length, take, drop}
use Rattle.std.proofs.Math.Option.{Option}
use Rattle.words.specs.Words.{at, WORK}
use Rattle.spec_reading.specs.Store.{Store, Listed, add_to_list, list_of}
use Rattle.spec_reading.specs.Sound.{one_if_none, unlisted}
use Rattle.read_store.specs.Layout.{VALUES, value_at, values_of}
use Rattle.read_path.specs.declared.stack_list.Built.{Built}

-- One more than n where there is no list.
abbrev pub unlisted_of : Option ℕ → ℕ → ℕ
unlisted_of o n = one_if_none o + n

-- The lowest `listed` of the values all have a list.
pub record HaveLists (w : List ℕ) (listed values : ℕ) : Type 0 where
  pub all : unlisted (values_of w listed) ≡ 0
  pub few : listed ≤ values

-- There is room for the list of the lowest `count` values: each pair that is made was a ghost pair. The lowest `listed` have theirs.
pub record ListRoom (w p : List ℕ) (count listed used ghosts : ℕ) : Type 0 where
  pub work : WORK ≤ length w
  pub pairs : 262144 ≤ length p
  pub few : count ≤ 131072
  pub ghost : unlisted (values_of w count) ≤ ghosts
  pub room : used + ghosts ≤ 131072
  pub lists : unlisted (values_of w listed) ≡ 0

-- There is room for one value's pair, if it has no list.
pub record AddRoom (w p : List ℕ) (i : ℕ) (below : Built) : Type 0 where
  pub work : WORK ≤ length w
  pub pairs : 262144 ≤ length p
  pub few : i < 131072
  pub ghost : unlisted_of (value_at w i).list 0 ≤ below.counts.ghosts
  pub room : below.counts.pairs + below.counts.ghosts ≤ 131072

-- A list is the one with this node, these pairs and ghost pairs.
pub record Holds (p : List ℕ) (b : Built) (l : Listed) : Type 0 where
  pub node_is : b.node.0 ≡ l.node
  pub pairs_are : take (2 * b.counts.pairs) p ≡ l.store.pairs
  pub ghosts_are : b.counts.ghosts ≡ l.store.ghosts

-- Value i is put on the list of those below as `add_to_list` says; of work only the word of its list changes.
pub record Adds (w p : List ℕ) (i : ℕ) (below : Built) (w' p' : List ℕ) (b : Built) : Type 0 where
  pub list_is : (l : Listed) → Holds p below l → Holds p' b (add_to_list (value_at w i).list (value_at w i).node l)
  pub values_are : (l : Listed) → Holds p below l → value_at w' i ∷ l.values ≡ (add_to_list (value_at w i).list (value_at w i).node l).values
  pub others : (k : ℕ) → (k ≡ VALUES + 2 * i + 1 → ⊥) → at w' k ≡ at w k
  pub pairs_rest : drop (2 * b.counts.pairs) p' ≡ drop (2 * b.counts.pairs) p
  pub total : b.counts.pairs + b.counts.ghosts ≡ below.counts.pairs + below.counts.ghosts
  pub spent : unlisted_of (value_at w i).list b.counts.ghosts ≡ below.counts.ghosts
  pub listed_is : b.counts.listed ≡ i + 1

-- The list of the lowest `count` values is made as `list_of` says, in any store whose pairs and ghosts are those in use; the rest
-- is as it was. All these have a list then, and those that had one before.
pub record Lists (w p : List ℕ) (count listed used ghosts : ℕ) (w' p' : List ℕ) (b : Built) : Type 0 where
  pub node_is : (s : Store) → s.pairs ≡ take (2 * used) p → s.ghosts ≡ ghosts → b.node.0 ≡ (list_of (values_of w count) s).node
  pub values_are : (s : Store) → s.pairs ≡ take (2 * used) p → s.ghosts ≡ ghosts → values_of w' count ≡ (list_of (values_of w count) s).values
  pub pairs_are : (s : Store) → s.pairs ≡ take (2 * used) p → s.ghosts ≡ ghosts → take (2 * b.counts.pairs) p' ≡ (list_of (values_of w count) s).store.pairs
  pub ghosts_are : (s : Store) → s.pairs ≡ take (2 * used) p → s.ghosts ≡ ghosts → b.counts.ghosts ≡ (list_of (values_of w count) s).store.ghosts
  pub pairs_rest : drop (2 * b.counts.pairs) p' ≡ drop (2 * b.counts.pairs) p
  pub low : (k : ℕ) → k < VALUES → at w' k ≡ at w k
  pub high : (k : ℕ) → VALUES + 2 * count ≤ k → at w' k ≡ at w k
  pub total : b.counts.pairs + b.counts.ghosts ≡ used + ghosts
  pub more : used ≤ b.counts.pairs
  pub listed_is : b.counts.listed ≡ max listed count
  pub lists : unlisted (values_of w' b.counts.listed) ≡ 0
