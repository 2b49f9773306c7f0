-- What the join of the two topmost values leaves.
use Rattle.std.specs.Prelude.{ℕ, ◌+◌, ◌-◌, ◌*◌, ◌≤◌, ◌≡◌, List, take, drop}
use Rattle.spec_reading.specs.Store.{Store, join_values}
use Rattle.read_store.specs.Layout.{VALUES, ops_of, values_of}

-- The two topmost values are joined as `join_values` says, in any store whose pairs are those in use; the rest is as it was.
pub record Joined (w p : List ℕ) (values used : ℕ) (w' p' : List ℕ) : Type 0 where
  pub values_are : (s : Store) → s.pairs ≡ take (2 * used) p → values_of w' (values - 1) ≡ (join_values (values_of w values) s).values
  pub pairs_are : (s : Store) → s.pairs ≡ take (2 * used) p → take (2 * (used + 1)) p' ≡ (join_values (values_of w values) s).store.pairs
  pub pairs_rest : drop (2 * (used + 1)) p' ≡ drop (2 * (used + 1)) p
  pub ops : (m : ℕ) → m ≤ VALUES → ops_of w' m ≡ ops_of w m
