-- What right-aligning a path's bytes leaves in the store.
-- Assumes nothing.
use Rattle.std.specs.Prelude.{ℕ, ◌≡◌, List, take, drop}
use Rattle.path.specs.Bytes.{octets, all_bits}

-- The first n bytes hold the bits that they held, less the lowest r, right-aligned; those after them are as they were.
pub record Aligned (store : List ℕ) (n r : ℕ) (store' : List ℕ) : Type 0 where
  pub bytes : take n store' ≡ octets n (drop r (all_bits (take n store)))
  pub rest : drop n store' ≡ drop n store
