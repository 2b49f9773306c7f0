-- The last pass of a search for something of length len.
-- Assumes nothing.
use Rattle.std.specs.Prelude.{◌≡◌, ℕ, ◌*◌, ◌-◌, ◌≤◌, ◌<◌}

-- The last pass: no path has more than 8,192 bits.
pub record Limit (len r : ℕ) : Type 0 where
  pub most : r ≤ 8192
  pub exact : 8 * (len - 1) ≤ 8192 → r ≡ 8 * (len - 1)
  pub beyond : 8192 < 8 * (len - 1) → r ≡ 8192
