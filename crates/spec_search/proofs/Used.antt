-- A path that is used is the one that the search gave, and its measure is below the entry's length.
-- Assumes nothing.
use Rattle.std.specs.Prelude.{ℕ, ◌<◌, ◌≡◌, refl, Bool, true, false, cond, List, ltb}
use Rattle.std.proofs.Common.{subst, ltb-true}
use Rattle.std.proofs.Math.Option.{Option, none, some, none-ne-some, some-injective}
use Rattle.spec_search.specs.Search.{used}

pub record Used (measure : List Bool → ℕ) (len : ℕ) (o : Option (List Bool)) (bits : List Bool) : Type 0 where
  pub given : o ≡ some bits
  pub shorter : measure bits < len

pub used_some : (measure : List Bool → ℕ) (len : ℕ) (o : Option (List Bool)) (bits : List Bool) → used measure len o ≡ some bits → Used measure len o bits
used_some measure len none bits e = absurd (none-ne-some bits e)
used_some measure len (some b) bits e = go (ltb (measure b) len) refl e
  where
    go : (t : Bool) → ltb (measure b) len ≡ t → cond t (some b) none ≡ some bits → Used measure len (some b) bits
    go true t q = record { given = q; shorter = subst (λ (x : List Bool). measure x < len) (some-injective b bits q) (ltb-true (measure b) len t) }
    go false t q = absurd (none-ne-some bits q)
