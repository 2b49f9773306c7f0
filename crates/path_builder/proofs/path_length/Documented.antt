-- The bytes that the documentation has for a path of n bytes that do not stand for themselves.
-- Assumes nothing.
use Prim.Native.Nat.{ℕ, ◌+◌, ◌^◌, ◌<◌}
use mathlib.Core.Path.{◌≡◌, sym, ◌∙◌}
use mathlib.Core.Logic.{◌⊎◌, inl, inr}
use mathlib.Core.Bool.{Bool, true, false, ◌&&◌, not}
use mathlib.Core.Option.{some, some-injective}
use native.Mathlib.Omega.{arith}
use lib.Dec.{eqb}
use borrow.Author.Tests.{eq-eqb, ne_eqb}
use Rattle.words.specs.Choice.{cond_false}
use Rattle.atom.specs.Prefix.{width}
use Rattle.path.specs.MeasureLaws.{documented_prefix}
use Rattle.path.proofs.MeasureLaws.{width_is}
use Rattle.path_builder.specs.Measured.{documented_bytes}

module _ (full : Bool) (n : ℕ) where
  -- More than one byte, or one that the bits fill.
  prefixed : ((n ≡ 1) × (full ≡ true)) ⊎ (n ≡ 1 → ⊥) → eqb n 1 && not full ≡ false
  prefixed (inl q) = rw (eq-eqb n 1 q.0, q.1)
  prefixed (inr d) = rw (ne_eqb n 1 d)

  pub documented_sized : (w : ℕ) → n < 2 ^ 34 → width n ≡ some w → ((n ≡ 1) × (full ≡ true)) ⊎ (n ≡ 1 → ⊥) → n + w ≡ documented_bytes full n
  documented_sized w h e q =
      let is : documented_prefix n ≡ w = some-injective (documented_prefix n) w (sym (width_is n h) ∙ e) in
      sym (cond_false (eqb n 1 && not full) 1 (documented_prefix n + n) (prefixed q) ∙ omega (arith, is))
