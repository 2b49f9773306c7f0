-- Laws of a choice by a test, and of what cannot be. Definitions choose by `cond` of the library.
-- Assumes nothing.
use Rattle.std.specs.Prelude.{ℕ, ◌≤◌, ◌<◌, ◌≡◌, refl, Bool, true, false, cond, ◌&&◌, ltb}
use Rattle.std.proofs.lemmas.Bool.{false≢true}
use Rattle.std.proofs.Common.{arith, ltb-true, ltb-false}

-- To show P of a choice, show it of each side, from what the test said.
pub by_cond {ℓ} : {A : Type ℓ} (P : A → Type 0) (c : Bool) (x y : A) → (c ≡ true → P x) → (c ≡ false → P y) → P (cond c x y)
by_cond P true x y f g = f refl
by_cond P false x y f g = g refl

pub cond_true {ℓ} : {A : Type ℓ} (c : Bool) (x y : A) → c ≡ true → cond c x y ≡ x
cond_true c x y e = rw e

pub cond_false {ℓ} : {A : Type ℓ} (c : Bool) (x y : A) → c ≡ false → cond c x y ≡ y
cond_false c x y e = rw e

-- One order or the other.
pub by_lt : {X : Type 0} (a b : ℕ) → (a < b → X) → (b ≤ a → X) → X
by_lt {X} a b f g = go (ltb a b) refl
  where
    go : (c : Bool) → ltb a b ≡ c → X
    go true e = f (ltb-true a b e)
    go false e = g (ltb-false a b e)

-- Both of two tests.
pub both_true : (a b : Bool) → (a && b) ≡ true → (a ≡ true) × (b ≡ true)
both_true true b e = (refl, e)
both_true false b e = absurd (false≢true e)

-- Where two different constructors are the same, `cc` gives 0 ≡ 1, and anything follows.
pub clash {ℓ} : {X : Type ℓ} → ◌≡◌ {A = ℕ} 0 1 → X
clash e = absurd (omega arith)
