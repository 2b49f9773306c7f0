-- Lists read by number.
-- Assumes nothing.
use Prim.Native.Nat.{ℕ, zero, suc, ◌≤◌, ◌<◌}
use mathlib.Core.Path.{◌≡◌, refl}
use mathlib.Core.List.{List, [], ◌∷◌}
use mathlib.Core.Option.{none, some}
use native.Mathlib.Omega.{arith}
use lib.ListN.{length, take}
use Rattle.words.specs.Choice.{clash}
use Rattle.spec_session.specs.Trees.{nth}

pub nth_low : {A : Type 0} (xs : List A) (k : ℕ) (x : A) → nth xs k ≡ some x → k < length xs
nth_low [] k x e = clash cc
nth_low (y ∷ xs) zero x e = omega arith
nth_low (y ∷ xs) (suc k) x e = omega (arith, nth_low xs k x e)

-- A member that there is.
pub record Found {A : Type 0} (xs : List A) (k : ℕ) : Type 0 where
  pub value : A
  pub is : nth xs k ≡ some value

pub nth_found : {A : Type 0} (xs : List A) (k : ℕ) → k < length xs → Found xs k
nth_found [] k l = absurd (omega arith)
nth_found (x ∷ xs) zero l = record { value = x; is = refl }
nth_found (x ∷ xs) (suc k) l = let r = nth_found xs k (omega arith) in record { value = r.value; is = r.is }

pub nth_none : {A : Type 0} (xs : List A) (k : ℕ) → length xs ≤ k → nth xs k ≡ none
nth_none [] k l = refl
nth_none (x ∷ xs) zero l = absurd (omega arith)
nth_none (x ∷ xs) (suc k) l = nth_none xs k (omega arith)

pub nth_take : {A : Type 0} (n : ℕ) (xs : List A) (k : ℕ) (x : A) → nth (take n xs) k ≡ some x → (k < n) × (nth xs k ≡ some x)
nth_take zero [] k x e = clash cc
nth_take zero (y ∷ xs) k x e = clash cc
nth_take (suc n) [] k x e = clash cc
nth_take (suc n) (y ∷ xs) zero x e = (omega arith, e)
nth_take (suc n) (y ∷ xs) (suc k) x e = let r = nth_take n xs k x e in (omega (arith, r.0), r.1)
