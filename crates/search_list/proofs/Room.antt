-- The list has room: what is left to visit has few enough parents.
-- Assumes nothing.
use mathlib.Core.Path.{◌≡◌, refl, ap, ap₂}
use mathlib.Core.Bool.{Bool, true, false, cond, ◌||◌}
use mathlib.Core.List.{List, ◌∷◌}
use Prim.Native.Nat.{ℕ, zero, suc, ◌+◌, ◌≤◌, ◌<◌}
use native.Mathlib.Omega.{arith}
use native.Mathlib.Decide.{ℕ_discrete}
use borrow.Author.Tests.{eq-eqb, ne_eqb}
use Rattle.spec_search.specs.Search.{member}
use Rattle.words.specs.Choice.{cond_true, cond_false}
use Rattle.search_list.specs.Steps.{unseen}

pub or_false : (a b : Bool) → a ≡ false → (a || b) ≡ b
or_false a b e = rw e

pub or_true : (a b : Bool) → a ≡ true → (a || b) ≡ true
or_true a b e = rw e

module _ (f : ℕ → ℕ) (seen : List ℕ) (x : ℕ) where
  other : (k : ℕ) → (k ≡ x → ⊥) → cond (member k (x ∷ seen)) 0 (f k) ≡ cond (member k seen) 0 (f k)
  other k d = ap (λ (b : Bool). cond b 0 (f k)) (or_false _ _ (ne_eqb k x d))

  above : (n : ℕ) → n ≤ x → unseen f (x ∷ seen) n ≡ unseen f seen n
  unfolding unseen
  above zero h = refl
  above (suc n) h = ap₂ {C = ℕ} (λ a b. a + b) (other n (omega arith)) (above n (omega arith))

  pub unseen_visit : (n : ℕ) → x < n → member x seen ≡ false → unseen f seen n ≡ f x + unseen f (x ∷ seen) n
  unfolding unseen
  unseen_visit zero h e = absurd (omega arith)
  unseen_visit (suc n) h e = go (ℕ_discrete n x) (λ l. unseen_visit n l e)
    where
      go : Dec (n ≡ x) → (x < n → unseen f seen n ≡ f x + unseen f (x ∷ seen) n)
          → cond (member n seen) 0 (f n) + unseen f seen n ≡ f x + (cond (member n (x ∷ seen)) 0 (f n) + unseen f (x ∷ seen) n)
      go (yes q) r =
          let a : cond (member n seen) 0 (f n) ≡ f n = cond_false (member n seen) 0 (f n) (rw q e) in
          let b : cond (member n (x ∷ seen)) 0 (f n) ≡ 0 = cond_true _ _ _ (or_true _ _ (eq-eqb n x q)) in
          omega (arith, above n (omega arith), ap f q)
      go (no q) r = omega (arith, other n q, r (omega arith))

pub unseen_same : (f g : ℕ → ℕ) (seen : List ℕ) (n : ℕ) → ((k : ℕ) → k < n → g k ≡ f k) → unseen g seen n ≡ unseen f seen n
unfolding unseen
unseen_same f g seen zero h = refl
unseen_same f g seen (suc n) h =
    ap₂ {C = ℕ} (λ a b. a + b) (ap (cond (member n seen) 0) (h n (omega arith))) (unseen_same f g seen n (λ k l. h k (omega arith)))
