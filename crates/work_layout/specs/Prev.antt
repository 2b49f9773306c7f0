-- Laws of `prev`, one more than the last place before n that holds s, or 0.
-- Assumes nothing.
use Rattle.std.specs.Prelude.{◌≡◌, ℕ, zero, suc, ◌+◌, ◌-◌, ◌<◌, ◌≤◌, Bool, true, false, cond, ◌==◌, ◌≢◌, refl}
use Rattle.std.proofs.Common.{sym, ap, ◌∙◌, arith, not-suc-le-zero, add-one, eq-eqb, ne_eqb, eqb-true}
use Rattle.std.proofs.Math.Decide.{ℕ_discrete}
use Rattle.std.proofs.lemmas.Bool.{eqb-false}
use Rattle.work_layout.specs.Rows.{prev}

pub prev_le : (f : ℕ → ℕ) (s n : ℕ) → prev f s n ≤ n
unfolding prev
prev_le f s zero = omega arith
prev_le f s (suc n) = go (f n == s) (prev_le f s n)
  where
    go : (t : Bool) → prev f s n ≤ n → cond t (suc n) (prev f s n) ≤ suc n
    go true h = omega arith
    go false h = omega arith

-- The place before what `prev` gives is itself the last one.
pub prev_prev : (f : ℕ → ℕ) (s n : ℕ) → prev f s (prev f s n) ≡ prev f s n
unfolding prev
prev_prev f s zero = refl
prev_prev f s (suc n) = go (f n == s) refl (prev_prev f s n)
  where
    go : (t : Bool) → (f n == s) ≡ t → prev f s (prev f s n) ≡ prev f s n → prev f s (cond t (suc n) (prev f s n)) ≡ cond t (suc n) (prev f s n)
    go true q h = rw q
    go false q h = h

pub prev_slot : (f : ℕ → ℕ) (s e : ℕ) → prev f s (suc e) ≡ suc e → f e ≡ s
unfolding prev
prev_slot f s e h = go (f e == s) refl h
  where
    go : (t : Bool) → (f e == s) ≡ t → cond t (suc e) (prev f s e) ≡ suc e → f e ≡ s
    go true q k = eqb-true _ _ q
    go false q k = absurd (let l = prev_le f s e in omega arith)

pub prev_same : (f g : ℕ → ℕ) (s n : ℕ) → ((k : ℕ) → k < n → f k ≡ g k) → prev f s n ≡ prev g s n
unfolding prev
prev_same f g s zero h = refl
prev_same f g s (suc n) h = rw (h n (omega arith), prev_same f g s n (λ k l. h k (omega arith)))

-- One place more: it holds s, or it does not.
pub prev_here : (f : ℕ → ℕ) (s n : ℕ) → f n ≡ s → prev f s (n + 1) ≡ n + 1
unfolding prev
prev_here f s n e = rw (add-one n, eq-eqb (f n) s e)

pub prev_past : (f : ℕ → ℕ) (s n : ℕ) → (f n ≢ s) → prev f s (n + 1) ≡ prev f s n
unfolding prev
prev_past f s n d = rw (add-one n, ne_eqb (f n) s d)

-- The place that `prev` gives holds s.
pub prev_holds : (f : ℕ → ℕ) (s n : ℕ) → 0 < prev f s n → f (prev f s n - 1) ≡ s
prev_holds f s n h =
    let e : prev f s n ≡ suc (prev f s n - 1) = omega arith in
    prev_slot f s (prev f s n - 1) (ap (prev f s) (sym e) ∙ prev_prev f s n ∙ e)

-- No later place holds s.
pub prev_above : (f : ℕ → ℕ) (s n j : ℕ) → prev f s n ≤ j → j < n → f j ≢ s
unfolding prev
prev_above f s zero j h l e = not-suc-le-zero l
prev_above f s (suc n) j h l e = go (f n == s) refl h (λ m k. prev_above f s n j m k e) (ℕ_discrete j n)
  where
    go : (t : Bool) → (f n == s) ≡ t → cond t (suc n) (prev f s n) ≤ j → (prev f s n ≤ j → j < n → ⊥) → Dec (j ≡ n) → ⊥
    go true q m below d = omega arith
    go false q m below (yes d) = eqb-false (f n) s q (rw d at e)
    go false q m below (no d) = below m (omega arith)
