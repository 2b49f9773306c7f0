-- A lookup goes along one chain alone: what is sought stands in it, and what lies between two of its places is not sought.
-- Assumes nothing.
use Rattle.std.proofs.Common.{◌≡◌, ℕ, suc, ◌<◌, ◌≤◌, sym, ap, ◌∙◌, arith}
use native.Mathlib.Decide.{ℕ_discrete, dec_lt}
use Rattle.work_layout.specs.Rows.{prev}
use Rattle.work_layout.specs.Prev.{prev_le, prev_prev, prev_slot, prev_above}

-- A lookup at h of what is `Hit`, in the chain of the slot s among the first n: none from h on is it.
pub record Seek (f : ℕ → ℕ) (Hit : ℕ → Type 0) (s n h : ℕ) : Type 0 where
  pub low : h ≤ n
  pub chain : prev f s h ≡ h
  pub passed : (k : ℕ) → h ≤ k → k < n → Hit k → ⊥

module _ {f : ℕ → ℕ} {Hit : ℕ → Type 0} {s n : ℕ} (slot : (k : ℕ) → Hit k → f k ≡ s) where
  -- At the chain's first place.
  pub seek_first : Seek f Hit s n (prev f s n)
  seek_first = record { low = prev_le f s n; chain = prev_prev f s n; passed = λ k a b t. prev_above f s n k a b (slot k t) }

  -- Past e, the place of h.
  pub seek_past : {h : ℕ} (e : ℕ) → Seek f Hit s n h → h ≡ suc e → (Hit e → ⊥) → Seek f Hit s n (prev f s e)
  seek_past e k he d =
      record {
        low = let p = prev_le f s e in omega (arith, k.low);
        chain = prev_prev f s e;
        passed = λ i a b t. go i a b t (dec_lt i e) (ℕ_discrete i e);
      }
    where
      go : (i : ℕ) → prev f s e ≤ i → i < n → Hit i → Dec (i < e) → Dec (i ≡ e) → ⊥
      go i a b t (yes m) q = prev_above f s e i a m (slot i t)
      go i a b t (no m) (yes q) = d (rw q at t)
      go i a b t (no m) (no q) = k.passed i (omega arith) b t

-- The place of h is in the chain.
pub seek_here : {f : ℕ → ℕ} {Hit : ℕ → Type 0} {s n h : ℕ} (e : ℕ) → Seek f Hit s n h → h ≡ suc e → f e ≡ s
seek_here {f} {Hit} {s} e k he = prev_slot f s e (ap (prev f s) (sym he) ∙ k.chain ∙ he)
