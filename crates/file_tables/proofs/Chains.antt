-- Laws of an atom's chain.
-- Assumes nothing.
use Rattle.std.proofs.Common.{◌≡◌, ℕ, ◌+◌, ◌<◌, Bool, true, false, cond, eqb, List, refl, arith, eq-eqb, ne_eqb, eqb-true}
use Rattle.file_tables.specs.Listed.{slot_of}
use Rattle.file_tables.specs.Chains.{first_of, chain_of}
use Rattle.file_tables.proofs.First.{first_of_same}

module _ (b : ℕ → List ℕ) where
  pub chain_first : (k : ℕ) → first_of b k ≡ k → chain_of b k ≡ slot_of (b k)
  unfolding chain_of
  chain_first k e = rw (eq-eqb (first_of b k) k e)

  pub chain_none : (k : ℕ) → (first_of b k ≡ k → ⊥) → chain_of b k ≡ 1024
  unfolding chain_of
  chain_none k d = rw (ne_eqb (first_of b k) k d)

  -- An atom of a chain is the first one of its bytes.
  pub chain_is_first : (k s : ℕ) → s < 1024 → chain_of b k ≡ s → first_of b k ≡ k
  unfolding chain_of
  chain_is_first k s l = go (eqb (first_of b k) k) refl
    where
      go : (t : Bool) → eqb (first_of b k) k ≡ t → cond t (slot_of (b k)) 1024 ≡ s → first_of b k ≡ k
      go true q e = eqb-true (first_of b k) k q
      go false q e = absurd (omega arith)

pub chain_same : (b b' : ℕ → List ℕ) (k : ℕ) → ((j : ℕ) → j < k + 1 → b' j ≡ b j) → chain_of b' k ≡ chain_of b k
unfolding chain_of
chain_same b b' k h = rw (first_of_same b b' k h, h k (omega arith))
