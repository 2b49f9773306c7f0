-- Laws of the parents of all entries, counted together, and of the words that they take after the first ones.
-- Assumes nothing.
use Rattle.std.specs.Prelude.{◌≡◌, ℕ, zero, suc, ◌+◌, ◌*◌, ◌<◌, ◌≤◌, List, refl}
use Rattle.std.proofs.Common.{arith, not-suc-le-zero, add-one}
use Rattle.std.proofs.Math.Decide.{ℕ_discrete}
use Rattle.words.specs.Words.{at}
use Rattle.work_layout.specs.Layout.{COUNTS}
use Rattle.work_layout.specs.Rows.{all_counts, further, all_further}

pub counts_same : (w w' : List ℕ) (n : ℕ) → ((k : ℕ) → k < n → at w' (COUNTS + k) ≡ at w (COUNTS + k)) → all_counts w' n ≡ all_counts w n
unfolding all_counts
counts_same w w' zero s = refl
counts_same w w' (suc n) s = omega (arith, s n (omega arith), counts_same w w' n (λ k l. s k (omega arith)))

-- Those of an entry are among those of the first n, behind those of the entries before it.
pub counts_within : (w : List ℕ) (n e : ℕ) → e < n → all_counts w e + at w (COUNTS + e) ≤ all_counts w n
unfolding all_counts
counts_within w zero e l = absurd (not-suc-le-zero l)
counts_within w (suc n) e l = go (ℕ_discrete e n) (λ m. counts_within w n e m)
  where
    go : Dec (e ≡ n) → (e < n → all_counts w e + at w (COUNTS + e) ≤ all_counts w n) → all_counts w e + at w (COUNTS + e) ≤ at w (COUNTS + n) + all_counts w n
    go (yes q) f = rw q (omega arith)
    go (no q) f = omega (arith, f (omega arith))

-- Fewer entries have no more.
pub counts_upto : (w : List ℕ) (n e : ℕ) → e ≤ n → all_counts w e ≤ all_counts w n
counts_upto w n e l = go (ℕ_discrete e n)
  where
    go : Dec (e ≡ n) → all_counts w e ≤ all_counts w n
    go (yes q) = rw q (omega arith)
    go (no q) = omega (arith, counts_within w n e (omega arith))

-- ---- the words after the first ones

pub further_same : (w w' : List ℕ) (n : ℕ) → ((k : ℕ) → k < n → at w' (COUNTS + k) ≡ at w (COUNTS + k)) → all_further w' n ≡ all_further w n
unfolding all_further
further_same w w' zero s = refl
further_same w w' (suc n) s = omega (arith, s n (omega arith), further_same w w' n (λ k l. s k (omega arith)))

-- Those of none, and of one entry more.
pub further_none : (w : List ℕ) → all_further w 0 ≡ 0
unfolding all_further
further_none w = refl

pub further_more : (w : List ℕ) (n : ℕ) → all_further w (n + 1) ≡ all_further w n + further (at w (COUNTS + n))
unfolding all_further
further_more w n = rw (add-one n) (omega arith)

-- Those of an entry are among those of the first n, behind those of the entries before it.
pub further_within : (w : List ℕ) (n e : ℕ) → e < n → all_further w e + further (at w (COUNTS + e)) ≤ all_further w n
unfolding all_further
further_within w zero e l = absurd (not-suc-le-zero l)
further_within w (suc n) e l = go (ℕ_discrete e n) (λ m. further_within w n e m)
  where
    go : Dec (e ≡ n) → (e < n → all_further w e + further (at w (COUNTS + e)) ≤ all_further w n)
        → all_further w e + further (at w (COUNTS + e)) ≤ further (at w (COUNTS + n)) + all_further w n
    go (yes q) f = rw q (omega arith)
    go (no q) f = omega (arith, f (omega arith))

-- There are at most half as many of them as parents.
pub further_few : (w : List ℕ) (n : ℕ) → 2 * all_further w n ≤ all_counts w n
unfolding all_counts all_further
further_few w zero = omega arith
further_few w (suc n) = omega (arith, further_few w n)
