-- Numbers of 16 bits, two to a word: its halves, and that setting one half changes no other number.
-- Assumes nothing.
use Rattle.std.specs.Prelude.{◌≡◌, ℕ, zero, suc, ◌+◌, ◌-◌, ◌*◌, ◌/◌, ◌%◌, ◌^◌, ◌<◌, cond, List, length, ◌==◌, ◌≢◌, slice_set, refl}
use Rattle.std.proofs.Common.{ap, ◌∙◌, arith, length-set, get_or-set_same, get_or-set_other, eq-eqb, ne_eqb}
use Rattle.std.proofs.Math.Decide.{ℕ_discrete}
use Rattle.words.specs.Words.{at}

-- Half h of a word: 0 its low 16 bits, 1 its high ones.
unfoldable pub half : (h word : ℕ) → ℕ
half h word = word / 2 ^ (16 * h) % 2 ^ 16

-- The word with half h set to v.
unfoldable pub with_half : (h word v : ℕ) → ℕ
with_half h word v = word - half h word * 2 ^ (16 * h) + v * 2 ^ (16 * h)

-- The half that is set has the number, and the other one is as it was.
pub half_of_set : (g h word v : ℕ) → g < 2 → h < 2 → v < 2 ^ 16 → half g (with_half h word v) ≡ cond (g == h) v (half g word)
unfolding half with_half
half_of_set zero zero word v l m n = omega arith
half_of_set zero (suc zero) word v l m n = omega arith
half_of_set zero (suc (suc h)) word v l m n = absurd (omega arith)
half_of_set (suc zero) zero word v l m n = omega arith
half_of_set (suc zero) (suc zero) word v l m n = omega arith
half_of_set (suc zero) (suc (suc h)) word v l m n = absurd (omega arith)
half_of_set (suc (suc g)) h word v l m n = absurd (omega arith)

-- Half h of word k is set to v: no other half of any word changes.
pub record HalfSet (w w' : List ℕ) (k h v : ℕ) : Type 0 where
  pub len : length w' ≡ length w
  pub here : half h (at w' k) ≡ v
  pub others : (j g : ℕ) → g < 2 → (j ≡ k → g ≢ h) → half g (at w' j) ≡ half g (at w j)
  pub words : (j : ℕ) → (j ≢ k) → at w' j ≡ at w j

-- A store of such a word does that.
pub half_set : (w : List ℕ) (k h v : ℕ) → k < length w → h < 2 → v < 2 ^ 16 → HalfSet w (slice_set w k (with_half h (at w k) v)) k h v
half_set w k h v l m n = record {
  len = simp length-set;
  here = ap (half h) same ∙ half_of_set h h (at w k) v m m n ∙ rw (eq-eqb h h refl);
  others = λ j g q d. other j g q d (ℕ_discrete j k);
  words = λ j d. get_or-set_other w k j (with_half h (at w k) v) 0 d;
}
  where
    same : at (slice_set w k (with_half h (at w k) v)) k ≡ with_half h (at w k) v
    same = get_or-set_same w k (with_half h (at w k) v) 0 l

    other : (j g : ℕ) → g < 2 → (j ≡ k → g ≢ h) → Dec (j ≡ k) → half g (at (slice_set w k (with_half h (at w k) v)) j) ≡ half g (at w j)
    other j g q d (yes e) =
        rw e (ap (half g) same ∙ half_of_set g h (at w k) v q m n ∙ rw (ne_eqb g h (d e)))
    other j g q d (no e) = ap (half g) (get_or-set_other w k j (with_half h (at w k) v) 0 e)

-- ---- what the code computes

pub low_half : (h word : ℕ) → h ≡ 0 → word % 65536 ≡ half h word
unfolding half
low_half h word e = rw e (omega arith)

pub high_half : (h word : ℕ) → h < 2 → (h ≢ 0) → word < 2 ^ 32 → word / 65536 ≡ half h word
unfolding half
high_half h word l d m = let e : h ≡ 1 = omega arith in rw e (omega arith)

pub with_low : (h word v : ℕ) → h ≡ 0 → word / 65536 * 65536 + v ≡ with_half h word v
unfolding half with_half
with_low h word v e = rw e (omega arith)

pub with_high : (h word v : ℕ) → h < 2 → (h ≢ 0) → word < 2 ^ 32 → v * 65536 + word % 65536 ≡ with_half h word v
unfolding half with_half
with_high h word v l d m = let e : h ≡ 1 = omega arith in rw e (omega arith)
