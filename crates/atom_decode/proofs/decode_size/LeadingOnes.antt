-- Laws of a byte's leading ones: the library's count is the definition's, and the mask below them leaves the rest of the byte.
-- Assumes nothing.
use Prim.Native.Nat.{ℕ, suc, ◌+◌, ◌-◌, ◌*◌, ◌/◌, ◌%◌, ◌^◌, ◌≤◌, ◌<◌}
use mathlib.Core.Path.{◌≡◌, sym, ap, ◌∙◌}
use native.Mathlib.Omega.{arith}
use native.Mathlib.Nat.{pow-suc, suc-mul}
use Rattle.std.proofs.Common.{pow-add}
use lib.Arith.{digits_mod}
use lib.Pow.{pow_mono}
use lib.Count.{count_leading_zeros, leading_top, leading_of_zero}
use Rattle.std.specs.Int.Bits.{bit_and}
use Rattle.std.proofs.lemmas.Nat.{and_mask}
use Rattle.std.proofs.lemmas.Nat.Bits.{ones_shr}
use Rattle.words.specs.Choice.{by_lt}
use Rattle.atom.specs.Parse.{ones}
use Rattle.atom.specs.RoundTrip.{ones_of, ones_split}

all_ones : count_leading_zeros 8 0 ≡ ones 8 255
unfolding ones
all_ones = leading_of_zero 8

-- The zeros of the other bits are the ones of the byte.
pub ones_counted : (b : ℕ) → b < 256 → count_leading_zeros 8 (255 - b) ≡ ones 8 b
ones_counted b h = by_lt b 255 some_zero (λ q. let e : 255 ≡ b = omega arith in rw (← e) all_ones)
  where
    some_zero : b < 255 → count_leading_zeros 8 (255 - b) ≡ ones 8 b
    some_zero q =
        let t = leading_top 8 (255 - b) (omega arith) (omega arith) in
        let w : 8 - count_leading_zeros 8 (255 - b) ≡ suc t.0 = omega (arith, t.1) in
        let v : 8 - 1 - count_leading_zeros 8 (255 - b) ≡ t.0 = omega (arith, t.1) in
        let o : ones 8 b ≡ count_leading_zeros 8 (255 - b) =
        ones_of 8 (count_leading_zeros 8 (255 - b)) (b + 2 ^ suc t.0 - 256) b (omega (arith, t.1)) (rw v (omega (arith, t.2, t.3, pow-suc 2 t.0)))
        (rw w (omega (arith, t.2, t.3, pow-suc 2 t.0))) in
        sym o

-- What the mask leaves.
pub rest_masked : (b w : ℕ) → b < 256 → w ≤ 7 → w ≡ ones 8 b → bit_and b (255 / 2 ^ w) + 256 ≡ b + 2 ^ (8 - w)
rest_masked b w h seven e = rw (shifted, and_mask b (8 - w), is_low) (omega (arith, split))
  where
    split : (256 ≤ b + 2 ^ (8 - w)) × (b + 2 ^ (8 - w) < 256 + 2 ^ (7 - w))
    split = ones_split 8 b w h (sym e) (omega arith)

    shifted : 255 / 2 ^ w ≡ 2 ^ (8 - w) - 1
    shifted = ones_shr 8 w (omega arith)

    whole : 2 ^ w * 2 ^ (8 - w) ≡ 256
    whole = sym (pow-add 2 w (8 - w)) ∙ let f : w + (8 - w) ≡ 8 = omega arith in ap (λ (n : ℕ). 2 ^ n) f

    double : 2 ^ (8 - w) ≡ 2 ^ (7 - w) * 2
    double = let f : 8 - w ≡ suc (7 - w) = omega arith in rw f (pow-suc 2 (7 - w))

    parted : b ≡ (2 ^ w - 1) * 2 ^ (8 - w) + (b + 2 ^ (8 - w) - 256)
    parted =
        let some : 2 ^ w ≡ suc (2 ^ w - 1) = omega (arith, pow_mono {i = 0} {j = w} (omega arith)) in
        omega (arith, split, rw some at whole, suc-mul (2 ^ w - 1) (2 ^ (8 - w)))

    is_low : b % 2 ^ (8 - w) ≡ b + 2 ^ (8 - w) - 256
    is_low = ap (λ (n : ℕ). n % 2 ^ (8 - w)) parted ∙ digits_mod (2 ^ w - 1) (omega (arith, split, double))
