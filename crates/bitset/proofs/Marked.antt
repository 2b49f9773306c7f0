-- A word with one bit set in it: the set has one member more.
-- Assumes nothing.
use mathlib.Core.Path.{◌≡◌, sym, ap, ◌∙◌}
use mathlib.Core.Bool.{true, false}
use mathlib.Core.List.{List}
use Prim.Native.Nat.{ℕ, zero, suc, ◌+◌, ◌*◌, ◌-◌, ◌/◌, ◌%◌, ◌^◌, ◌<◌}
use native.Mathlib.Omega.{arith}
use native.Mathlib.Nat.{one-mul, div-eq_of_lt}
use native.Mathlib.Decide.{ℕ_discrete, dec_lt}
use lib.Bits.{bit_or, or_shr, or_mod, or_zero_l, or_zero_r, or_self, shifted_even}
use lib.Pow.{pow-lt, pow-add, shl_exact, shl-shr}
use lib.Dec.{eqb}
use lib.ListN.{length, get_or, set, length-set}
use lib.Seq.{ext_get_or, get_or-set_same, get_or-set_other}
use Rattle.path.specs.Bytes.{odd}
use Rattle.bitset.specs.BitSet.{bits_of}
use Rattle.bitset.specs.BitSetLaws.{length_bits_of, bits_of_at}

-- bit j of 2 ^ i
pow_bit_same : (i : ℕ) → 2 ^ i / 2 ^ i % 2 ≡ 1
pow_bit_same i = ap (λ (x : ℕ). x / 2 ^ i % 2) (sym (one-mul (2 ^ i))) ∙ ap (λ (x : ℕ). x % 2) (shl-shr 1 i)

pow_bit_other : (i j : ℕ) → (i ≡ j → ⊥) → 2 ^ i / 2 ^ j % 2 ≡ 0
pow_bit_other i j d = go (dec_lt i j)
  where
    go : Dec (i < j) → 2 ^ i / 2 ^ j % 2 ≡ 0
    go (yes l) = ap (λ (x : ℕ). x % 2) (div-eq_of_lt (pow-lt l))
    go (no l) =
        let e : i ≡ suc (i - j - 1) + j = omega arith in
        ap (λ (x : ℕ). 2 ^ x / 2 ^ j % 2) e ∙ ap (λ (x : ℕ). x / 2 ^ j % 2) (pow-add 2 (suc (i - j - 1)) j) ∙ ap (λ (x : ℕ). x % 2) (shl-shr (2 ^ suc (i - j - 1)) j)
        ∙ ap (λ (x : ℕ). x % 2) (sym (one-mul (2 ^ suc (i - j - 1)))) ∙ shifted_even 1 (i - j - 1)

or_one : (y : ℕ) → y < 2 → bit_or y 1 ≡ 1
or_one zero h = or_zero_l 1
or_one (suc zero) h = or_self 1
or_one (suc (suc y)) h = absurd (omega arith)

or_bit : (x i j : ℕ) → bit_or x (2 ^ i) / 2 ^ j % 2 ≡ bit_or (x / 2 ^ j % 2) (2 ^ i / 2 ^ j % 2)
or_bit x i j = ap (λ (y : ℕ). y % 2) (or_shr x (2 ^ i) j) ∙ or_mod (x / 2 ^ j) (2 ^ i / 2 ^ j) 1

pub marked : (w : List ℕ) (i : ℕ) → i < 32 * length w
    → bits_of (set w (i / 32) (bit_or (get_or w (i / 32) 0) (1 * 2 ^ (i % 32) % 2 ^ 32))) ≡ set (bits_of w) i true
marked w i h =
    rw one
    (ext_get_or false _ _ (longer ∙ sym (length_bits_of w) ∙ sym (length-set (bits_of w) i true))
    (λ j l. let p : j < 32 * length w = omega (arith, longer) in
    bits_of_at w' j (omega (arith, length-set w (i / 32) (bit_or x (2 ^ (i % 32))))) ∙ go j p (ℕ_discrete j i)))
  where
    one : 1 * 2 ^ (i % 32) % 2 ^ 32 ≡ 2 ^ (i % 32)
    one = shl_exact 1 (i % 32) 32 (omega arith) (omega arith) ∙ one-mul (2 ^ (i % 32))

    x : ℕ
    x = get_or w (i / 32) 0

    w' : List ℕ
    w' = set w (i / 32) (bit_or x (2 ^ (i % 32)))

    longer : length (bits_of w') ≡ 32 * length w
    longer = length_bits_of w' ∙ ap (λ (n : ℕ). 32 * n) (length-set w (i / 32) (bit_or x (2 ^ (i % 32))))

    word : get_or w' (i / 32) 0 ≡ bit_or x (2 ^ (i % 32))
    word = get_or-set_same w (i / 32) (bit_or x (2 ^ (i % 32))) 0 (omega arith)

    here : get_or w' (i / 32) 0 / 2 ^ (i % 32) % 2 ≡ 1
    here =
        ap (λ (y : ℕ). y / 2 ^ (i % 32) % 2) word ∙ or_bit x (i % 32) (i % 32) ∙ ap (bit_or (x / 2 ^ (i % 32) % 2)) (pow_bit_same (i % 32))
        ∙ or_one (x / 2 ^ (i % 32) % 2) (omega arith)

    other : (k : ℕ) → (k ≡ i → ⊥) → Dec (k / 32 ≡ i / 32) → get_or w' (k / 32) 0 / 2 ^ (k % 32) % 2 ≡ get_or w (k / 32) 0 / 2 ^ (k % 32) % 2
    other k d (yes e) =
        rw (e, word) (or_bit x (i % 32) (k % 32) ∙ ap (bit_or (x / 2 ^ (k % 32) % 2)) (pow_bit_other (i % 32) (k % 32) (omega arith)) ∙ or_zero_r _)
    other k d (no e) = rw (get_or-set_other w (i / 32) (k / 32) (bit_or x (2 ^ (i % 32))) 0 (omega arith))

    go : (j : ℕ) → j < 32 * length w → Dec (j ≡ i) → odd (get_or w' (j / 32) 0 / 2 ^ (j % 32)) ≡ get_or (set (bits_of w) i true) j false
    go j p (yes e) =
        rw e (ap (λ (y : ℕ). eqb y 1) here ∙ sym (get_or-set_same (bits_of w) i true false (omega (arith, length_bits_of w))))
    go j p (no d) =
        ap (λ (y : ℕ). eqb y 1) (other j d (ℕ_discrete (j / 32) (i / 32))) ∙ sym (bits_of_at w j p) ∙ sym (get_or-set_other (bits_of w) i j true false d)
