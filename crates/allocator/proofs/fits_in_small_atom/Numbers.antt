-- Numbers as bytes: one more byte after a number; a number's first byte.
-- Assumes nothing.
use Prim.Native.Nat.{ℕ, ◌+◌, ◌*◌, ◌%◌, ◌^◌, ◌≤◌, ◌<◌}
use mathlib.Core.Path.{◌≡◌, sym, ap, ◌∙◌}
use mathlib.Core.List.{List, ◌∷◌}
use native.Mathlib.Omega.{arith}
use native.Mathlib.Nat.{mul-le-mul_right, pow-le-pow_right}
use native.Mathlib.Numerals.{add-one}
use lib.Bits.{bit_or, or_shifted}
use lib.ListN.{length, get_or, take}
use lib.Seq.{take-suc, length-take-le}
use Rattle.words.specs.Lists.{Bytes, all_take, all_at}
use Rattle.words.specs.BigEndian.{number_after, number, number_more, number_bound, number_after_low, number_after_bound}

pub three_bytes : (n : ℕ) → n ≤ 3 → 256 ^ n ≤ 256 ^ 3
three_bytes n h = pow-le-pow_right {n = 256} (omega arith) {i = n} {j = 3} h

or_byte : (a b : ℕ) → a < 2 ^ 24 → b < 256 → bit_or (a * 256 % 2 ^ 32) b ≡ a * 256 + b
or_byte a b h k = let e : a * 256 % 2 ^ 32 ≡ a * 256 = omega arith in rw e (or_shifted a 8 b k)

-- One more byte after a number of at most three.
pub next_number : (v : List ℕ) (i a : ℕ) → Bytes v → i < length v → length v ≤ 4 → a ≡ number (take i v) → bit_or (a * 256 % 2 ^ 32) (get_or v i 0) ≡ number (take (i + 1) v)
next_number v i a bytes h k e =
    let b : number (take i v) < 256 ^ length (take i v) = number_bound (take i v) (all_take (λ (x : ℕ). x < 256) i v bytes) in
    let l : length (take i v) ≡ i = length-take-le i v (omega arith) in
    let s : 256 ^ length (take i v) ≤ 256 ^ 3 = three_bytes (length (take i v)) (omega arith) in
    or_byte a (get_or v i 0) (omega arith) (all_at (λ (x : ℕ). x < 256) v 0 i bytes h)
    ∙ rw (e, add-one, take-suc v i 0) (sym (number_more 0 (take i v) (get_or v i 0)))

first_is : (a : ℕ) (bs : List ℕ) → number (a ∷ bs) ≡ number_after a bs
unfolding number_after
first_is a bs = ap (λ (x : ℕ). number_after x bs) (omega arith)

-- A number that begins with a is at least a and below a + 1, with zeros after it.
pub first_at_least : (k a : ℕ) (bs : List ℕ) → k ≤ a → k * 256 ^ length bs ≤ number (a ∷ bs)
first_at_least k a bs h = omega (arith, first_is a bs, number_after_low a bs, mul-le-mul_right {m = k} {n = a} (256 ^ length bs) h)

pub first_below : (k a : ℕ) (bs : List ℕ) → Bytes bs → a < k → number (a ∷ bs) < k * 256 ^ length bs
first_below k a bs bytes h =
    let m : (a + 1) * 256 ^ length bs ≤ k * 256 ^ length bs = mul-le-mul_right (256 ^ length bs) (omega arith) in
    omega (arith, first_is a bs, number_after_bound a bs bytes)
