-- Laws of a prefix's code: the size that it reads is the definition's.
-- Assumes nothing.
use Prim.Native.Nat.{ℕ, zero, suc, ◌+◌, ◌-◌, ◌*◌, ◌/◌, ◌^◌, ◌≤◌, ◌<◌}
use mathlib.Core.Path.{◌≡◌, refl, sym, ap, ◌∙◌}
use mathlib.Core.List.{List, [], ◌∷◌}
use native.Mathlib.Omega.{arith}
use native.Mathlib.Nat.{add-zero, zero-add, pow-succ', mul_assoc}
use native.Mathlib.Numerals.{add-one}
use mir.Syntax.{w8}
use mir.Val.{Fits}
use Rattle.std.specs.Int.{leading_ones}
use Rattle.std.specs.Int.Bits.{bit_and}
use lib.Pow.{pow_mono}
use lib.ListN.{length, get_or, take, drop, length-drop}
use lib.Seq.{drop-cons, drop-drop, get_or-drop}
use Rattle.words.specs.Words.{part}
use Rattle.words.proofs.Words.{part_length}
use Rattle.words.specs.BigEndian.{number, number_after}
use Rattle.atom.specs.Prefix.{least, mark}
use Rattle.atom.specs.Parse.{ones, sized, bad_size, one_byte, size_of, decode_size}
use Rattle.atom.specs.ParseLaws.{one_more, size_seven, size_not_whole, size_large, size_long, size_one, size_right}
use Rattle.atom_decode.proofs.decode_size.LeadingOnes.{ones_counted, rest_masked}

number_add : (a d : ℕ) (bs : List ℕ) → number_after (a + d) bs ≡ number_after a bs + d * 256 ^ length bs
unfolding number_after
number_add a d [] = omega arith
number_add a d (b ∷ bs) =
    ap (λ (n : ℕ). number_after n bs) turn ∙ number_add (a * 256 + b) (d * 256) bs ∙ ap (λ (n : ℕ). number_after (a * 256 + b) bs + n) power
  where
    turn : (a + d) * 256 + b ≡ a * 256 + b + d * 256
    turn = omega arith

    power : d * 256 * 256 ^ length bs ≡ d * 256 ^ suc (length bs)
    power = mul_assoc d 256 (256 ^ length bs) ∙ ap (λ (n : ℕ). d * n) (sym (pow-succ' 256 (length bs)))

-- The first byte's ones taken off, the bytes make the size.
pub size_read : (input : List ℕ) (p w rest : ℕ) → 1 ≤ w → w ≤ 8 → p + w ≤ length input → rest + 256 ≡ get_or input p 0 + 2 ^ (8 - w)
    → number_after rest (part input (p + 1) (w - 1)) ≡ number (take w (drop p input)) - mark w
size_read input p zero rest one eight fits r = absurd (omega arith)
size_read input p (suc k) rest one eight fits r =
    ap (λ (n : ℕ). number_after rest (part input (p + 1) n)) pred ∙ sym (ap (λ (n : ℕ). n - mark (suc k)) whole_number ∙ less)
  where
    pred : suc k - 1 ≡ k
    pred = omega arith

    X : List ℕ
    X = part input (p + 1) k

    d : ℕ
    d = 256 - 2 ^ (8 - suc k)

    long : length X ≡ k
    long = part_length input (p + 1) k (omega arith)

    first : get_or input p 0 ≡ rest + d
    first = omega (arith, pow_mono {i = 8 - suc k} {j = 8} (omega arith))

    bytes : take (suc k) (drop p input) ≡ get_or input p 0 ∷ X
    bytes = unfold part in rw (drop-cons input p 0 (omega arith), add-one p) refl

    start : number (get_or input p 0 ∷ X) ≡ number_after (get_or input p 0) X
    start = unfold number_after in ap (λ (n : ℕ). number_after n X) (zero-add (get_or input p 0))

    whole_number : number (take (suc k) (drop p input)) ≡ number_after rest X + d * 256 ^ k
    whole_number =
        ap number bytes ∙ start ∙ ap (λ (n : ℕ). number_after n X) first ∙ number_add rest d X ∙ ap (λ (n : ℕ). number_after rest X + d * 256 ^ n) long

    less : number_after rest X + d * 256 ^ k - mark (suc k) ≡ number_after rest X
    less = rw pred (omega arith)

-- The byte at the place, and its leading ones as they are counted.
pub record First (input : List ℕ) (p w : ℕ) : Type 0 where
  pub place : (p < length input) × (0x80 ≤ get_or input p 0)
  pub byte : get_or input p 0 < 256
  pub counted : w ≡ leading_ones w8 (get_or input p 0)

pub first : (input : List ℕ) (p : ℕ) {w : ℕ} → (p < length input) × (0x80 ≤ get_or input p 0) → ((i : ℕ) → Fits w8 (get_or input i 0))
    → w ≡ leading_ones w8 (get_or input p 0) → First input p w
first input p place fits counted = record { place = place; byte = (fits p).fits; counted = counted }

-- The size that the prefix carries is read.
pub record Read (input : List ℕ) (p w n : ℕ) : Type 0 where
  pub first : First input p w
  pub six : w ≤ 6
  pub there : w ≤ length input - p
  pub is : n ≡ number_after (bit_and (get_or input p 0) (255 / 2 ^ w)) (part input (p + 1) (w - 1))

pub read : {input : List ℕ} {p w n : ℕ} → First input p w → w ≤ 6 → w ≤ length input - p
    → n ≡ number_after (bit_and (get_or input p 0) (255 / 2 ^ w)) (part input (p + 1) (w - 1)) → Read input p w n
read f six there is = record { first = f; six = six; there = there; is = is }

-- The ways out of `decode_size_with_offset`.
module _ {input : List ℕ} {p w : ℕ} (f : First input p w) where
  width_is : w ≡ ones 8 (get_or input p 0)
  width_is = f.counted ∙ ones_counted (get_or input p 0) f.byte

  pub decode_one : 1 ≤ w
  decode_one = omega (arith, one_more 7 (get_or input p 0) f.place.1, width_is)

  by_width : decode_size (drop p input) ≡ size_of w (drop p input)
  by_width = ap (λ (n : ℕ). size_of n (drop p input)) (ap (ones 8) (get_or-drop p input 0 0 ∙ ap (λ (n : ℕ). get_or input n 0) (add-zero p)) ∙ sym width_is)

  pub decode_seven : 6 < w → bad_size 14 ≡ decode_size (drop p input)
  decode_seven q = sym (by_width ∙ size_seven w (drop p input) q)

  pub decode_short : w ≤ 6 → length input - p < w → bad_size 14 ≡ decode_size (drop p input)
  decode_short six q = sym (by_width ∙ size_not_whole w (drop p input) six (omega (arith, length-drop p input)))

module _ {input : List ℕ} {p w n : ℕ} (r : Read input p w n) where
  long : w ≤ length (drop p input)
  long = omega (arith, length-drop p input, r.there)

  carries : n ≡ number (take w (drop p input)) - mark w
  carries =
      let f = r.first in
      r.is
      ∙ size_read input p w (bit_and (get_or input p 0) (255 / 2 ^ w)) (decode_one f) (omega (arith, r.six)) (omega (arith, f.place, r.there))
      (rest_masked (get_or input p 0) w f.byte (omega (arith, r.six)) (width_is f))

  pub decode_large : 2 ^ 34 ≤ n → bad_size 14 ≡ decode_size (drop p input)
  decode_large q = sym (by_width r.first ∙ size_large w (drop p input) r.six long n carries q)

  pub decode_long : n < 2 ^ 34 → n < least w → bad_size 15 ≡ decode_size (drop p input)
  decode_long q l = sym (by_width r.first ∙ size_long w (drop p input) r.six long n carries q l)

  pub decode_byte : n < 2 ^ 34 → least w ≤ n → n ≡ 1 → one_byte w (drop (p + w) input) ≡ decode_size (drop p input)
  decode_byte q l o = sym (by_width r.first ∙ size_one w (drop p input) r.six long n carries q l o ∙ ap (one_byte w) (drop-drop w p input))

  pub decode_right : n < 2 ^ 34 → least w ≤ n → (n ≡ 1 → ⊥) → sized w n ≡ decode_size (drop p input)
  decode_right q l o = sym (by_width r.first ∙ size_right w (drop p input) r.six long n carries q l o)
