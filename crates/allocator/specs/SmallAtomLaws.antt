-- A value's bytes are the fewest in two's complement; a small atom is read back from its bytes; no listed atom has the bytes of a small one.
-- Assumes nothing.
use Rattle.std.specs.Prelude.{ℕ, zero, suc, ◌+◌, ◌-◌, ◌*◌, ◌/◌, ◌^◌, ◌≤◌, ◌<◌, ◌≡◌, refl, Bool, true, false, cond, List, [], ltb, length}
use Rattle.std.proofs.Common.{sym, ap, ◌∙◌, arith, pow-suc, pow-add, ltb-true, lt-ltb, le-ltb}
use Rattle.std.proofs.Math.Option.{Option, some, none}
use Rattle.std.proofs.Math.Nat.{one-le-pow}
use Rattle.words.specs.Choice.{by_lt, both_true, clash}
use Rattle.words.specs.Lists.{Bytes, same, same_refl, same_eq}
use Rattle.words.specs.BigEndian.{big_endian, number, length_big_endian, number_big_endian, bytes_big_endian}
use Rattle.allocator.specs.SmallAtom.{further_bytes, len_for_value, small_bytes, is_small_atom, fits_in_small_atom}

further_none : (n v : ℕ) → v < 128 → further_bytes n v ≡ 0
unfolding further_bytes
further_none zero v h = refl
further_none (suc n) v h = rw lt-ltb

further_more : (n v : ℕ) → 128 ≤ v → further_bytes (suc n) v ≡ suc (further_bytes n (v / 256))
unfolding further_bytes
further_more n v h = rw le-ltb

-- e further bytes are enough below 128 * 256 ^ e ..
further_at_most : (e n v : ℕ) → v < 128 * 256 ^ e → further_bytes n v ≤ e
unfolding further_bytes
further_at_most zero n v h = omega (arith, further_none n v (omega arith))
further_at_most (suc e) zero v h = omega arith
further_at_most (suc e) (suc n) v h =
    by_lt v 128 (λ l. omega (arith, further_none (suc n) v l))
    (λ l. omega (arith, further_more n v l, further_at_most e n (v / 256) (omega (arith, pow-suc 256 e))))

-- .. and too few from there on.
further_at_least : (e n v : ℕ) → v ≤ n → 128 * 256 ^ e ≤ v → e < further_bytes n v
further_at_least e zero v b h = absurd (omega (arith, one-le-pow e 256 (omega arith)))
further_at_least zero (suc n) v b h = omega (arith, further_more n v (omega arith))
further_at_least (suc e) (suc n) v b h =
    let p : 1 ≤ 256 ^ e = one-le-pow e 256 (omega arith) in
    omega (arith, further_more n v (omega (arith, pow-suc 256 e)), further_at_least e n (v / 256) (omega arith) (omega (arith, pow-suc 256 e)))

len_positive : (v : ℕ) → 0 < v → len_for_value v ≡ suc (further_bytes v v)
unfolding len_for_value
len_positive zero h = absurd (omega arith)
len_positive (suc v) h = refl

pub len_zero : len_for_value 0 ≡ 0
unfolding len_for_value
len_zero = refl

pub len_at_most : (e v : ℕ) → v < 128 * 256 ^ e → len_for_value v ≤ e + 1
unfolding len_for_value
len_at_most e zero h = omega arith
len_at_most e (suc v) h = omega (arith, further_at_most e (suc v) (suc v) h)

pub len_at_least : (e v : ℕ) → 128 * 256 ^ e ≤ v → e + 2 ≤ len_for_value v
len_at_least e v h = omega (arith, one-le-pow e 256 (omega arith), further_at_least e v v (omega arith) h, len_positive v (omega (arith, one-le-pow e 256 (omega arith))))

pub len_some : (v : ℕ) → 0 < v → 1 ≤ len_for_value v
len_some v h = omega (arith, len_positive v h)

-- .. so that a value takes n bytes below 2 ^ (8 * n - 1), and no more than that.
power_of_bytes : (e : ℕ) → 2 ^ (8 * e) ≡ 256 ^ e
power_of_bytes zero = refl
power_of_bytes (suc e) = ap (λ (x : ℕ). 2 ^ x) (omega arith) ∙ pow-add 2 (8 * e) 8 ∙ ap (λ (x : ℕ). x * 256) (power_of_bytes e) ∙ sym (pow-suc 256 e)

signed_power : (e : ℕ) → 2 ^ (8 * suc e - 1) ≡ 128 * 256 ^ e
signed_power e = ap (λ (x : ℕ). 2 ^ x) (omega arith) ∙ pow-add 2 7 (8 * e) ∙ ap (λ (x : ℕ). 128 * x) (power_of_bytes e)

below_further : (v : ℕ) → v < 128 * 256 ^ further_bytes v v
below_further v =
    by_lt v (128 * 256 ^ further_bytes v v) (λ l. l) (λ l. absurd (omega (arith, further_at_least (further_bytes v v) v v (omega arith) l)))

pub len_enough : (v : ℕ) → v < 2 ^ (8 * len_for_value v - 1)
unfolding len_for_value
len_enough zero = omega arith
len_enough (suc v) = rw (signed_power (further_bytes (suc v) (suc v))) (below_further (suc v))

pub len_least : (n v : ℕ) → v < 2 ^ (8 * n - 1) → len_for_value v ≤ n
unfolding len_for_value
len_least n zero h = omega arith
len_least zero (suc v) h = absurd (omega arith)
len_least (suc n) (suc v) h = omega (arith, further_at_most n (suc v) (suc v) (rw (signed_power n) at h))

below_len : (v : ℕ) → v < 256 ^ len_for_value v
unfolding len_for_value
below_len zero = omega arith
below_len (suc v) = omega (arith, below_further (suc v), pow-suc 256 (further_bytes (suc v) (suc v)))

-- A value is the number that its bytes make.
pub number_small_bytes : (v : ℕ) → number (small_bytes v) ≡ v
unfolding small_bytes
number_small_bytes v = number_big_endian (len_for_value v) v (below_len v)

pub length_small_bytes : (v : ℕ) → length (small_bytes v) ≡ len_for_value v
unfolding small_bytes
length_small_bytes v = length_big_endian (len_for_value v) v

pub bytes_small_bytes : (v : ℕ) → Bytes (small_bytes v)
unfolding small_bytes
bytes_small_bytes v = bytes_big_endian (len_for_value v) v

-- Nil is the empty atom.
pub small_bytes_nil : small_bytes 0 ≡ []
unfolding small_bytes len_for_value big_endian
small_bytes_nil = refl

-- Two small atoms with the same bytes are the same.
pub same_small_bytes : (u v : ℕ) → small_bytes u ≡ small_bytes v → u ≡ v
same_small_bytes u v e = sym (number_small_bytes u) ∙ ap number e ∙ number_small_bytes v

is_small_small_bytes : (v : ℕ) → v < 2 ^ 26 → is_small_atom (small_bytes v) ≡ true
unfolding is_small_atom
is_small_small_bytes v h = rw (number_small_bytes v, lt-ltb v (2 ^ 26) h) (same_refl (small_bytes v))

pub is_small_true : (bs : List ℕ) → is_small_atom bs ≡ true → (number bs < 2 ^ 26) × (small_bytes (number bs) ≡ bs)
unfolding is_small_atom
is_small_true bs e =
    let p : (ltb (number bs) (2 ^ 26) ≡ true) × (same (small_bytes (number bs)) bs ≡ true) =
    both_true (ltb (number bs) (2 ^ 26)) (same (small_bytes (number bs)) bs) e in
    (ltb-true (number bs) (2 ^ 26) p.0, same_eq (small_bytes (number bs)) bs p.1)

-- The bytes of a small atom are seen to be so ..
pub fits_small_bytes : (v : ℕ) → v < 2 ^ 26 → fits_in_small_atom (small_bytes v) ≡ some v
unfolding fits_in_small_atom
fits_small_bytes v h = rw (is_small_small_bytes v h, number_small_bytes v)

-- .. and no others.
pub fits_some : (bs : List ℕ) (v : ℕ) → fits_in_small_atom bs ≡ some v → (v < 2 ^ 26) × (small_bytes v ≡ bs)
unfolding fits_in_small_atom
fits_some bs v e = go (is_small_atom bs) refl e
  where
    go : (b : Bool) → is_small_atom bs ≡ b → ◌≡◌ {A = Option ℕ} (cond b (some (number bs)) none) (some v) → (v < 2 ^ 26) × (small_bytes v ≡ bs)
    go true q r = let n : number bs ≡ v = cc in rw n at (is_small_true bs q)
    go false q r = clash cc

-- No listed atom has the bytes of a small one.
pub listed_not_small : (bs : List ℕ) (v : ℕ) → fits_in_small_atom bs ≡ none → v < 2 ^ 26 → small_bytes v ≡ bs → ⊥
listed_not_small bs v e h q = let f : fits_in_small_atom (small_bytes v) ≡ some v = fits_small_bytes v h in clash cc
