-- Numbers as bytes, the highest first, and back.
-- Assumes nothing.
use Rattle.std.specs.Prelude.{ℕ, zero, suc, ◌+◌, ◌*◌, ◌/◌, ◌%◌, ◌^◌, ◌≤◌, ◌<◌, ◌≡◌, refl, List, [], ◌∷◌, ◌++◌, length}
use Rattle.std.proofs.Common.{sym, ap, ◌∙◌, append_assoc, append-nil, arith, pow-suc, add-zero, add-suc, suc-add, zero-add, mul_assoc, mul-le-mul_right, length-append}
use Rattle.std.proofs.Math.Nat.{pow-succ'}
use Rattle.words.specs.Lists.{all_append, Bytes}

-- The last k bytes of n, the highest first.
unfoldable pub big_endian : ℕ → ℕ → List ℕ
big_endian zero n = []
big_endian (suc k) n = big_endian k (n / 256) ++ n % 256 ∷ []

-- The number that bytes make after a number a.
unfoldable pub number_after : ℕ → List ℕ → ℕ
number_after a [] = a
number_after a (b ∷ bs) = number_after (a * 256 + b) bs

-- The number that bytes make, the highest first.
abbrev pub number : List ℕ → ℕ
number = number_after 0

pub length_big_endian : (k n : ℕ) → length (big_endian k n) ≡ k
unfolding big_endian
length_big_endian zero n = refl
length_big_endian (suc k) n = simp length-append (omega (arith, length_big_endian k (n / 256)))

pub bytes_big_endian : (k n : ℕ) → Bytes (big_endian k n)
unfolding big_endian
bytes_big_endian zero n = tt
bytes_big_endian (suc k) n = all_append (λ (x : ℕ). x < 256) (big_endian k (n / 256)) (n % 256 ∷ []) (bytes_big_endian k (n / 256)) (omega arith, tt)

pub number_append : (a : ℕ) (xs ys : List ℕ) → number_after a (xs ++ ys) ≡ number_after (number_after a xs) ys
unfolding number_after
number_append a [] ys = refl
number_append a (x ∷ xs) ys = number_append (a * 256 + x) xs ys

pub number_more : (a : ℕ) (xs : List ℕ) (b : ℕ) → number_after a (xs ++ b ∷ []) ≡ number_after a xs * 256 + b
unfolding number_after
number_more a xs b = number_append a xs (b ∷ [])

-- What is written in k bytes is read back, if it fits them.
pub number_big_endian : (k n : ℕ) → n < 256 ^ k → number (big_endian k n) ≡ n
unfolding big_endian number_after
number_big_endian zero n h = omega arith
number_big_endian (suc k) n h =
    number_more 0 (big_endian k (n / 256)) (n % 256) ∙ ap (λ (x : ℕ). x * 256 + n % 256) (number_big_endian k (n / 256) (omega (arith, pow-suc 256 k))) ∙ omega arith

big_endian_after : (k a : ℕ) (bs : List ℕ) → Bytes bs → big_endian (k + length bs) (number_after a bs) ≡ big_endian k a ++ bs
unfolding big_endian number_after
big_endian_after k a [] h = ap (λ (j : ℕ). big_endian j a) (add-zero k) ∙ sym (append-nil (big_endian k a))
big_endian_after k a (b ∷ bs) h =
    ap (λ (j : ℕ). big_endian j (number_after (a * 256 + b) bs)) (add-suc k (length bs) ∙ sym (suc-add k (length bs)))
    ∙ big_endian_after (suc k) (a * 256 + b) bs h.1
    ∙ rw (quot, rest) (append_assoc (big_endian k a) (b ∷ []) bs)
  where
    quot : (a * 256 + b) / 256 ≡ a
    quot = omega (arith, h.0)

    rest : (a * 256 + b) % 256 ≡ b
    rest = omega (arith, h.0)

-- Bytes are those of the number that they make.
pub big_endian_number : (bs : List ℕ) → Bytes bs → big_endian (length bs) (number bs) ≡ bs
unfolding big_endian
big_endian_number bs h = ap (λ (j : ℕ). big_endian j (number bs)) (sym (zero-add (length bs))) ∙ big_endian_after 0 0 bs h

pub number_after_bound : (a : ℕ) (bs : List ℕ) → Bytes bs → number_after a bs < (a + 1) * 256 ^ length bs
unfolding number_after
number_after_bound a [] h = omega arith
number_after_bound a (b ∷ bs) h =
    let i : number_after (a * 256 + b) bs < (a * 256 + b + 1) * 256 ^ length bs = number_after_bound (a * 256 + b) bs h.1 in
    let j : (a * 256 + b + 1) * 256 ^ length bs ≤ (a + 1) * 256 * 256 ^ length bs = mul-le-mul_right (256 ^ length bs) (omega (arith, h.0)) in
    let e : (a + 1) * 256 ^ suc (length bs) ≡ (a + 1) * 256 * 256 ^ length bs =
    ap (λ (x : ℕ). (a + 1) * x) (pow-succ' 256 (length bs)) ∙ sym (mul_assoc (a + 1) 256 (256 ^ length bs)) in
    omega arith

-- The bytes only add to what stands before them.
pub number_after_low : (a : ℕ) (bs : List ℕ) → a * 256 ^ length bs ≤ number_after a bs
unfolding number_after
number_after_low a [] = omega arith
number_after_low a (b ∷ bs) =
    let i : (a * 256 + b) * 256 ^ length bs ≤ number_after (a * 256 + b) bs = number_after_low (a * 256 + b) bs in
    let j : a * 256 * 256 ^ length bs ≤ (a * 256 + b) * 256 ^ length bs = mul-le-mul_right (256 ^ length bs) (omega arith) in
    let e : a * 256 ^ suc (length bs) ≡ a * 256 * 256 ^ length bs = ap (λ (x : ℕ). a * x) (pow-succ' 256 (length bs)) ∙ sym (mul_assoc a 256 (256 ^ length bs)) in
    omega arith

pub number_bound : (bs : List ℕ) → Bytes bs → number bs < 256 ^ length bs
number_bound bs h = omega (arith, number_after_bound 0 bs h)
