-- The last bytes of a word, the highest first, as the library gives them.
-- Assumes nothing.
use Prim.Native.Nat.{ℕ, zero, suc, ◌+◌, ◌-◌, ◌/◌, ◌%◌, ◌^◌, ◌≤◌}
use mathlib.Core.Path.{◌≡◌, refl, sym, ap, ap₂, ◌∙◌}
use mathlib.Core.List.{List, [], ◌∷◌, ◌++◌}
use native.Mathlib.Omega.{arith}
use native.Mathlib.Nat.{div-div-eq-div-mul, pow-succ'}
use lib.ListN.{length, take, drop}
use lib.Seq.{paste, take_all}
use Rattle.std.specs.Int.{byte_at, bytes_high_first}
use Rattle.words.specs.BigEndian.{big_endian, length_big_endian}

byte_up : (k n : ℕ) → byte_at (suc k) n ≡ byte_at k (n / 256)
byte_up zero n = refl
byte_up (suc k) n = ap (λ (d : ℕ). n / d % 256) (pow-succ' 256 (suc k)) ∙ ap (λ (q : ℕ). q % 256) (sym (div-div-eq-div-mul n 256 (256 ^ suc k)))

lowest_last : (k n : ℕ) → bytes_high_first (suc k) n ≡ bytes_high_first k (n / 256) ++ n % 256 ∷ []
lowest_last zero n = refl
lowest_last (suc k) n = ap₂ (λ (b : ℕ) (bs : List ℕ). b ∷ bs) (byte_up k n) (lowest_last k n)

bytes_are : (k n : ℕ) → bytes_high_first k n ≡ big_endian k n
unfolding big_endian
bytes_are zero n = refl
bytes_are (suc k) n = lowest_last k n ∙ ap (λ (bs : List ℕ). bs ++ n % 256 ∷ []) (bytes_are k (n / 256))

pub last_bytes : (w j m n : ℕ) → m ≡ j + w → drop j (bytes_high_first m n) ≡ big_endian w n
last_bytes w zero m n e = let q : m ≡ w = omega arith in rw q (bytes_are w n)
last_bytes w (suc j) zero n e = absurd (omega arith)
last_bytes w (suc j) (suc m) n e = last_bytes w j m n (omega arith)

-- The last bytes of a word, copied.
pub last_written : (out : List ℕ) (p w : ℕ) (bytes : List ℕ) (n m : ℕ) → w ≤ 5 → bytes ≡ bytes_high_first 8 n → n ≡ m
    → let copied : List ℕ = take (8 - (8 - w)) (drop (8 - w) bytes) in paste out p copied (length copied) ≡ paste out p (big_endian w m) w
last_written out p w bytes n m five e f =
    let width : 8 - (8 - w) ≡ w = omega arith in
    let last : drop (8 - w) bytes ≡ big_endian w m = ap (drop (8 - w)) e ∙ last_bytes w (8 - w) 8 n (omega arith) ∙ ap (big_endian w) f in
    let same : take (8 - (8 - w)) (drop (8 - w) bytes) ≡ big_endian w m =
    ap (λ (k : ℕ). take k (drop (8 - w) bytes)) width ∙ ap (take w) last ∙ take_all w (big_endian w m) (omega (arith, length_big_endian w m)) in
    ap (λ (bs : List ℕ). paste out p bs (length bs)) same ∙ ap (paste out p (big_endian w m)) (length_big_endian w m)
