-- The bytes of a small atom, and which atoms are small.
-- 01: a small atom's value stands in its handle, in 26 bits.
-- Assumes nothing.
use Rattle.std.specs.Prelude.{ℕ, zero, suc, ◌-◌, ◌/◌, ◌^◌, ◌≤◌, ◌≡◌, Bool, cond, ◌&&◌, List, ltb, drop}
use Rattle.std.proofs.Math.Option.{Option, some, none}
use Rattle.words.specs.Lists.{same}
use Rattle.words.specs.BigEndian.{big_endian, number}

-- How many bytes v takes beyond the first, in two's complement: none below 128, else one more than v / 256.
-- The first argument bounds the recursion: v itself is enough.
unfoldable pub further_bytes : ℕ → ℕ → ℕ
further_bytes zero v = 0
further_bytes (suc n) v = cond {A = Unit {0} → ℕ} (ltb v 128) (λ u. 0) (λ u. suc (further_bytes n (v / 256))) tt

-- How many bytes v takes in two's complement, at least. 0 takes none.
unfoldable pub len_for_value : ℕ → ℕ
len_for_value zero = 0
len_for_value (suc v) = suc (further_bytes (suc v) (suc v))

-- The bytes of the small atom v: its shortest two's complement form, the highest byte first.
unfoldable pub small_bytes : ℕ → List ℕ
small_bytes v = big_endian (len_for_value v) v

-- The last len of four bytes are those of the small atom v.
pub record LastBytes (v : ℕ) (bytes : List ℕ) (len : ℕ) : Type 0 where
  pub size : len ≡ len_for_value v
  pub short : len ≤ 4
  pub last : drop (4 - len) bytes ≡ small_bytes v

-- Whether these are the bytes of a small atom.
unfoldable pub is_small_atom : List ℕ → Bool
is_small_atom bs = ltb (number bs) (2 ^ 26) && same (small_bytes (number bs)) bs

-- The value of the small atom with these bytes, if there is one.
unfoldable pub fits_in_small_atom : List ℕ → Option ℕ
fits_in_small_atom bs = cond (is_small_atom bs) (some (number bs)) none
