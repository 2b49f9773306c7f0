-- Numbers as bytes: four bytes and the last of them.
-- Assumes nothing.
use Prim.Native.Nat.{ℕ, zero, suc, ◌-◌, ◌/◌, ◌%◌, ◌^◌, ◌≤◌, ◌<◌}
use mathlib.Core.Path.{◌≡◌, refl}
use mathlib.Core.List.{List}
use native.Mathlib.Omega.{arith}
use lib.ListN.{drop}
use Rattle.std.specs.Int.{w32, to_be_bytes}
use Rattle.words.specs.BigEndian.{big_endian}
use Rattle.allocator.specs.SmallAtom.{len_for_value, small_bytes, LastBytes}
use Rattle.allocator.specs.SmallAtomLaws.{len_at_most}

-- The library's bytes of a word are the definition's.
pub four_bytes : (x : ℕ) → to_be_bytes w32 x ≡ big_endian 4 x
unfolding big_endian
four_bytes x =
    let a : x / 16777216 % 256 ≡ x / 256 / 256 / 256 % 256 = omega arith in
    let b : x / 65536 % 256 ≡ x / 256 / 256 % 256 = omega arith in
    rw (a, b) refl

-- The last n of four bytes.
pub last_bytes : (n x : ℕ) → n ≤ 4 → drop (4 - n) (big_endian 4 x) ≡ big_endian n x
unfolding big_endian
last_bytes zero x h = refl
last_bytes (suc zero) x h = refl
last_bytes (suc (suc zero)) x h = refl
last_bytes (suc (suc (suc zero))) x h = refl
last_bytes (suc (suc (suc (suc zero)))) x h = refl
last_bytes (suc (suc (suc (suc (suc n))))) x h = absurd (omega arith)

-- A small atom's bytes are the last of four.
pub small_atom_bytes : (x n : ℕ) (bs : List ℕ) → n ≡ len_for_value x → bs ≡ big_endian 4 x → x < 2 ^ 31 → LastBytes x bs n
unfolding small_bytes
small_atom_bytes x n bs e f h =
    let s : len_for_value x ≤ 4 = len_at_most 3 x h in
    record { size = e; short = omega arith; last = rw (f, e) (last_bytes (len_for_value x) x s) }
