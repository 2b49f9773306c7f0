-- The length of a small atom.
-- Assumes nothing.
use Prim.Native.Nat.{ℕ, zero, suc, ◌+◌, ◌^◌, ◌≤◌, ◌<◌}
use mathlib.Core.Path.{◌≡◌, refl, sym, ap, ◌∙◌}
use mathlib.Core.Bool.{true, false}
use mathlib.Core.List.{List, [], ◌∷◌}
use native.Mathlib.Omega.{arith}
use lib.Dec.{ltb}
use lib.ListN.{length, get_or}
use borrow.Author.Tests.{lt-ltb}
use Rattle.words.specs.BigEndian.{number, number_after}
use Rattle.atom.specs.Prefix.{single}
use Rattle.atom.specs.Write.{serialized_length}
use Rattle.atom.specs.PrefixLaws.{carries_width, single_one, single_other}
use Rattle.atom.specs.WriteLaws.{width_of_single, width_of_sized, length_some}
use Rattle.allocator.specs.SmallAtom.{len_for_value, small_bytes}
use Rattle.allocator.specs.SmallAtomLaws.{len_at_most, len_at_least, number_small_bytes, length_small_bytes, small_bytes_nil}

one_byte : (bs : List ℕ) (v : ℕ) → number bs ≡ v → length bs ≤ 1 → 0 < v → (length bs ≡ 1) × (get_or bs 0 0 ≡ v)
unfolding number_after
one_byte [] v e h p = absurd (omega arith)
one_byte (b ∷ []) v e h p = (refl, omega arith)
one_byte (b ∷ c ∷ bs) v e h p = absurd (omega arith)

-- A prefix of one byte.
prefixed : (bs : List ℕ) → single bs ≡ false → length bs < 64 → serialized_length bs ≡ 1 + length bs
prefixed bs s h =
    length_some bs 1 (width_of_sized bs s 1 (carries_width (length bs) 1 (record { one = omega arith; five = omega arith; from = omega arith; below = omega arith })))

pub small_one : (v : ℕ) → v < 128 → 1 ≡ serialized_length (small_bytes v)
small_one zero h = sym (prefixed (small_bytes 0) (ap single small_bytes_nil) (rw small_bytes_nil (omega arith)) ∙ ap (λ (bs : List ℕ). 1 + length bs) small_bytes_nil)
small_one (suc v) h =
    let l = length_small_bytes (suc v) in
    let m = len_at_most 0 (suc v) (omega arith) in
    let o = one_byte (small_bytes (suc v)) (suc v) (number_small_bytes (suc v)) (omega arith) (omega arith) in
    let s : single (small_bytes (suc v)) ≡ true = single_one (small_bytes (suc v)) o.0 ∙ ap (λ (b : ℕ). ltb b 0x80) o.1 ∙ lt-ltb (suc v) 0x80 h in
    sym (length_some (small_bytes (suc v)) 0 (width_of_single (small_bytes (suc v)) s) ∙ ap (λ (n : ℕ). 0 + n) o.0)

pub small_more : (v : ℕ) → 128 ≤ v → v < 2 ^ 26 → len_for_value v + 1 ≡ serialized_length (small_bytes v)
small_more v h k =
    let l = length_small_bytes v in
    let a = len_at_least 0 v (omega arith) in
    let b = len_at_most 3 v (omega arith) in
    let p = prefixed (small_bytes v) (single_other (small_bytes v) (λ e. omega arith)) (omega arith) in
    omega arith

pub small_few : (v : ℕ) → v < 2 ^ 26 → len_for_value v ≤ 4
small_few v k = len_at_most 3 v (omega arith)
