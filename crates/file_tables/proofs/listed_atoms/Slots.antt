-- Laws of an atom's bytes, slot and length.
-- Assumes nothing.
use Rattle.std.proofs.Common.{◌≡◌, ℕ, ◌+◌, ◌-◌, ◌%◌, ◌^◌, ◌<◌, ◌≤◌, List, [], ◌∷◌, length, get_or, take, drop, refl, add-one, arith, drop_of_length-le, length-take, drop-cons}
use mathlib.Core.Option.{Option, none, some}
use Rattle.atom.specs.Prefix.{prefix_width}
use Rattle.atom.specs.PrefixLaws.{prefixed}
use Rattle.atom.specs.Write.{serialized_length}
use Rattle.atom.specs.WriteLaws.{length_some, length_none}
use Rattle.work_layout.specs.Rows.{start_of, end_of, atom_bytes}
use Rattle.file_tables.specs.Listed.{wrapped_sum, slot_of}

-- The part of the file from an atom's start to its end.
pub bytes_are : (file w : List ℕ) (i : ℕ) {s e : ℕ} → s ≡ start_of w i → e ≡ end_of w i → take (e - s) (drop s file) ≡ atom_bytes file w i
unfolding atom_bytes
bytes_are file w i p q = rw (p, q)

-- ---- lengths

length_by : (a : List ℕ) (o : Option ℕ) → prefix_width a ≡ o → serialized_length a ≤ length a + 5
length_by a none q = rw (length_none a q) (omega arith)
length_by a (some v) q = omega (arith, length_some a v q, (prefixed a v q).five)

-- A prefix takes at most five bytes.
pub length_most : (a : List ℕ) → serialized_length a ≤ length a + 5
length_most a = length_by a (prefix_width a) refl

-- An atom within a short file.
pub atom_length_fits : (file w : List ℕ) (i : ℕ) → end_of w i ≤ length file → length file ≤ 65535 → serialized_length (atom_bytes file w i) < 2 ^ 32
unfolding atom_bytes
atom_length_fits file w i h k =
    let l : length (atom_bytes file w i) ≤ 65535 = simp length-take (omega arith) in
    omega (arith, length_most (atom_bytes file w i))

-- ---- slots

pub slot_low : (x : List ℕ) → slot_of x < 1021
unfolding slot_of
slot_low x = omega arith

-- The sum of the bytes that are left, from the sum of those that are passed.
pub sum_more : (xs : List ℕ) (s i : ℕ) → i < length xs → wrapped_sum s (drop i xs) ≡ wrapped_sum (((s + s) % 2 ^ 32 + get_or xs i 0) % 2 ^ 32) (drop (i + 1) xs)
unfolding wrapped_sum
sum_more xs s i h = rw (drop-cons xs i 0 h, add-one i)

pub sum_end : (xs : List ℕ) (s i : ℕ) → length xs ≤ i → wrapped_sum s (drop i xs) ≡ s
unfolding wrapped_sum
sum_end xs s i h = rw (drop_of_length-le xs h)

pub sum_start : (xs : List ℕ) → wrapped_sum 0 (drop 0 xs) ≡ wrapped_sum 0 xs
sum_start [] = refl
sum_start (x ∷ xs) = refl
