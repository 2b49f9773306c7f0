-- An atom with its prefix, as the CLVM serialization documentation has it. A single byte below 80 (hexadecimal) stands for itself.
-- Every other atom has its size in front, in a prefix of one to five bytes: as many leading ones as the prefix has bytes, a zero,
-- and the size in the 6, 13, 20, 27 or 34 bits that are left. The shortest prefix is used.
use Rattle.std.specs.Prelude.{ℕ, zero, suc, ◌+◌, ◌-◌, ◌*◌, ◌^◌, Bool, false, cond, List, [], ◌∷◌, ◌++◌, ltb, length}
use Rattle.std.proofs.Math.Option.{Option, none, some}
use Rattle.words.specs.BigEndian.{big_endian}

-- The bits that a prefix of w bytes has for the size: 6, 13, 20, 27, 34.
abbrev pub size_bits : ℕ → ℕ
size_bits w = 7 * w - 1

-- The least size that a prefix of w bytes may carry: 0 for one byte, else the first size that one byte less cannot hold.
abbrev pub least : ℕ → ℕ
least zero = 0
least (suc zero) = 0
least (suc (suc w)) = 2 ^ size_bits (suc w)

-- The first of n widths, from w on, whose prefix holds the size.
unfoldable pub first_width : (n w size : ℕ) → Option ℕ
first_width zero w size = none
first_width (suc n) w size = cond (ltb size (2 ^ size_bits w)) (some w) (first_width n (suc w) size)

-- The width of the shortest prefix for a size, of the widths 1 to 5.
abbrev pub width : ℕ → Option ℕ
width size = first_width 5 1 size

-- The leading ones of a prefix of w bytes, as a number of w bytes: w ones and then zeros.
abbrev pub mark : ℕ → ℕ
mark w = (256 - 2 ^ (8 - w)) * 256 ^ (w - 1)

-- The prefix of w bytes for a size.
abbrev pub prefix : ℕ → ℕ → List ℕ
prefix w size = big_endian w (mark w + size)

-- A single byte below 80 (hexadecimal).
abbrev pub single : List ℕ → Bool
single [] = false
single (b ∷ []) = ltb b 0x80
single (b ∷ c ∷ bs) = false

-- The width of an atom's prefix: 0 where the atom stands for itself, else the shortest; none where no prefix holds its size.
unfoldable pub prefix_width : List ℕ → Option ℕ
prefix_width atom = cond (single atom) (some 0) (width (length atom))

abbrev pub with_prefix : Option ℕ → List ℕ → Option (List ℕ)
with_prefix none atom = none
with_prefix (some w) atom = some (prefix w (length atom) ++ atom)

-- The bytes of an atom in a serialized tree; none for an atom whose size no prefix holds.
unfoldable pub encode : List ℕ → Option (List ℕ)
encode atom = with_prefix (prefix_width atom) atom
