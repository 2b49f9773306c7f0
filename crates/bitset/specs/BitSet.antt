-- A set of numbers as a list of bits, in words of 32 bits.
-- Assumes nothing.
use Rattle.std.specs.Prelude.{ℕ, Bool, List, [], ◌∷◌, ◌++◌}
use Rattle.path.specs.Bytes.{low_bits}

-- Bit i says whether i is a member: it is bit i % 32 of word i / 32.
unfoldable pub bits_of : List ℕ → List Bool
bits_of [] = []
bits_of (w ∷ ws) = low_bits 32 w ++ bits_of ws
