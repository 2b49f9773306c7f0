-- Writing an atom at a place of an output, and its length.
use Rattle.std.specs.Prelude.{ℕ, ◌+◌, cond, List, ltb, length}
use Rattle.std.proofs.Math.Option.{Option, none, some}
use Rattle.std.proofs.Math.Seq.{paste}
use Rattle.atom.specs.Prefix.{encode}

-- What a write answers: where the next byte goes; that the output ends too early; that no prefix holds the atom's size.
pub data Write : Type 0 where
  next : ℕ → Write
  full : Write
  too_long : Write

-- The answer of a write, and the output after it.
pub record Written : Type 0 where
  pub answer : Write
  pub output : List ℕ

-- Bytes go into the output from a place on, where all of them fit; otherwise the output stays as it is.
unfoldable pub put : List ℕ → ℕ → Option (List ℕ) → Written
put out p none = record { answer = too_long; output = out }
put out p (some bytes) =
    cond (ltb (length out) (p + length bytes)) (record { answer = full; output = out })
    (record { answer = next (p + length bytes); output = paste out p bytes (length bytes) })

abbrev pub length_or_0 : Option (List ℕ) → ℕ
length_or_0 none = 0
length_or_0 (some bytes) = length bytes

-- The bytes that an atom takes in a serialized tree; 0 where no prefix holds its size.
unfoldable pub serialized_length : List ℕ → ℕ
serialized_length atom = length_or_0 (encode atom)
