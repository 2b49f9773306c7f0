-- What the code's answer to a part of the file means, in the terms of the definition.
use Rattle.std.specs.Prelude.{ℕ, ◌+◌, ◌≡◌, List, leb, length, Result, Ok, Err}
use Rattle.allocator.specs.SmallAtom.{fits_in_small_atom}
use Rattle.file_parts.specs.declared.session_file.Part.{Part}
use Rattle.file_parts.specs.declared.session_file.FileError.{FileError}
use Rattle.file_parts.specs.declared.session_file.FileError.TheVariants.{InputTooLong, BadMark, FieldCut, TooMany, SmallAtomListed, BadHandle, UnknownStep}
use Rattle.spec_session.specs.File.{Got, got, refused, and_then, asked, bytes_of, listed, Pair, Step, add, restore, forget, quote, take_quote}

-- The number of the question that got no.
abbrev pub number_of : FileError → ℕ
number_of InputTooLong = 2
number_of BadMark = 3
number_of FieldCut = 4
number_of TooMany = 5
number_of SmallAtomListed = 6
number_of BadHandle = 7
number_of UnknownStep = 8

-- A value that was read, as the word v, with the bytes after it.
pub record Gives (v : ℕ) (rest : List ℕ) (p : Part) : Type 0 where
  pub value_is : p.value ≡ v
  pub rest_is : p.rest.now ≡ rest

-- The answer is what the definition gives: its value as a word, or the question's number.
abbrev pub Answers : {A : Type 0} → (A → ℕ) → Result Part FileError → Got A → Type 0
Answers word (Ok p) (got a rest) = Gives (word a) rest p
Answers word (Ok p) (refused n) = ⊥
Answers word (Err e) (got a rest) = ⊥
Answers word (Err e) (refused n) = number_of e ≡ n

-- ---- the word of each value

abbrev pub itself : ℕ → ℕ
itself n = n

-- An atom's length.
abbrev pub sized : List ℕ → ℕ
sized b = length b

-- A pair's right handle.
abbrev pub pair_word : Pair → ℕ
pair_word q = q.right

abbrev pub counted : {A : Type 0} → List A → ℕ
counted xs = length xs

abbrev pub operand_word : Step → ℕ
operand_word (add h) = h
operand_word (restore k) = k
operand_word (forget k) = k
operand_word (quote h) = h
operand_word take_quote = 0

-- ---- an atom after its length n

abbrev pub atom_of : (used n : ℕ) → List ℕ → Got (List ℕ)
atom_of used n rest = and_then (bytes_of n rest) (λ b s. asked 5 (leb (used + n) 32768) (asked 6 (listed (fits_in_small_atom b)) (got b s)))
