-- Question 1 of a session call.
use Rattle.std.specs.Prelude.{ℕ, Bool, ◌&&◌, leb}
use Rattle.words.specs.Words.{WORK}

-- Question 1, of the lengths of work, words and checkpoint records.
abbrev pub are_long : (work words records : ℕ) → Bool
are_long work words records = leb WORK work && (leb 3072 words && leb 16 records)
