-- What the code's answers mean: 01's number and the values of each case. `SerializationError` is 14, `NonCanonicalSerialization` 15.
use Rattle.std.specs.Prelude.{ℕ, Result, Ok, Err}
use Rattle.atom.specs.Parse.{Parse, blob, refused}
use Rattle.atom_decode.specs.declared.Blob.{Blob}
use Rattle.atom_decode.specs.declared.ParseError.{ParseError}
use Rattle.atom_decode.specs.declared.ParseError.TheVariants as parse_error

abbrev pub number : ParseError → ℕ
number parse_error.SerializationError = 14
number parse_error.NonCanonicalSerialization = 15

abbrev pub parse_of : Result Blob ParseError → Parse
parse_of (Ok b) = blob b.start b.end
parse_of (Err e) = refused (number e)
