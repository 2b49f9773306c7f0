-- What a refusal is answered with.
use Rattle.std.specs.Prelude.{ℕ}
use Rattle.read_item.specs.declared.read_error.ReadError.{ReadError}
use Rattle.read_item.specs.declared.read_error.ReadError.TheVariants as read_error

abbrev pub number : ReadError → ℕ
number read_error.SerializationError = 14
number read_error.NonCanonicalSerialization = 15
number read_error.PathIntoAtom = 16
