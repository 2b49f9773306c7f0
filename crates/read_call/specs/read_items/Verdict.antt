-- What the reader begins with, and what reading all items gives.
use Rattle.std.specs.Prelude.{ℕ, ◌≡◌, List, Result, Ok, Err}
use Rattle.spec_reading.specs.Format.{Read, accepted, turned_down}
use Rattle.spec_reading.specs.Store.{Stored}
use Rattle.read_item.specs.Whole.{stored_of, Ends}
use Rattle.read_item.specs.declared.settle.Reader.{Reader}
use Rattle.read_item.specs.declared.read_error.ReadError.{ReadError}
use Rattle.read_item.specs.Refusals.{number}

-- Nothing is in use yet.
abbrev pub start : Reader
start = record { position = 0; ops = 0; values = 0; listed = 0; pairs = 0; atoms = 0; bytes = 0; ghosts = 0 }

abbrev pub verdict_of : (w p a b : List ℕ) → Result Reader ReadError → Read Stored
verdict_of w p a b (Ok r) = accepted (stored_of w p a b r)
verdict_of w p a b (Err e) = turned_down (number e)

abbrev pub EndsVerdict : (input w p a b : List ℕ) → Result Reader ReadError → Type 0
EndsVerdict input w p a b (Ok r) = Ends input w p a b r
EndsVerdict input w p a b (Err e) = Unit {0}

-- Everything was read as the definition says.
pub record ReadAll (input w p a b : List ℕ) (definition : Read Stored) (o : Result Reader ReadError) : Type 0 where
  pub same : definition ≡ verdict_of w p a b o
  pub ends : EndsVerdict input w p a b o
