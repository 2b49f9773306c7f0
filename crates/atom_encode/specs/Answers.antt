-- What the writing's answer means.
use Rattle.std.specs.Prelude.{ℕ, ◌≡◌, List, Result, Ok, Err}
use Rattle.std.proofs.Math.Option.{some}
use Rattle.atom.specs.Prefix.{prefix_width}
use Rattle.atom.specs.Write.{next, full, too_long, Written}
use Rattle.atom_encode.specs.declared.write_atom.Written as code
use Rattle.atom_encode.specs.declared.write_atom.WriteError.{WriteError}
use Rattle.atom_encode.specs.declared.write_atom.WriteError.TheVariants as write_error

abbrev pub written : Result code.Written WriteError → List ℕ → Written
written (Ok w) out = record { answer = next w.next; output = out }
written (Err write_error.Full) out = record { answer = full; output = out }
written (Err write_error.TooLong) out = record { answer = too_long; output = out }

-- The width that it tells is that of the atom's prefix.
abbrev pub WidthTold : (atom : List ℕ) → Result code.Written WriteError → Type 0
WidthTold atom (Ok w) = prefix_width atom ≡ some w.width
WidthTold atom (Err e) = Unit {0}
