-- `atom_decode::parse_atom_ptr` meets its contract.
-- Assumes nothing.
use mathlib.Core.Path.{refl, sym}
use Rattle.atom.specs.ParseLaws.{blob_refused}
use Rattle.atom_decode.specs.Answers.{number}
use Rattle.atom_decode.proofs.Parsing.{part_got}
use Rattle.atom_decode.proofs.parse_atom_ptr.Goals as goal

pub returns-in-Ok : goal.returns-in-Ok
returns-in-Ok c =
    let b = c.in-Ok.field-0 in
    rw (c.unwrap_or.ensures, c.in-Ok.is) (part_got c.args.input.now b.start b.end c.get.result _ c.get.ensures.lookup refl)

pub returns-in-Err-SerializationError : goal.returns-in-Err-SerializationError
returns-in-Err-SerializationError c = rw c.in-Err-SerializationError.is (sym (blob_refused c.args.input.now (number c.in-Err-SerializationError.field-0)))

pub returns-in-Err-NonCanonicalSerialization : goal.returns-in-Err-NonCanonicalSerialization
returns-in-Err-NonCanonicalSerialization c = rw c.in-Err-NonCanonicalSerialization.is (sym (blob_refused c.args.input.now (number c.in-Err-NonCanonicalSerialization.field-0)))
