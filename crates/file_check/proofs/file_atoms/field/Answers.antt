-- `field` meets its contract: question 4 is asked before the bytes are read.
-- Assumes nothing.
use native.Mathlib.Omega.{arith}
use mathlib.Core.Path.{refl}
use Rattle.file_parts.proofs.session_file.FieldLaws.{field_there}
use Rattle.file_check.proofs.file_atoms.field.Goals as goal

pub returns : goal.returns
returns c = let a = c.args in field_there a.rest.now a.count _ (omega arith) c.number_at.ensures refl
