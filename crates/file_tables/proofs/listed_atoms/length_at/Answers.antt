-- `length_at` meets its contract: the length of bytes of a short file fits a word.
-- Assumes nothing.
use Rattle.std.proofs.Common.{ap, arith}
use Rattle.atom.specs.Write.{serialized_length}
use Rattle.file_tables.proofs.listed_atoms.Slots.{atom_length_fits}
use Rattle.file_tables.proofs.listed_atoms.length_at.Goals as goal

pub overflow_cast-result : goal.overflow_cast-result
overflow_cast-result c =
    let a = c.args in
    omega (arith, c.serialized_length_atom.ensures, ap serialized_length c.bytes_of.ensures, atom_length_fits a.file.now a.work.now a.i (omega arith) (omega arith))
