-- `bytes_of` meets its contract: the part of the file from start to end is the atom's bytes.
-- Assumes nothing.
use Rattle.file_tables.proofs.listed_atoms.Slots.{bytes_are}
use Rattle.file_tables.proofs.listed_atoms.bytes_of.Goals as goal

pub returns : goal.returns
returns c = let a = c.args in bytes_are a.file.now a.work.now a.i c.start_of-start.ensures c.end_of-end.ensures
