-- `atom_encode::write_prefix::mark_of` meets its contract: the table's rule, proved once over the widths.
-- Assumes nothing.
use Rattle.atom.specs.Prefix.{mark}
use Rattle.atom.specs.PrefixLaws.{table_at, marks}
use Rattle.atom_encode.proofs.write_prefix.mark_of.Goals as goal

pub returns : goal.returns
returns c = table_at mark 5 _ marks c.args.width c.requires.0 c.requires.1
