-- `atom::least_size` meets its contract: the table's rule, proved once over the widths.
-- Assumes nothing.
use native.Mathlib.Omega.{arith}
use Rattle.atom.specs.Prefix.{least}
use Rattle.atom.specs.PrefixLaws.{table_at, least_sizes}
use Rattle.atom.proofs.least_size.Goals as goal

pub returns : goal.returns
returns c = table_at least 5 _ least_sizes c.args.width (omega arith) (omega arith)
