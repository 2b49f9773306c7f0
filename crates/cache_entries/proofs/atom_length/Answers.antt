-- `cache_entries::atom_length` meets its contract: the length in the table of a listed atom, or that of a small one.
-- Assumes nothing.
use Rattle.std.proofs.Common.{arith}
use Rattle.cache_entries.proofs.Atoms.{index_low}
use Rattle.cache_entries.proofs.atom_length.Goals as goal

pub small_length-requires : goal.small_length-requires
small_length-requires c = omega (arith, c.index-2.ensures, index_low c.args.h.0)
