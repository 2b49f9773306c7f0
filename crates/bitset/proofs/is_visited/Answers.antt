-- `bitset::is_visited` meets its contract: the bit that it tests is the number's.
-- Assumes nothing.
use mathlib.Core.Path.{sym}
use Rattle.bitset.specs.BitSetLaws.{bits_of_at}
use Rattle.bitset.proofs.is_visited.Goals as goal

pub returns : goal.returns
returns c = sym (bits_of_at c.args.bits.now c.args.idx c.requires)
