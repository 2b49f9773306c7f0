-- `bitset::visit` meets its contract: the store sets the number's bit alone.
-- Assumes nothing.
use Rattle.bitset.proofs.Marked.{marked}
use Rattle.bitset.proofs.visit.Goals as goal

pub returns : goal.returns
returns c = (c.is_visited-visited.ensures, marked c.args.bits.now c.args.idx c.requires)
