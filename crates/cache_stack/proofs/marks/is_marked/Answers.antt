-- `cache_stack::marks::is_marked` meets its contract: the bit of the lent part is the entry's mark.
-- Assumes nothing.
use Rattle.std.proofs.Common.{◌∙◌}
use Rattle.words.specs.Words.{part}
use Rattle.cache_stack.proofs.marks.Bits.{marked_part}
use Rattle.cache_stack.proofs.marks.is_marked.Goals as goal

pub returns : goal.returns
unfolding part
returns c = c.is_visited.ensures ∙ marked_part c.args.work.now c.args.e.0 c.requires.0 c.requires.1
