-- `cache_update::enter_tree::enter` meets its contract. The measure: one more than the number of the pair, or 0 for an atom.
-- Assumes nothing.
use Rattle.allocator.specs.Handle.{node_of}
use Rattle.cache_entries.specs.Effects.{span}
use Rattle.cache_update.proofs.enter_tree.+enter.Given as goal

abbrev pub decreases-enter : goal.decreases-enter
decreases-enter l = span (node_of l.h.0)
