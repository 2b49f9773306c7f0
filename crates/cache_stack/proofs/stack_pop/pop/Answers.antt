-- `cache_stack::stack_pop::pop` meets its contract: its store takes the top off TOPS.
-- Assumes nothing.
use Rattle.cache_stack.proofs.stack_pop.Popping.{popped}
use Rattle.cache_stack.proofs.stack_pop.pop.Goals as goal

pub returns : goal.returns
returns c = popped c.args.work.now c.args.depth c.entry_at-e.result.0 c.requires.0 c.requires.1 c.requires.2 c.entry_at-e.ensures.0
