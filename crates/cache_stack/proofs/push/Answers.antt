-- `cache_stack::push` meets its contract: its three stores leave a stack with the entry on top.
-- Assumes nothing.
use Rattle.cache_stack.proofs.Stacks.{pushed}
use Rattle.cache_stack.proofs.push.Goals as goal

pub returns : goal.returns
returns c = pushed c.args.work.now c.args.depth c.args.e.0 c.requires.0 c.requires.1 c.requires.2 c.requires.3
