-- `NodePtr::pair` meets its contract. A pair's handle is the definition's.
-- Assumes nothing.
use native.Mathlib.Omega.{arith}
use Rattle.allocator.specs.Handle.{handle_of}
use Rattle.allocator.proofs.NodePtr.pair.Goals as goal

pub returns : goal.returns
unfolding handle_of
returns c = omega (arith, c.new.ensures)
