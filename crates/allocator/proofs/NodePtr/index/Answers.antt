-- `NodePtr::index` meets its contract: the mask leaves the low 26 bits.
-- Assumes nothing.
use mathlib.Core.Path.{sym, ◌∙◌}
use lib.Bits.{and_mask}
use Rattle.allocator.specs.HandleLaws.{index_of_handle}
use Rattle.allocator.proofs.NodePtr.index.Goals as goal

pub returns : goal.returns
returns c = and_mask c.args.self.0 26 ∙ sym (index_of_handle c.args.self.0)
