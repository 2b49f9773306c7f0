-- `NodePtr::object_type` meets its contract: the kind stands in the bits from 26 up.
-- Assumes nothing.
use native.Mathlib.Omega.{arith}
use Rattle.allocator.specs.HandleLaws.{object_type_of_handle, object_type_unknown}
use Rattle.allocator.proofs.NodePtr.object_type.Goals as goal

pub returns-in-0 : goal.returns-in-0
returns-in-0 c = object_type_of_handle c.args.self.0 0 c.in-0.is

pub returns-in-1 : goal.returns-in-1
returns-in-1 c = object_type_of_handle c.args.self.0 1 c.in-1.is

pub returns-in-2 : goal.returns-in-2
returns-in-2 c = object_type_of_handle c.args.self.0 2 c.in-2.is

pub returns-in_default : goal.returns-in_default
returns-in_default c = object_type_unknown c.args.self.0 (grind arith)
