-- `read_store::reader_stacks::push_value` meets its contract: its two stores go past the values that are there, and above the operations.
-- Assumes nothing.
use native.Mathlib.Omega.{arith}
use lib.ListN.{length-set}
use Rattle.read_store.proofs.reader_stacks.Stacks.{pushed_value}
use Rattle.read_store.proofs.reader_stacks.push_value.Goals as goal

pub bounds-work-used-2 : goal.bounds-work-used-2
bounds-work-used-2 c = simp length-set (omega arith)

pub shape_of-work : goal.shape_of-work
shape_of-work c = simp length-set

pub returns : goal.returns
returns c = pushed_value c.args.work.now c.args.used c.args.node.0 (omega arith)
