-- `read_store::reader_stacks::push_pair` meets its contract: its two stores go past the operations that are there, and below the values.
-- Assumes nothing.
use native.Mathlib.Omega.{arith}
use lib.ListN.{length-set}
use Rattle.read_store.proofs.reader_stacks.Stacks.{pushed_pair}
use Rattle.read_store.proofs.reader_stacks.push_pair.Goals as goal

pub bounds-work-used-2 : goal.bounds-work-used-2
bounds-work-used-2 c = simp length-set (omega arith)

pub shape_of-work : goal.shape_of-work
shape_of-work c = simp length-set

pub returns : goal.returns
returns c = pushed_pair c.args.work.now c.args.used (omega arith) (omega arith)
