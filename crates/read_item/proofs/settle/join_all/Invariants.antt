-- `read_item::settle::join_all` meets its contract. The invariant: what is left gives what all would give.
-- Assumes nothing.
use mathlib.Core.Path.{◌≡◌}
use lib.ListN.{length}
use Rattle.read_item.specs.State.{Onward}
use Rattle.read_item.proofs.settle.join_all.Given as goal

abbrev pub invariant-loop-r : goal.invariant-loop-r
invariant-loop-r l = (length l.work ≡ length l.initial.work) × (length l.pairs ≡ length l.initial.pairs) × Onward l.initial.work l.initial.pairs l.initial.r l.work l.pairs l.r

abbrev pub decreases-loop-r : goal.decreases-loop-r
decreases-loop-r l = l.r.ops
