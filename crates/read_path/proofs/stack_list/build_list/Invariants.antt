-- `read_path::stack_list::build_list` meets its contract. The loop's invariant: the list of the lowest i values is made, and a ghost
-- pair was spent for each of them without a list. Assumes nothing.
use Prim.Native.Nat.{◌+◌}
use mathlib.Core.Path.{◌≡◌}
use Rattle.read_store.specs.Layout.{values_of}
use Rattle.spec_reading.specs.Sound.{unlisted}
use Rattle.read_path.specs.Lists.{Lists}
use Rattle.read_path.proofs.stack_list.build_list.Given as goal

abbrev pub invariant-loop-i : goal.invariant-loop-i
invariant-loop-i l =
    Lists l.initial.work l.initial.pairs l.i l.initial.b.counts.listed l.initial.b.counts.pairs l.initial.b.counts.ghosts l.work l.pairs l.b
    × (l.b.counts.ghosts + unlisted (values_of l.initial.work l.i) ≡ l.initial.b.counts.ghosts)
