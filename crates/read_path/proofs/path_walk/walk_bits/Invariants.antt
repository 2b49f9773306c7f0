-- `read_path::path_walk::walk_bits` meets its contract. The loop's invariant: the whole walk is the walk from the node by the bits that are left.
-- Assumes nothing.
use mathlib.Core.Path.{◌≡◌}
use mathlib.Core.Bool.{Bool}
use mathlib.Core.List.{List}
use mathlib.Core.Option.{some}
use lib.ListN.{length}
use Rattle.path.specs.Bytes.{read_path}
use Rattle.read_path.specs.Answers.{Reachable}
use Rattle.read_path.proofs.path_walk.Walking.{Onward}
use Rattle.read_path.proofs.path_walk.walk_bits.Given as goal

abbrev pub invariant-loop-i : goal.invariant-loop-i
invariant-loop-i l =
    Reachable l.pairs l.used l.node.0
    × ((bits : List Bool) → read_path l.path ≡ some bits → l.count ≡ length bits → Onward l.pairs l.used bits l.from l.initial.node.0 l.i l.node.0)
