-- `read_path::path_walk::stack_steps` meets its contract. The loop's invariant: the set bits in front are those passed and those in front of the rest.
-- Assumes nothing.
use mathlib.Core.Path.{◌≡◌}
use mathlib.Core.Bool.{Bool}
use mathlib.Core.List.{List}
use mathlib.Core.Option.{some}
use lib.ListN.{length}
use Rattle.path.specs.Bytes.{read_path}
use Rattle.read_path.proofs.path_walk.Walking.{Down}
use Rattle.read_path.proofs.path_walk.stack_steps.Given as goal

abbrev pub invariant-loop-i : goal.invariant-loop-i
invariant-loop-i l = (bits : List Bool) → read_path l.path ≡ some bits → l.count ≡ length bits → Down bits l.depth l.i
