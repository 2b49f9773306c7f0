-- `read_store::join_values::join` meets its contract: `new_pair` appends the pair of the second and the first value, and `push_value`
-- puts it over the second. Assumes nothing.
use native.Mathlib.Omega.{arith}
use Rattle.read_store.proofs.join_values.Joining.{joined}
use Rattle.read_store.proofs.join_values.join.Goals as goal

pub returns : goal.returns
returns c =
    let n = c.new_pair-node.ensures in
    joined _ _ _ _ _ _ _ (omega arith) (omega arith) n.0 n.1 c.push_value.ensures
