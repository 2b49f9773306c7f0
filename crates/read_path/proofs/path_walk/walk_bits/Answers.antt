-- `read_path::path_walk::walk_bits` meets its contract. The loop's invariant: the whole walk is the walk from the node by the bits that are left.
-- Assumes nothing.
use mathlib.Core.Path.{sym, ◌∙◌}
use native.Mathlib.Omega.{arith}
use Rattle.allocator.specs.Handle.{node_of}
use Rattle.read_path.proofs.path_walk.Walking.{pair_within, onward_end, onward_atom, onward_next, reachable_next}
use Rattle.read_path.proofs.path_walk.walk_bits.Goals as goal

pub returns-then-not-is_pair : goal.returns-then-not-is_pair
returns-then-not-is_pair c =
    let a = c.args in
    λ bits e l. onward_atom a.pairs.now a.used bits a.from a.start.0 c.loop-i.i c.loop-i.node.0 (c.loop-i.invariant.1 bits e l) (omega arith)
    (sym c.is_pair.ensures ∙ c.if-not-is_pair.true)

pub side-node-requires : goal.side-node-requires
side-node-requires c =
    omega (
      arith,
      c.loop-i.invariant.0.room,
      pair_within c.args.used (node_of c.loop-i.node.0) (sym c.is_pair.ensures ∙ c.if-not-is_pair.false) c.loop-i.invariant.0.here,
    )

pub loop-i-preserved : goal.loop-i-preserved
loop-i-preserved c =
    let a = c.args in
    let h = c.loop-i in
    let p = sym c.is_pair.ensures ∙ c.if-not-is_pair.false in (
      reachable_next a.pairs.now a.used h.node.0 h.invariant.0 p c.path_bit.result c.side-node.result.0 c.side-node.ensures,
      λ bits e l. onward_next a.pairs.now a.used bits a.from a.start.0 h.i h.node.0 (h.invariant.1 bits e l) (omega arith) p
          (pair_within a.used (node_of h.node.0) p h.invariant.0.here)
          c.path_bit.result (sym (c.path_bit.ensures bits e (omega arith))) c.side-node.result.0 c.side-node.ensures,
    )

pub returns : goal.returns
returns c =
    let a = c.args in
    λ bits e l. onward_end a.pairs.now a.used bits a.from a.start.0 c.loop-i.i c.loop-i.node.0 (c.loop-i.invariant.1 bits e l) (omega arith)
