-- `search_bytes::path_bytes` meets its contract: the node's bits, those of the stack, and all of them right-aligned.
-- Assumes nothing.
use mathlib.Core.Path.{◌∙◌}
use Rattle.search_bytes.proofs.Pushing.{node_fits, stack_asks, path_done}
use Rattle.search_bytes.proofs.path_bytes.Goals as goal

pub push_node-node-requires : goal.push_node-node-requires
push_node-node-requires c =
    let s = c in
    let r = s.requires.1 in
    record {
      in_bounds = (s.requires.0, rw (c.node_of-a.ensures) r.chain, rw (c.node_of-a.ensures) r.len);
      fits = node_fits r (c.node_of-a.ensures) (c.extra_of-x.ensures) s.requires.2;
    }

pub push_stack-whole-requires : goal.push_stack-whole-requires
push_stack-whole-requires c =
    let n = c in
    let s = c in (
      n.push_node-node.ensures.sound,
      stack_asks s.requires.1 (c.node_of-a.ensures) (c.extra_of-x.ensures) (n.push_node-node.auto.store ∙ s.requires.2)
          n.push_node-node.ensures,
    )

pub returns : goal.returns
returns c =
    let d = c.done in
    let k = c in
    let n = c in
    let s = c in
    path_done s.requires.1 (c.node_of-a.ensures) (c.extra_of-x.ensures) n.push_node-node.ensures k.push_stack-whole.ensures d.ensures
    (d.auto.store ∙ k.push_stack-whole.auto.store ∙ n.push_node-node.auto.store ∙ s.requires.2)
