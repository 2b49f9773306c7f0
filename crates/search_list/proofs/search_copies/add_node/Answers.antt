-- `search_list::search_copies::add_node` meets its contract: four stores make the node, and the mark its entry seen.
-- Assumes nothing.
use Rattle.spec_search.specs.Search.{most_visits}
use Rattle.search_list.proofs.Copies.{node_added}
use lib.ListN.{length-set}
use Prim.Native.Nat.{◌≤◌}
use native.Mathlib.Omega.{arith}
use Rattle.search_list.proofs.search_copies.add_node.Goals as goal

pub overflow_add-work-3 : goal.overflow_add-work-3
overflow_add-work-3 c =
    let short : c.len_of-l.result ≤ most_visits =
    let a = c.node_of-a in
    let q = c.requires in
    omega (arith, q.in_bounds.1.short a.result (omega (arith, a.ensures, q.slot_bound.0)), c.len_of-l.ensures, a.ensures, q.slot_bound.0, q.in_bounds.2) in
    omega (arith, short)

pub overflow_cast-work : goal.overflow_cast-work
overflow_cast-work c =
    let short : c.len_of-l.result ≤ most_visits =
    let a = c.node_of-a in
    let q = c.requires in
    omega (arith, q.in_bounds.1.short a.result (omega (arith, a.ensures, q.slot_bound.0)), c.len_of-l.ensures, a.ensures, q.slot_bound.0, q.in_bounds.2) in
    omega (arith, short)

pub mark_seen-requires : goal.mark_seen-requires
mark_seen-requires c =
    let s = c in
    (simp length-set s.requires.in_bounds.0, omega (arith, s.requires.slot_bound.1, c.entry.ensures, c.parent_of-p.ensures))

pub returns : goal.returns
returns c =
    let l = c in
    let p = l.parent_of-p in
    let n = l.node_of-a in
    let s = l in
    let k = c.mark_seen in
    node_added s.args.work.now k.new.work s.args.slot s.args.nodes n.result p.result.0 l.len_of-l.result
    s.requires.in_bounds.0 s.requires.in_bounds.1 s.requires.in_bounds.2 s.requires.slot_bound.0 s.requires.slot_bound.1 n.ensures p.ensures
    l.len_of-l.ensures
    (rw c.entry.ensures at k.ensures)
