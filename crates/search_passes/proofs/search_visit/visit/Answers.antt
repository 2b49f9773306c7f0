-- `search_passes::search_visit::visit` meets its contract: the path goes to the first unseen parent, or is dropped where there is none.
-- Assumes nothing.
use native.Mathlib.Omega.{arith}
use Rattle.search_list.proofs.TurnLaws.{few, visiting_of, visit_low, visit_links, visit_asks, visit_asks_2, visit_up, visit_off}
use Rattle.search_passes.proofs.search_visit.visit.Goals as goal

pub add_node-requires : goal.add_node-requires
add_node-requires c =
    let q = c.requires in
    let p = q.0.paths c.args.at.slot q.1 in
    record {
      in_bounds = (q.0.links.long, q.0.nodes, q.4, omega (arith, few q.0, q.1));
      slot_bound = (p.node, omega (arith, p.entry q.2, q.0.links.used));
    }

pub first_unseen-requires : goal.first_unseen-requires
first_unseen-requires c =
    let u = visiting_of c.requires c.entry_of-e.ensures c.add_node.ensures c.add_node.auto.work in
    (visit_links u, visit_low u)

pub go_up-next-requires : goal.go_up-next-requires
go_up-next-requires c =
    let u = visiting_of c.requires c.entry_of-e.ensures c.add_node.ensures c.add_node.auto.work in
    let f = visit_asks u c.in-Some.ensures.0 c.in-Some.ensures.1 in
    record { links = f.0; slot_lt_paths = f.1 }

pub returns-in-Some : goal.returns-in-Some
returns-in-Some c =
    let u = visiting_of c.requires c.entry_of-e.ensures c.add_node.ensures c.add_node.auto.work in
    let g = c.go_up-next in
    visit_up u c.in-Some.ensures.0 g.auto.work c.in-Some.ensures.1 g.ensures

pub go_off-next-requires : goal.go_off-next-requires
go_off-next-requires c =
    let f = visit_asks_2 (visiting_of c.requires c.entry_of-e.ensures c.add_node.ensures c.add_node.auto.work) in
    record { links = f.0; slot_lt_paths = f.1 }

pub returns-in-None : goal.returns-in-None
returns-in-None c =
    let u = visiting_of c.requires c.entry_of-e.ensures c.add_node.ensures c.add_node.auto.work in
    let g = c.go_off-next in
    visit_off u c.in-None.ensures g.auto.work (omega arith) g.ensures
