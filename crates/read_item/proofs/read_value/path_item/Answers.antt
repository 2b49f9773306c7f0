-- `read_item::read_value::path_item` meets its contract.
-- Assumes nothing.
use mathlib.Core.Path.{ap}
use native.Mathlib.Omega.{arith}
use lib.ListN.{length}
use Rattle.std.proofs.lemmas.Result.{err_from_is_err_and}
use Rattle.read_item.specs.Values.{path_settled}
use Rattle.read_item.proofs.read_value.Paths as paths
use Rattle.read_item.proofs.read_value.path_item.Goals as goal

pub traverse_path_with_vec-requires : goal.traverse_path_with_vec-requires
traverse_path_with_vec-requires c =
    let p = c.requires in
    (omega (arith, ap length c.parse_atom_ptr-path.ensures, paths.path_short _ _ _ _ p.0 _ _ p.1), paths.walkable _ _ _ _ p.0)

pub push_node-pushed-requires : goal.push_node-pushed-requires
push_node-pushed-requires c =
    let p = c.requires.0 in
    (omega (arith, p.work, c.traverse_path_with_vec.auto.work), paths.few_values _ _ _ _ p, paths.few_ghosts _ _ _ _ p c.in_ok-led.led c.in_ok-led.ensures.same_total)

pub settle-requires : goal.settle-requires
settle-requires c =
    let t = c.traverse_path_with_vec in
    let q = c.push_node-pushed in
    let p = c.requires in
    let x = paths.node_on_top _ _ _ _ p.0 _ _ p.1 _ c.parse_atom_ptr-path.ensures _ _ c.in_ok-led.led c.in_ok-led.ensures.leads_to
    c.in_ok-led.ensures.same_total t.auto.work t.auto.pairs _ q.auto.work q.ensures.0 _ q.ensures.1 in
    (x.0, x.1.inside)

pub returns : goal.returns
returns c =
    let t = c.traverse_path_with_vec in
    let q = c.push_node-pushed in
    let p = c.requires in
    let y = c.settle in
    let x = paths.node_on_top _ _ _ _ p.0 _ _ p.1 _ c.parse_atom_ptr-path.ensures _ _ c.in_ok-led.led c.in_ok-led.ensures.leads_to
    c.in_ok-led.ensures.same_total t.auto.work t.auto.pairs _ q.auto.work q.ensures.0 _ q.ensures.1 in
    path_settled _ _ _ x.1 y.auto.work y.auto.pairs y.ensures

pub returns-in_err-led : goal.returns-in_err-led
returns-in_err-led c =
    let p = c.requires in
    let e = err_from_is_err_and c.from_residual.result c.from_residual.ensures.1 in
    rw e.1
    (paths.path_into_atom _ _ _ _ p.0 _ _ p.1 _ c.parse_atom_ptr-path.ensures _ _ c.in_err-led.field-0.0 c.in_err-led.ensures.leads_to e.0 e.2)
