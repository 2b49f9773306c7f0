-- `search_passes::search_step::step_stack` meets its contract: at the top it is the result, elsewhere it goes one place up with a 1 more.
-- Assumes nothing.
use Rattle.search_list.specs.State.{MOST_PATHS}
use Rattle.search_list.proofs.TurnLaws.{Here, few, stack_result, stack_nearer}
use mathlib.Core.Path.{sym, ◌∙◌}
use Prim.Native.Nat.{◌<◌}
use native.Mathlib.Omega.{arith}
use Rattle.search_passes.proofs.search_step.step_stack.Goals as goal

pub distance_of-distance-requires : goal.distance_of-distance-requires
distance_of-distance-requires c =
    let low : c.args.at.slot < MOST_PATHS =
    omega (arith, few c.requires.0, c.requires.1) in
    let s = c in (s.requires.0.links.long, low)

pub returns-then-distance-eq0 : goal.returns-then-distance-eq0
returns-then-distance-eq0 c =
    let here : Here c.args.work.now c.args.at.search.depth c.args.at.slot c.args.at.search.paths c.args.at.search.nodes =
    record { ok = c.requires.0; slot = c.requires.1 } in
    let s = c in stack_result here s.requires.2 (sym c.distance_of-distance.ensures ∙ c.if-distance-eq0.true)

pub node_of-a-requires : goal.node_of-a-requires
node_of-a-requires c =
    let low : c.args.at.slot < MOST_PATHS =
    omega (arith, few c.requires.0, c.requires.1) in
    let s = c in (s.requires.0.links.long, low)

pub extra_of-x-requires : goal.extra_of-x-requires
extra_of-x-requires c =
    let low : c.args.at.slot < MOST_PATHS =
    omega (arith, few c.requires.0, c.requires.1) in
    let s = c in (s.requires.0.links.long, low)

pub overflow_add-x : goal.overflow_add-x
overflow_add-x c =
    let s = c in
    omega (arith, c.extra_of-x.ensures, (s.requires.0.paths s.args.at.slot s.requires.1).stack s.requires.2)

pub put_on_stack-requires : goal.put_on_stack-requires
put_on_stack-requires c =
    let low : c.args.at.slot < MOST_PATHS =
    omega (arith, few c.requires.0, c.requires.1) in
    let s = c in (s.requires.0.links.long, low)

pub returns : goal.returns
returns c =
    let here : Here c.args.work.now c.args.at.search.depth c.args.at.slot c.args.at.search.paths c.args.at.search.nodes =
    record { ok = c.requires.0; slot = c.requires.1 } in
    let p = c.put_on_stack in
    let x = c in
    let v = x in
    let s = v in
    stack_nearer here s.requires.2 (λ z. x.if-distance-eq0.false (v.distance_of-distance.ensures ∙ z)) p.auto.work
    (rw (x.node_of-a.ensures, v.distance_of-distance.ensures, x.extra_of-x.ensures) at p.ensures)
