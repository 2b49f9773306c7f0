-- `search_passes::search_step::turn` meets its contract: a path of more than l bits is passed over, any other is stepped.
-- Assumes nothing.
use Rattle.search_list.proofs.TurnLaws.{Here, few, turned_over}
use Rattle.search_list.proofs.Trails.{size_of}
use Rattle.search_list.specs.State.{trail_of}
use Rattle.spec_search.specs.Lists.{size}
use mathlib.Core.Path.{◌≡◌, sym, ◌∙◌}
use native.Mathlib.Omega.{arith}
use Rattle.search_passes.proofs.search_step.turn.Goals as goal

pub size_of-requires : goal.size_of-requires
size_of-requires c =
    let s = c in
    let p = s.requires.0 in
    (p.links.long, omega (arith, few s.requires.0, s.requires.2), omega (arith, (p.paths s.args.at.slot s.requires.2).node, p.nodes.few))

pub returns-then-size_of-l : goal.returns-then-size_of-l
returns-then-size_of-l c =
    let counted : c.size_of.result ≡ size (trail_of c.args.work.now c.args.at.slot) =
    let s = c in
    let a = s.args in
    c.size_of.ensures ∙ sym (size_of a.work.now a.at.search.nodes a.at.slot s.requires.0.nodes (s.requires.0.paths a.at.slot s.requires.2)) in
    let here : Here c.args.work.now c.args.at.search.depth c.args.at.slot c.args.at.search.paths c.args.at.search.nodes =
    record { ok = c.requires.0; slot = c.requires.2 } in
    let s = c in
    turned_over here s.args.l s.requires.1 (omega (arith, counted, c.if-size_of-l.true))

pub step_stack-requires : goal.step_stack-requires
step_stack-requires c =
    let p = c.requires in
    (p.0, p.2, omega (arith, c.if-extra_of-gt0.true, c.extra_of.ensures))

pub returns-then-extra_of-gt0 : goal.returns-then-extra_of-gt0
returns-then-extra_of-gt0 c =
    let counted : c.size_of.result ≡ size (trail_of c.args.work.now c.args.at.slot) =
    let s = c in
    let a = s.args in
    c.size_of.ensures ∙ sym (size_of a.work.now a.at.search.nodes a.at.slot s.requires.0.nodes (s.requires.0.paths a.at.slot s.requires.2)) in
    let x = c in
    let s = x in
    c.step_stack.ensures s.args.l s.requires.1 (omega (arith, counted, c.if-size_of-l.false))

pub returns : goal.returns
returns c =
    let counted : c.size_of.result ≡ size (trail_of c.args.work.now c.args.at.slot) =
    let s = c in
    let a = s.args in
    c.size_of.ensures ∙ sym (size_of a.work.now a.at.search.nodes a.at.slot s.requires.0.nodes (s.requires.0.paths a.at.slot s.requires.2)) in
    let x = c in
    let s = x in
    c.step_entry.ensures s.args.l s.requires.1 (omega (arith, counted, c.if-size_of-l.false))
