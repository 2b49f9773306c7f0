-- `read_item::settle::join_all` meets its contract. The invariant: what is left gives what all would give.
-- Assumes nothing.
use mathlib.Core.Path.{refl, ◌∙◌}
use native.Mathlib.Omega.{arith}
use Rattle.read_item.specs.State.{Ready}
use Rattle.read_item.proofs.settle.Joins as joins
use Rattle.read_item.proofs.settle.join_all.Goals as goal

pub loop-r-init : goal.loop-r-init
loop-r-init c = let p = c.requires in (refl, refl, joins.onward_none _ _ _ p.pairs_in p.lists)

pub overflow_add-top : goal.overflow_add-top
overflow_add-top c =
    let ready : Ready c.loop-r.work c.loop-r.pairs c.loop-r.r =
    joins.ready_on _ _ _ _ _ _ c.requires c.loop-r.invariant.0 c.loop-r.invariant.1 c.loop-r.invariant.2 in
    omega (arith, joins.ready_ops _ _ _ ready)

pub offset_bounds-work-top : goal.offset_bounds-work-top
offset_bounds-work-top c =
    let ready : Ready c.loop-r.work c.loop-r.pairs c.loop-r.r =
    joins.ready_on _ _ _ _ _ _ c.requires c.loop-r.invariant.0 c.loop-r.invariant.1 c.loop-r.invariant.2 in
    omega (arith, joins.ready_ops _ _ _ ready)

pub bounds-work-top : goal.bounds-work-top
bounds-work-top c =
    let ready : Ready c.loop-r.work c.loop-r.pairs c.loop-r.r =
    joins.ready_on _ _ _ _ _ _ c.requires c.loop-r.invariant.0 c.loop-r.invariant.1 c.loop-r.invariant.2 in
    let d = ready in omega (arith, joins.ready_ops _ _ _ d, d.work)

pub shape_of-work-then-work-top-eq0 : goal.shape_of-work-then-work-top-eq0
shape_of-work-then-work-top-eq0 c = c.loop-r.invariant.0

pub shape_of-pairs-then-work-top-eq0 : goal.shape_of-pairs-then-work-top-eq0
shape_of-pairs-then-work-top-eq0 c = c.loop-r.invariant.1

pub returns-then-work-top-eq0 : goal.returns-then-work-top-eq0
returns-then-work-top-eq0 c =
    let l = c.loop-r in
    record { onward = l.invariant.2; no_join = joins.no_join_tree l.work l.r.ops (omega arith) c.if-work-top-eq0.true }

pub join_top-r-requires : goal.join_top-r-requires
join_top-r-requires c =
    let ready : Ready c.loop-r.work c.loop-r.pairs c.loop-r.r =
    joins.ready_on _ _ _ _ _ _ c.requires c.loop-r.invariant.0 c.loop-r.invariant.1 c.loop-r.invariant.2 in
    let l = c in
    (ready, omega arith, joins.top_join l.loop-r.work l.loop-r.r.ops (omega arith) c.if-work-top-eq0.false)

pub loop-r-smaller : goal.loop-r-smaller
loop-r-smaller c = omega (arith, c.join_top-r.ensures.1)

pub loop-r-preserved : goal.loop-r-preserved
loop-r-preserved c =
    let joined = c in
    let j = joined.join_top-r in
    let l = joined.loop-r in
    (j.auto.work ∙ l.invariant.0, j.auto.pairs ∙ l.invariant.1, joins.onward_both _ _ _ _ _ _ _ _ _ l.invariant.1 l.invariant.2 j.ensures.0)

pub shape_of-work : goal.shape_of-work
shape_of-work c = c.loop-r.invariant.0

pub shape_of-pairs : goal.shape_of-pairs
shape_of-pairs c = c.loop-r.invariant.1

pub returns : goal.returns
returns c = let l = c.loop-r in record { onward = l.invariant.2; no_join = joins.no_join_end l.work l.r.ops (omega arith) }
