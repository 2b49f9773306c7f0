-- `read_path::stack_list::build_list` meets its contract. The loop's invariant: the list of the lowest i values is made, and a ghost
-- pair was spent for each of them without a list; i is past the values that had theirs. Assumes nothing.
use native.Mathlib.Omega.{arith}
use mathlib.Core.Path.{refl}
use Rattle.read_path.proofs.stack_list.Adding.{fewer_listed, lists_start, lists_more, lists_end, spent_start, spent_more, one_left}
use Rattle.read_path.proofs.stack_list.build_list.Goals as goal

pub list_at-requires : goal.list_at-requires
list_at-requires c =
    let p = c.requires in
    let e = c.listed_among-listed.ensures in
    (p.work, record { all = fewer_listed _ _ _ (omega (arith, e)) p.lists; few = omega (arith, e, p.few) })

pub loop-i-init : goal.loop-i-init
loop-i-init c =
    let p = c.requires in
    let e = c.listed_among-listed.ensures in (
      lists_start _ _ _ _ _ _ _ (omega (arith, e)) p.lists c.list_at.ensures refl refl refl,
      spent_start _ _ _ _ (omega (arith, e)) p.lists,
    )

pub add_value-b-requires : goal.add_value-b-requires
add_value-b-requires c =
    let p = c.requires in
    let h = c.loop-i in
    let some_left = c.loop-i-test.true in
    record {
      work = omega (arith, p.work, h.auto.work);
      pairs = omega (arith, p.pairs, h.auto.pairs);
      few = omega (arith, p.few, some_left);
      ghost = one_left _ _ _ _ _ _ _ _ _ _ h.invariant.0 some_left p.ghost h.invariant.1;
      room = omega (arith, p.room, h.invariant.0.total);
    }

pub loop-i-preserved : goal.loop-i-preserved
loop-i-preserved c =
    let h = c.loop-i in
    let r = c.add_value-b in (
      lists_more _ _ _ _ _ _ _ _ _ h.invariant.0 _ _ _ r.ensures (omega (arith, c.loop-i-test.true, h.auto.i, c.listed_among-listed.ensures)),
      spent_more _ _ _ _ _ _ _ _ _ h.invariant.0 _ _ _ r.ensures h.invariant.1,
    )

pub returns : goal.returns
returns c =
    let h = c.loop-i in
    lists_end _ _ _ _ _ _ _ _ _ _ (omega (arith, h.auto.i-end, c.listed_among-listed.ensures, c.loop-i-test.false)) h.invariant.0
