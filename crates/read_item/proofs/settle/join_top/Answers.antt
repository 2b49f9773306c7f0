-- `read_item::settle::join_top` meets its contract.
-- Assumes nothing.
use Prim.Native.Nat.{◌≤◌}
use mathlib.Core.Path.{refl}
use native.Mathlib.Omega.{arith}
use Rattle.read_item.proofs.settle.Joins as joins
use Rattle.read_item.proofs.settle.join_top.Goals as goal

pub overflow_sub-r : goal.overflow_sub-r
overflow_sub-r c =
    let two : 2 ≤ c.args.r.values =
    let p = c.requires in joins.join_two _ _ _ p.0 _ p.2 in
    omega (arith, two)

pub join-requires : goal.join-requires
join-requires c =
    let two : 2 ≤ c.args.r.values =
    let p = c.requires in joins.join_two _ _ _ p.0 _ p.2 in
    let known = c in
    let p = known.requires in
    let m = joins.join_room _ _ _ p.0 _ p.2 in
    (p.0.work, two, omega (arith, m.values), omega (arith, m.pairs, p.0.room), omega (arith, m.pairs))

pub overflow_sub-next-2 : goal.overflow_sub-next-2
overflow_sub-next-2 c =
    let two : 2 ≤ c.args.r.values =
    let p = c.requires in joins.join_two _ _ _ p.0 _ p.2 in
    omega (arith, two)

pub overflow_add-next-2 : goal.overflow_add-next-2
overflow_add-next-2 c =
    let j = c in
    let p = j.requires.0 in
    omega (arith, p.sound.pairs_bound, p.limit)

pub returns : goal.returns
returns c =
    let j = c in
    let p = j.requires in
    let e = j.listed_among-listed.ensures in
    (joins.joined_onward _ _ _ _ _ p.0 p.1 p.2 j.join.ensures _ (omega (arith, e)) (omega (arith, e)), refl)
