-- `read_path::stack_list::add_value` meets its contract: the cached list is taken, or the pair is made and kept with the value.
-- Assumes nothing.
use Prim.Native.Nat.{◌≤◌}
use mathlib.Core.Path.{refl}
use native.Mathlib.Omega.{arith}
use Rattle.read_path.proofs.stack_list.Adding.{adds_cached, adds_made, bare_ghost, pair_handle_small}
use Rattle.read_path.proofs.stack_list.add_value.Goals as goal

pub returns-then-list-ne0 : goal.returns-then-list-ne0
returns-then-list-ne0 c = adds_cached _ _ _ _ _ c.if-list-ne0.true refl refl refl refl

pub new_pair-node-requires : goal.new_pair-node-requires
new_pair-node-requires c =
    let a = c.args in
    let ghost : 1 ≤ a.below.counts.ghosts = bare_ghost a.work.now a.i a.below.counts.ghosts c.if-list-ne0.false c.requires.ghost in
    omega (arith, ghost, c.requires.room, c.requires.pairs)

pub overflow_add-work : goal.overflow_add-work
overflow_add-work c =
    let a = c.args in
    let ghost : 1 ≤ a.below.counts.ghosts = bare_ghost a.work.now a.i a.below.counts.ghosts c.if-list-ne0.false c.requires.ghost in
    omega (arith, c.new_pair-node.ensures.0, pair_handle_small a.below.counts.pairs (omega (arith, ghost, c.requires.room)))

pub overflow_sub-counts : goal.overflow_sub-counts
overflow_sub-counts c =
    let a = c.args in
    let ghost : 1 ≤ a.below.counts.ghosts = bare_ghost a.work.now a.i a.below.counts.ghosts c.if-list-ne0.false c.requires.ghost in
    omega (arith, ghost)

pub returns : goal.returns
returns c =
    let a = c.args in
    let p = c.requires in
    let ghost : 1 ≤ a.below.counts.ghosts = bare_ghost a.work.now a.i a.below.counts.ghosts c.if-list-ne0.false p.ghost in
    let n = c.new_pair-node.ensures in
    adds_made _ _ _ _ _ _ (omega (arith, p.work, p.few)) (omega (arith, ghost, p.room, p.pairs)) c.if-list-ne0.false ghost n.0 refl refl refl n.1
