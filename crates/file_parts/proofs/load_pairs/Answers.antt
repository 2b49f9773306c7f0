-- `load_pairs` meets its contract. The invariant: the pairs passed are loaded, and the others stand from the present place on.
-- Assumes nothing.
use native.Mathlib.Omega.{arith}
use Rattle.file_parts.proofs.LoadLaws.{loading_pairs, pair_room, pairs_turn, pairs_loaded}
use Rattle.file_parts.proofs.load_pairs.Goals as goal

pub loop-i-init : goal.loop-i-init
loop-i-init c = let s = c in loading_pairs s.args.file.now s.args.from s.args.count s.args.table.now s.requires.0

pub number_at-left-requires : goal.number_at-left-requires
number_at-left-requires c = (omega (arith, pair_room c.loop-i.invariant (omega arith)), omega arith)

pub overflow_add-place : goal.overflow_add-place
overflow_add-place c = omega (arith, pair_room c.loop-i.invariant (omega arith))

pub number_at-right-requires : goal.number_at-right-requires
number_at-right-requires c = (omega (arith, pair_room c.loop-i.invariant (omega arith)), omega arith)

pub overflow_add-place-in-loop-i : goal.overflow_add-place-in-loop-i
overflow_add-place-in-loop-i c = omega (arith, pair_room c.loop-i.invariant (omega arith))

pub loop-i-preserved : goal.loop-i-preserved
loop-i-preserved c =
    pairs_turn c.loop-i.invariant (omega arith) c.number_at-left.result c.number_at-right.result c.number_at-left.ensures c.number_at-right.ensures (omega arith)

pub returns : goal.returns
returns c = pairs_loaded c.loop-i.invariant (omega arith) (omega arith)
