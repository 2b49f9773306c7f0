-- `write_loop::write_turn::close_pairs::close_up` meets its contract: the end, the right side, or a close.
-- Assumes nothing.
use native.Mathlib.Omega.{arith}
use Rattle.write_loop.proofs.write_turn.Closing.{done_turns, pair_low, goes_right, values_there, closes_one}
use Rattle.write_loop.proofs.write_turn.close_pairs.close_up.Goals as goal

pub returns-then-opens-eq0 : goal.returns-then-opens-eq0
returns-then-opens-eq0 c = done_turns c.args.work.now c.args.place c.if-opens-eq0.true

pub returns-then-v-eq1 : goal.returns-then-v-eq1
returns-then-v-eq1 c =
    goes_right c.args.place c.requires c.if-opens-eq0.false c.innermost-v.ensures c.if-v-eq1.true c.right_of-right.result c.right_of-right.ensures

pub close_pair-requires : goal.close_pair-requires
close_pair-requires c = (
  c.requires.whole,
  c.requires.stacked,
  values_there c.args.place c.requires c.if-opens-eq0.false c.innermost-v.ensures c.if-v-eq1.false,
  pair_low c.args.place c.requires c.if-opens-eq0.false c.innermost-v.ensures,
)

pub overflow_sub-result-2 : goal.overflow_sub-result-2
overflow_sub-result-2 c =
    omega (arith, values_there c.args.place c.requires c.if-opens-eq0.false c.innermost-v.ensures c.if-v-eq1.false)

pub returns : goal.returns
returns c =
    closes_one c.args.place c.requires c.if-opens-eq0.false c.innermost-v.ensures c.if-v-eq1.false c.close_pair.auto.work c.close_pair.ensures
