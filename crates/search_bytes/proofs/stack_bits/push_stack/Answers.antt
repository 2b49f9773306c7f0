-- `search_bytes::stack_bits::push_stack` meets its contract: nothing, or a 0 and then ones.
-- Assumes nothing.
use Rattle.search_bytes.proofs.Pushing.{stack_none, stack_fits, stack_more}
use Rattle.search_bytes.proofs.stack_bits.push_stack.Goals as goal

pub returns-then-x-eq0 : goal.returns-then-x-eq0
returns-then-x-eq0 c = let s = c in stack_none s.args.store.now s.args.builder s.args.x c.if-x-eq0.true s.requires.0

pub push_ones-requires : goal.push_ones-requires
push_ones-requires c =
    let p = c in
    let t = p in
    (p.push-longer.ensures.sound, stack_fits t.if-x-eq0.false t.requires.1 p.push-longer.auto.store p.push-longer.ensures)

pub returns : goal.returns
returns c =
    let p = c in
    stack_more p.if-x-eq0.false p.push-longer.ensures c.push_ones.ensures
