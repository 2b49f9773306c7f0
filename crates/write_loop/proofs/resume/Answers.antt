-- `write_loop::resume` meets its contract: each turn goes on as the definition does, and the bytes left bound the turns.
-- Assumes nothing.
use mathlib.Core.Path.{refl}
use Rattle.write_loop.proofs.write_turn.Looping.{loop_ends, loop_turns, fine_now, loop_falls}
use Rattle.write_loop.proofs.resume.Goals as goal

pub returns-in-Done : goal.returns-in-Done
returns-in-Done c = loop_ends c.in-Done.is c.loop-next.invariant

pub returns-in-Stopped : goal.returns-in-Stopped
returns-in-Stopped c = loop_ends c.in-Stopped.is c.loop-next.invariant

pub returns-in-Refused : goal.returns-in-Refused
returns-in-Refused c = loop_ends c.in-Refused.is c.loop-next.invariant

pub loop-next-smaller-in-Parse : goal.loop-next-smaller-in-Parse
loop-next-smaller-in-Parse c =
    loop_falls c.parse-next.result c.loop-next.output c.parse-next.new.output c.in-Parse.is c.parse-next.auto.output c.parse-next.ensures.1

pub loop-next-preserved-in-Parse : goal.loop-next-preserved-in-Parse
loop-next-preserved-in-Parse c =
    loop_turns c.in-Parse.is c.loop-next.invariant c.parse-next.auto.work c.parse-next.auto.output c.parse-next.ensures.0

pub loop-next-smaller : goal.loop-next-smaller
loop-next-smaller c =
    let k = c.loop-next in
    let f = fine_now c.in-Close.is k.invariant in
    loop_falls c.close_up-next.result k.output k.output c.in-Close.is refl (c.close_up-next.ensures c.args.measure c.args.file.now k.output f).1

pub loop-next-preserved : goal.loop-next-preserved
loop-next-preserved c =
    let k = c.loop-next in
    let f = fine_now c.in-Close.is k.invariant in
    loop_turns c.in-Close.is k.invariant c.close_up-next.auto.work refl (c.close_up-next.ensures c.args.measure c.args.file.now k.output f).0
