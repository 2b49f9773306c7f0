-- `session_steps::run_steps::run_steps` meets its contract. The invariant is what `Between` says of the slices and the progress; the measure is `ahead`.
-- Assumes nothing.
use borrow.Author.Tests.{not-true, not-false}
use Rattle.session_steps.proofs.run_steps.Between.{Values, at_start, in_rows, ready, goes_on, falls, at_end}
use Rattle.session_steps.proofs.run_steps.run_steps.Goals as goal

pub loop-p-init : goal.loop-p-init
loop-p-init c =
    at_start c.args.file.now (record { rows = c.args.checkpoints.now; work = c.args.work.now; words = c.args.words.now; out = c.args.output.now; progress = c.args.start }) c.requires

pub bounds-checkpoints-k : goal.bounds-checkpoints-k
bounds-checkpoints-k c =
    let first : Values = record { rows = c.args.checkpoints.now; work = c.args.work.now; words = c.args.words.now; out = c.args.output.now; progress = c.args.start } in
    let m : Values = record { rows = c.loop-p.checkpoints; work = c.loop-p.work; words = c.loop-p.words; out = c.loop-p.output; progress = c.loop-p.p } in
    in_rows c.args.file.now first m c.loop-p.invariant (not-true _ c.loop-p-test.true) c.slot_of-k.result c.slot_of-k.ensures

pub bounded_step-a-requires : goal.bounded_step-a-requires
bounded_step-a-requires c =
    let first : Values = record { rows = c.args.checkpoints.now; work = c.args.work.now; words = c.args.words.now; out = c.args.output.now; progress = c.args.start } in
    let m : Values = record { rows = c.loop-p.checkpoints; work = c.loop-p.work; words = c.loop-p.words; out = c.loop-p.output; progress = c.loop-p.p } in
    ready c.args.file.now first m c.loop-p.invariant (not-true _ c.loop-p-test.true) c.slot_of-k.result c.slot_of-k.ensures

pub loop-p-smaller : goal.loop-p-smaller
loop-p-smaller c =
    let first : Values = record { rows = c.args.checkpoints.now; work = c.args.work.now; words = c.args.words.now; out = c.args.output.now; progress = c.args.start } in
    let m : Values = record { rows = c.loop-p.checkpoints; work = c.loop-p.work; words = c.loop-p.words; out = c.loop-p.output; progress = c.loop-p.p } in
    let a = c.bounded_step-a in
    falls c.args.file.now first m c.loop-p.invariant (not-true _ c.loop-p-test.true) c.slot_of-k.result c.slot_of-k.ensures
    a.result a.new.work a.new.words a.new.output a.ensures

pub loop-p-preserved : goal.loop-p-preserved
loop-p-preserved c =
    let first : Values = record { rows = c.args.checkpoints.now; work = c.args.work.now; words = c.args.words.now; out = c.args.output.now; progress = c.args.start } in
    let m : Values = record { rows = c.loop-p.checkpoints; work = c.loop-p.work; words = c.loop-p.words; out = c.loop-p.output; progress = c.loop-p.p } in
    let a = c.bounded_step-a in
    goes_on c.args.file.now first m c.loop-p.invariant (not-true _ c.loop-p-test.true) c.slot_of-k.result c.slot_of-k.ensures
    a.result a.new.work a.new.words a.new.output a.ensures

pub returns : goal.returns
returns c =
    let first : Values = record { rows = c.args.checkpoints.now; work = c.args.work.now; words = c.args.words.now; out = c.args.output.now; progress = c.args.start } in
    let m : Values = record { rows = c.loop-p.checkpoints; work = c.loop-p.work; words = c.loop-p.words; out = c.loop-p.output; progress = c.loop-p.p } in
    at_end c.args.file.now first m c.loop-p.invariant (not-false _ c.loop-p-test.false)
