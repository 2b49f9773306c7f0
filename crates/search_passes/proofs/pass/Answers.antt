-- `search_passes::pass` meets its contract: the pass from each slot on is the whole pass.
-- Assumes nothing.
use Rattle.search_passes.proofs.PassLaws.{walking_start, walking_more, walking_end}
use Rattle.search_passes.proofs.pass.Goals as goal

pub loop-at-init : goal.loop-at-init
loop-at-init c = walking_start c.args.work.now c.args.l c.args.first c.requires.0 c.requires.1

pub turn-requires : goal.turn-requires
turn-requires c = let k = c.loop-at.invariant in (k.sound, k.mid, c.loop-at-test.true)

pub loop-at-smaller : goal.loop-at-smaller
loop-at-smaller c = c.in_ok-at.ensures.fine.2

pub loop-at-preserved : goal.loop-at-preserved
loop-at-preserved c = walking_more c.loop-at.invariant c.turn.auto.work c.in_ok-at.ensures

pub returns : goal.returns
returns c = walking_end c.loop-at.invariant c.loop-at-test.false
