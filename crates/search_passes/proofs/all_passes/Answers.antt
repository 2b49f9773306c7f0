-- `search_passes::all_passes` meets its contract: the passes that are left give what all passes give.
-- Assumes nothing.
use native.Mathlib.Omega.{arith}
use Rattle.search_passes.proofs.PassLaws.{begun_of, search_start, search_more, search_ended, search_empty, search_end}
use Rattle.search_passes.proofs.all_passes.Goals as goal

pub start-requires : goal.start-requires
start-requires c = let q = c.requires in (q.0.long, q.0.used, q.3)

pub loop-l-init : goal.loop-l-init
loop-l-init c = search_start (begun_of c.requires c.start.ensures c.start.auto.work) _

pub returns-then-s-eq0 : goal.returns-then-s-eq0
returns-then-s-eq0 c =
    search_empty (begun_of c.requires c.start.ensures c.start.auto.work) c.loop-l.invariant c.limit_of-limit.ensures c.if-s-eq0.true

pub pass-requires : goal.pass-requires
pass-requires c = let k = c.loop-l.invariant in (k.sound, k.mid)

pub loop-l-preserved : goal.loop-l-preserved
loop-l-preserved c =
    search_more (begun_of c.requires c.start.ensures c.start.auto.work) c.loop-l.invariant c.loop-l-test.true c.if-s-eq0.false
    c.pass.auto.work c.in-Continue.ensures

pub returns-in-Break : goal.returns-in-Break
returns-in-Break c =
    search_ended (begun_of c.requires c.start.ensures c.start.auto.work) c.loop-l.invariant c.loop-l-test.true c.if-s-eq0.false
    c.in-Break.path c.limit_of-limit.ensures c.in-Break.ensures

pub returns-in-Continue : goal.returns-in-Continue
returns-in-Continue c =
    let begun = begun_of c.requires c.start.ensures c.start.auto.work in
    let more = search_more begun c.loop-l.invariant c.loop-l-test.true c.if-s-eq0.false c.pass.auto.work c.in-Continue.ensures in
    search_end begun more c.limit_of-limit.ensures (omega arith)

pub returns : goal.returns
returns c =
    search_end (begun_of c.requires c.start.ensures c.start.auto.work) c.loop-l.invariant c.limit_of-limit.ensures c.loop-l-test.false
