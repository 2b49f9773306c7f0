-- `cache_undo::cache_copy::copy_lists` meets its contract, entry by entry: the counts are as they were.
-- Assumes nothing.
use Rattle.std.proofs.Common.{◌+◌, ap, ◌∙◌, arith}
use Rattle.work_layout.specs.Layout.{COUNTS}
use Rattle.work_layout.specs.Rows.{further}
use Rattle.work_layout.specs.Counts.{further_none, further_more, further_within}
use Rattle.cache_undo.proofs.cache_copy.CopyLaws.{lists_none, lists_still, lists_more}
use Rattle.cache_undo.proofs.cache_copy.copy_lists.Goals as goal

pub loop-e-init : goal.loop-e-init
loop-e-init g c = (omega (arith, further_none c.args.work.now), lists_none _ c.args.work.now c.args.place)

pub count_of-count-requires : goal.count_of-count-requires
count_of-count-requires g c =
    let still = lists_still _ c.args.work.now c.loop-e.work c.loop-e.e c.args.place c.requires.3 c.loop-e.invariant.1 (COUNTS + c.loop-e.e) (omega arith) in
    (omega arith, omega arith, omega (arith, still, c.requires.2 c.loop-e.e (omega arith)))

pub copy_list-next-requires : goal.copy_list-next-requires
copy_list-next-requires g c =
    let still = lists_still _ c.args.work.now c.loop-e.work c.loop-e.e c.args.place c.requires.3 c.loop-e.invariant.1 (COUNTS + c.loop-e.e) (omega arith) in
    let k = ap further (c.count_of-count.ensures.0 ∙ still) in
    let m = further_within c.args.work.now c.args.n c.loop-e.e (omega arith) in
    (omega arith, omega arith, omega arith, omega arith, omega (arith, k, m))

pub loop-e-preserved : goal.loop-e-preserved
loop-e-preserved g c =
    let still = lists_still _ c.args.work.now c.loop-e.work c.loop-e.e c.args.place c.requires.3 c.loop-e.invariant.1 (COUNTS + c.loop-e.e) (omega arith) in
    let k = ap further (c.count_of-count.ensures.0 ∙ still) in (
      omega (arith, k, further_more c.args.work.now c.loop-e.e),
      lists_more _ c.args.work.now c.loop-e.work _ c.loop-e.e (further c.count_of-count.result) c.args.place c.loop-e.next (omega arith) k (omega arith)
          c.requires.3 c.loop-e.invariant.0 c.loop-e.invariant.1 c.copy_list-next.ensures.1,
    )
