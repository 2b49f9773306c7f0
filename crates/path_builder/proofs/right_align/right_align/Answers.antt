-- `path_builder::right_align::right_align` meets its contract. The loop's invariant: the bytes from j on are shifted, and those before are as they were.
-- Assumes nothing.
use Rattle.path_builder.proofs.right_align.Aligning.{align_more, align_end}
use Rattle.path_builder.proofs.right_align.right_align.Goals as goal

pub loop-j-preserved : goal.loop-j-preserved
loop-j-preserved c =
    let a = c.args in
    let l = c.loop-j in
    align_more a.store.now a.n a.r c.requires.0 c.requires.2 l.store l.j c.shifted.result l.invariant c.loop-j-test.true c.shifted.ensures

pub returns : goal.returns
returns c =
    let a = c.args in
    let l = c.loop-j in
    align_end a.store.now a.n a.r c.requires.0 c.requires.2 l.store l.j l.invariant c.loop-j-test.false
