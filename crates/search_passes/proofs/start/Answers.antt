-- `search_passes::start` meets its contract: no node, no entry seen, and one path.
-- Assumes nothing.
use Rattle.search_passes.proofs.PassLaws.{started}
use lib.ListN.{length-set}
use mathlib.Core.Path.{◌∙◌}
use native.Mathlib.Omega.{arith}
use Rattle.search_passes.proofs.start.Goals as goal

pub put_at_entry-requires : goal.put_at_entry-requires
put_at_entry-requires c =
    let k = c in
    (simp length-set (omega (arith, k.clear_seen.auto.work, k.requires.0)), omega arith)

pub shape_of-work : goal.shape_of-work
shape_of-work c = c.put_at_entry.auto.work ∙ simp length-set c.clear_seen.auto.work

pub returns : goal.returns
returns c =
    let p = c in
    let x = p in
    let s = x in
    let k = x.clear_seen in
    started s.args.work.now k.new.work p.put_at_entry.new.work s.args.e.0 (omega (arith, k.auto.work, s.requires.0)) s.requires.2
    k.ensures (rw p.new.ensures at p.put_at_entry.ensures)
