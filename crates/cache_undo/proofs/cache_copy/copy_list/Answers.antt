-- `cache_undo::cache_copy::copy_list` meets its contract, word by word, whichever way they go.
-- Assumes nothing.
use Rattle.std.proofs.Common.{refl, ap, not, arith, eq-eqb, ne_eqb}
use Rattle.cache_undo.proofs.cache_copy.CopyLaws.{word_saved, word_brought}
use Rattle.cache_undo.proofs.cache_copy.copy_list.Goals as goal
use Rattle.cache_undo.proofs.cache_copy.copy_list.Goals.{then-this-ne0, else-this-ne0}

pub loop-i-preserved : goal.loop-i-preserved
loop-i-preserved g c =
    elim c.if-this-ne0.branch [
      | then-this-ne0 w ↦
          rw w.work-is
          (word_saved _ (ap not (ne_eqb g.row.SAVED 0 w.if-this-ne0.true)) c.args.work.now c.loop-i.work c.args.e.0 c.loop-i.i c.args.place w.links_at.result c.requires.1 (omega arith)
          c.requires.3 (omega arith) w.links_at.ensures c.loop-i.invariant)
      | else-this-ne0 w ↦
          rw w.work-is
          (word_brought _ (ap not (eq-eqb g.row.SAVED 0 w.if-this-ne0.false)) c.args.work.now c.loop-i.work _ c.args.e.0 c.loop-i.i c.args.place _ c.requires.1 c.requires.3 refl
          c.loop-i.invariant w.set_links.ensures)
    ]
