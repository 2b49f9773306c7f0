-- `cache_undo::restore` meets its contract: the present stack goes, the copy's is pushed, open pairs and marks are copied back.
-- Assumes nothing.
use Rattle.std.proofs.Common.{arith}
use Rattle.work_layout.specs.Layout.{OPEN, WRITTEN}
use Rattle.cache_undo.specs.undo_state.Effects.{copied_open, copied_marks}
use Rattle.words.proofs.Copies.{copied}
use Rattle.cache_undo.proofs.Copied.{restored}
use Rattle.cache_undo.proofs.restore.Goals as goal

pub returns : goal.returns
returns c =
    restored c.args.k c.requires.3 c.pop_all.ensures c.push_all.ensures
    (copied _ (copied_open c.args.k) OPEN c.args.opens (omega arith) (omega arith) _ c.copy_within.ensures)
    (copied _ (copied_marks c.args.k) WRITTEN 96 (omega arith) (omega arith) _ c.copy_within-2.ensures)
