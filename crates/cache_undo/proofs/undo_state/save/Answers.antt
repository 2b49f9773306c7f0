-- `cache_undo::undo_state::save` meets its contract: its three copies go to parts of the copy that do not meet.
-- Assumes nothing.
use Rattle.std.proofs.Common.{arith}
use Rattle.work_layout.specs.Layout.{OPEN, STACK, WRITTEN}
use Rattle.cache_undo.specs.undo_state.Effects.{copied_open, copied_stack, copied_marks}
use Rattle.words.proofs.Copies.{copied}
use Rattle.cache_undo.proofs.undo_state.Saving.{saved}
use Rattle.cache_undo.proofs.undo_state.save.Goals as goal

pub returns : goal.returns
returns c =
    saved c.args.k c.requires.2 c.requires.3
    (copied _ OPEN (copied_open c.args.k) c.args.opens (omega arith) (omega arith) _ c.copy_within.ensures)
    (copied _ STACK (copied_stack c.args.k) c.args.depth (omega arith) (omega arith) _ c.copy_within-2.ensures)
    (copied _ WRITTEN (copied_marks c.args.k) 96 (omega arith) (omega arith) _ c.copy_within-3.ensures)
