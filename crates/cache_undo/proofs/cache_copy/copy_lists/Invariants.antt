-- `cache_undo::cache_copy::copy_lists` meets its contract. The invariant: the further words of the first e entries are copied, and those of the next one
-- stand from `next` on.
-- Assumes nothing.
use denote.Param.{number}
use Rattle.std.proofs.Common.{◌≡◌, ◌+◌}
use Rattle.work_layout.specs.Rows.{all_further}
use Rattle.cache_undo.specs.contracts.cache_copy.copy_lists.{SAVED-type}
use Rattle.cache_undo.specs.cache_copy.Effects.{ListsCopied}
use Rattle.cache_undo.proofs.cache_copy.copy_lists.Given as goal

abbrev pub invariant-loop-e : goal.invariant-loop-e
invariant-loop-e g l = (l.next ≡ l.place + all_further l.initial.work l.e) × ListsCopied (SAVED-type (number g.row.SAVED)) l.initial.work l.work l.e l.place
