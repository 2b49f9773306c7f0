-- `cache_undo::cache_copy::copy_list` meets its contract. The invariant: the first i further words are copied.
-- Assumes nothing.
use denote.Param.{number}
use Rattle.cache_undo.specs.contracts.cache_copy.copy_list.{SAVED-type}
use Rattle.cache_undo.specs.cache_copy.Effects.{ListCopied}
use Rattle.cache_undo.proofs.cache_copy.copy_list.Given as goal

abbrev pub invariant-loop-i : goal.invariant-loop-i
invariant-loop-i g l = ListCopied (SAVED-type (number g.row.SAVED)) l.initial.work l.work l.e.0 l.i l.place
