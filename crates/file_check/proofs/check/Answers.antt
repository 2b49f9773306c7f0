-- `check` meets its contract: questions 2 and 3, and the rest.
-- Assumes nothing.
use mathlib.Core.Path.{sym, ◌∙◌}
use native.Mathlib.Omega.{arith}
use Rattle.file_parts.proofs.session_file.CheckLaws.{file_long, file_unmarked, file_marked, mark_there}
use Rattle.file_check.proofs.check.Goals as goal

pub returns-then-file-gt-FILE_BYTES : goal.returns-then-file-gt-FILE_BYTES
returns-then-file-gt-FILE_BYTES c = file_long c.args.file.now (omega arith)

pub returns-then-not-has_mark : goal.returns-then-not-has_mark
returns-then-not-has_mark c = file_unmarked c.args.file.now (omega arith) (sym c.has_mark.ensures ∙ c.if-not-has_mark.true)

pub after_mark-requires : goal.after_mark-requires
after_mark-requires c = (mark_there c.args.file.now (sym c.has_mark.ensures ∙ c.if-not-has_mark.false), omega arith)

pub returns : goal.returns
returns c = file_marked c.args.file.now (omega arith) c.after_mark.result (sym c.has_mark.ensures ∙ c.if-not-has_mark.false) c.after_mark.ensures
