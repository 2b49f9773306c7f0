-- `parent_at` meets its contract: the half that is read is that parent's.
-- Assumes nothing.
use Rattle.std.proofs.Common.{ℕ, ◌%◌, ap, ◌∙◌}
use Rattle.words.specs.Words.{at}
use Rattle.work_layout.specs.Halves.{half}
use Rattle.work_layout.specs.Rows.{link_at}
use Rattle.work_layout.proofs.parents.parent_at.Goals as goal

pub returns : goal.returns
unfolding link_at
returns c = c.half_at.ensures ∙ ap (λ (x : ℕ). half (c.args.i % 2) (at c.args.work.now x)) c.word_of.ensures
