-- `set_parent` meets its contract: the half that is set is that parent's, and no other parent's.
-- Assumes nothing.
use Rattle.std.proofs.Common.{ℕ, ◌%◌, subst}
use Rattle.work_layout.specs.Halves.{HalfSet}
use Rattle.work_layout.specs.Parents.{parent_set}
use Rattle.work_layout.proofs.parents.set_parent.Goals as goal

pub returns : goal.returns
returns c =
    parent_set c.args.work.now _ c.args.e.0 c.args.i c.args.p.0 c.requires.1 c.requires.2
    (subst (λ (x : ℕ). HalfSet c.args.work.now c.set_half.new.work x (c.args.i % 2) c.args.p.0) c.word_of.ensures c.set_half.ensures)
