-- `read_path::stack_list::list_at` meets its contract: the topmost of the values has a list, which is that of them all.
-- Assumes nothing.
use mathlib.Core.Path.{sym, ◌∙◌}
use native.Mathlib.Omega.{arith}
use Rattle.allocator.specs.HandleLaws.{handle_of_nil}
use Rattle.read_path.proofs.stack_list.Adding.{top_listed, top_list, no_list}
use Rattle.read_path.proofs.stack_list.list_at.Goals as goal

pub returns-then-count-eq0 : goal.returns-then-count-eq0
returns-then-count-eq0 c = let a = c.args in λ s. sym handle_of_nil ∙ no_list a.work.now a.count c.if-count-eq0.true s

pub overflow_sub-result-2 : goal.overflow_sub-result-2
overflow_sub-result-2 c =
    let o = c in
    omega (arith, top_listed o.args.work.now o.args.count (omega (arith, c.if-count-eq0.false)) o.requires.1.all)

pub returns : goal.returns
returns c =
    let o = c in
    top_list o.args.work.now o.args.count (omega (arith, c.if-count-eq0.false)) o.requires.1.all
