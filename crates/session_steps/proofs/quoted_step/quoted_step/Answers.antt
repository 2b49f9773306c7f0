-- `session_steps::quoted_step::quoted_step` meets its contract: the quote is taken, or dropped before any other step.
-- Assumes nothing.
use mathlib.Core.Path.{refl}
use borrow.Author.Rules.{rules}
use Rattle.session_steps.proofs.quoted_step.Answers as answers
use Rattle.session_steps.proofs.quoted_step.quoted_step.Goals as goal
use Rattle.session_steps.proofs.quoted_step.quoted_step.Goals.{in_default-via-in-Some+in_default, in_default-via-in_default}

pub drop_quote-requires : goal.drop_quote-requires
drop_quote-requires c = answers.drop_asks c.requires.0 c.requires.1

pub returns-in-Some-Take : goal.returns-in-Some-Take
returns-in-Some-Take c =
    answers.takes_on c.requires.0 c.requires.1 c.in-Some-Take.field-0.next
    (answers.taking c.args.file.now c.args.p.at c.in-Some-Take.field-0 c.in-Some-Take.field-0.next (cc) refl c.in-Some-Take.ensures.first_step)
    c.take_quote.ensures.0 c.take_quote.ensures.1

pub returns-in_default : goal.returns-in_default
returns-in_default c =
    answers.drops_on c.requires.0 c.requires.1
    (λ ss st. elim c.in_default.branch [
      | in_default-via-in-Some+in_default w ↦ answers.another c.args.file.now ss w.in_default.field-0 (search rules) (rw w.in_default.is at (c.next_step.ensures.first_step ss st))
      | in_default-via-in_default w ↦ answers.no_step c.args.file.now ss (rw w.in_default.is at (c.next_step.ensures.first_step ss st))
    ])
    c.drop_quote.auto.work c.drop_quote.ensures.0 c.drop_quote.ensures.1
