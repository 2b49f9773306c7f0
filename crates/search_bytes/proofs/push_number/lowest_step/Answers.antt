-- `search_bytes::push_number::lowest_step` meets its contract: an odd number's is to the right.
-- Assumes nothing.
use mathlib.Core.Path.{sym}
use borrow.Author.Tests.{eq-eqb, ne_eqb}
use Rattle.search_bytes.proofs.push_number.lowest_step.Goals as goal

pub returns-then-number-eq1 : goal.returns-then-number-eq1
returns-then-number-eq1 c = sym (eq-eqb _ 1 c.if-number-eq1.true)

pub returns-else-number-eq1 : goal.returns-else-number-eq1
returns-else-number-eq1 c = sym (ne_eqb _ 1 c.if-number-eq1.false)
