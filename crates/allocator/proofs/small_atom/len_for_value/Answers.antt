-- `len_for_value` meets its contract: each test is the bound of a number of bytes.
-- Assumes nothing.
use mathlib.Core.Path.{sym, ap, ◌∙◌}
use native.Mathlib.Omega.{arith}
use Rattle.allocator.specs.SmallAtom.{len_for_value}
use Rattle.allocator.specs.SmallAtomLaws.{len_zero, len_some, len_at_most, len_at_least}
use Rattle.allocator.proofs.small_atom.len_for_value.Goals as goal

pub returns-then-val-eq0 : goal.returns-then-val-eq0
returns-then-val-eq0 c = sym (ap len_for_value c.if-val-eq0.true ∙ len_zero)

pub returns-then-val-lt128 : goal.returns-then-val-lt128
returns-then-val-lt128 c = omega (arith, len_at_most 0 c.args.val (omega arith), len_some c.args.val (omega arith))

pub returns-then-val-lt32768 : goal.returns-then-val-lt32768
returns-then-val-lt32768 c = omega (arith, len_at_most 1 c.args.val (omega arith), len_at_least 0 c.args.val (omega arith))

pub returns-then-val-lt8388608 : goal.returns-then-val-lt8388608
returns-then-val-lt8388608 c = omega (arith, len_at_most 2 c.args.val (omega arith), len_at_least 1 c.args.val (omega arith))

pub returns-then-val-lt2147483648 : goal.returns-then-val-lt2147483648
returns-then-val-lt2147483648 c = omega (arith, len_at_most 3 c.args.val (omega arith), len_at_least 2 c.args.val (omega arith))

pub returns-else-val-lt2147483648 : goal.returns-else-val-lt2147483648
returns-else-val-lt2147483648 c = omega (arith, len_at_most 4 c.args.val (omega arith), len_at_least 3 c.args.val (omega arith))
