-- `cache_entries::small_length` meets its contract.
-- Assumes nothing.
use Rattle.std.proofs.Common.{ℕ, ◌+◌, ap, ◌∙◌, rules}
use Rattle.cache_entries.proofs.Lengths.{small_one, small_more, small_few}
use Rattle.cache_entries.proofs.small_length.Goals as goal

pub returns-then-value-lt128 : goal.returns-then-value-lt128
returns-then-value-lt128 c = small_one c.args.value c.if-value-lt128.true

pub overflow_add-result : goal.overflow_add-result
overflow_add-result c = let h = small_few c.args.value c.requires in search rules

pub returns : goal.returns
returns c = ap (λ (n : ℕ). n + 1) c.len_for_value.ensures ∙ small_more c.args.value c.if-value-lt128.false c.requires
