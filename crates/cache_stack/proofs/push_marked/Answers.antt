-- `cache_stack::push_marked` meets its contract, by those of `push` and `mark`.
-- Assumes nothing.
use Rattle.cache_stack.proofs.Marking.{push_only, push_and_mark}
use Rattle.cache_stack.proofs.push_marked.Goals as goal

pub returns-then-len-ge-MIN_SERIALIZED_LENGTH : goal.returns-then-len-ge-MIN_SERIALIZED_LENGTH
returns-then-len-ge-MIN_SERIALIZED_LENGTH c = push_and_mark c.push.ensures c.mark.ensures c.if-len-ge-MIN_SERIALIZED_LENGTH.true

pub returns-else-len-ge-MIN_SERIALIZED_LENGTH : goal.returns-else-len-ge-MIN_SERIALIZED_LENGTH
returns-else-len-ge-MIN_SERIALIZED_LENGTH c = push_only c.push.ensures c.if-len-ge-MIN_SERIALIZED_LENGTH.false
