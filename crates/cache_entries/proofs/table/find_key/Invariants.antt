-- `find_key` meets its contract. The invariant: no entry from `next` on has the key. Keys are distinct, so the last entry with it is the first one.
-- Assumes nothing.
use Rattle.cache_entries.proofs.table.Chain.{Sought, head_of}
use Rattle.cache_entries.proofs.table.find_key.Given as goal

abbrev pub invariant-loop-next : goal.invariant-loop-next
invariant-loop-next l = Sought l.work l.k.left l.k.right l.slot (head_of l.next)

abbrev pub decreases-loop-next : goal.decreases-loop-next
decreases-loop-next l = head_of l.next
