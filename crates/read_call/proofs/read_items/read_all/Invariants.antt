-- `read_call::read_items::read_all` reads every item as the definition says. The loop's invariant: the items that are left, at most as
-- many as turns, give what the whole input gives. Assumes nothing.
use Prim.Native.Nat.{◌-◌}
use lib.ListN.{length}
use Rattle.read_call.proofs.read_items.Items.{Reads}
use Rattle.read_call.proofs.read_items.read_all.Given as goal

abbrev pub invariant-loop : goal.invariant-loop
invariant-loop l = Reads l.input l.work l.pairs l.atoms l.bytes l.r (length l.input - l.counter)
