-- `search_bytes::push_number::push_number` meets its contract. The loop's invariant: with the bits that are left, the builder holds what it is to hold.
-- Assumes nothing.
use Prim.Native.Nat.{◌+◌, ◌-◌}
use lib.ListN.{length}
use Rattle.path_builder.specs.Builder.{built}
use Rattle.search_bytes.specs.Built.{with_number}
use Rattle.search_bytes.proofs.Pushing.{Pushing}
use Rattle.search_bytes.proofs.push_number.push_number.Given as goal

abbrev pub invariant-loop : goal.invariant-loop
invariant-loop l =
    let bits = built l.initial.store l.initial.longer in
    let left = l.count - l.counter in
    Pushing l.initial.store (l.count + length bits) (with_number l.count l.number bits) l.store l.longer left (with_number left l.rest)
