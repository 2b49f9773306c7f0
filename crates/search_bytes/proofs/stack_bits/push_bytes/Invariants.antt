-- `search_bytes::stack_bits::push_bytes` meets its contract. The loop's invariant: with the ones that are left, the builder holds what it is to hold.
-- Assumes nothing.
use Prim.Native.Nat.{◌+◌, ◌*◌, ◌-◌}
use lib.ListN.{length}
use Rattle.path_builder.specs.Builder.{built}
use Rattle.search_list.specs.State.{trues}
use Rattle.search_bytes.proofs.Pushing.{Pushing}
use Rattle.search_bytes.proofs.stack_bits.push_bytes.Given as goal

abbrev pub invariant-loop : goal.invariant-loop
invariant-loop l =
    let bits = built l.initial.store l.initial.longer in
    let left = 8 * (l.bytes - l.counter) in
    Pushing l.initial.store (8 * l.bytes + length bits) (trues (8 * l.bytes) bits) l.store l.longer left (trues left)
