-- `leaves::bits::push_all` meets its contract: the builder is sound, and has as many bits as were pushed.
use Rattle.std.proofs.Common.{◌≡◌, length}
use Rattle.path_builder.specs.Builder.{Sound, built}
use Rattle.leaves.proofs.bits.push_all.Given as goal

abbrev pub invariant-loop-bit : goal.invariant-loop-bit
invariant-loop-bit l = (length l.store ≡ length l.initial.store) × (Sound l.store l.builder) × (length (built l.store l.builder) ≡ l.bit-index)
