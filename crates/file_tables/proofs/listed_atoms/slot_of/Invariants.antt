-- `slot_of` meets its contract. The invariant: the sum of all bytes is that of the bytes that are left, from the sum so far.
-- Assumes nothing.
use Rattle.std.proofs.Common.{◌≡◌, drop}
use Rattle.file_tables.specs.Listed.{wrapped_sum}
use Rattle.file_tables.proofs.listed_atoms.slot_of.Given as goal

abbrev pub invariant-loop-byte : goal.invariant-loop-byte
invariant-loop-byte l = wrapped_sum 0 l.bytes ≡ wrapped_sum l.sum (drop l.byte-index l.bytes)
