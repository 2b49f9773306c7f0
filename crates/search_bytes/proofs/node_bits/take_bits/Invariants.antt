-- `search_bytes::node_bits::take_bits` meets its contract. The loop's invariant: the number has the latest bits, and a node those before them.
-- Assumes nothing.
use Rattle.search_bytes.proofs.Taking.{Taking}
use Rattle.search_bytes.proofs.node_bits.take_bits.Given as goal

abbrev pub invariant-loop : goal.invariant-loop
invariant-loop l = Taking l.work l.a l.counter l.number l.node
