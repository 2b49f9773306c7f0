-- `search_bytes::node_bits::push_long` meets its contract. The measure: the number of bits.
-- Assumes nothing.
use Rattle.search_bytes.proofs.node_bits.+push_long.Given as goal

abbrev pub decreases-push_long : goal.decreases-push_long
decreases-push_long l = l.n
