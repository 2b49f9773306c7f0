-- `cache_update::enter_node::enter_pair` meets its contract: the words of the key are found where the key is.
-- Assumes nothing.
use Rattle.cache_entries.proofs.Finding.{pair_made}
use Rattle.cache_update.proofs.enter_node.enter_pair.Goals as goal

pub returns : goal.returns
returns c =
    pair_made c.requires.0 c.requires.1 c.requires.2 c.length_of-a.ensures c.length_of-b.ensures c.pair_length-len.ensures c.find_or_add.ensures
