-- `cache_update::enter_node::enter_atom` meets its contract: the words of the key are found where the key is.
-- Assumes nothing.
use Rattle.cache_entries.proofs.Finding.{atom_made}
use Rattle.cache_update.proofs.enter_node.enter_atom.Goals as goal

pub returns : goal.returns
returns c = atom_made c.requires.whole.0 c.atom_key-key.ensures c.atom_length-len.ensures c.find_or_add.ensures
