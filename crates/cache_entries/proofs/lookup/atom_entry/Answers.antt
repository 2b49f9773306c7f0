-- `cache_entries::lookup::atom_entry` meets its contract: the entry with the atom's key, or entry 0.
-- Assumes nothing.
use Rattle.std.proofs.Common.{refl}
use Rattle.cache_entries.proofs.lookup.Entries.{atom_or}
use Rattle.cache_entries.proofs.lookup.atom_entry.Goals as goal

pub returns : goal.returns
returns c = atom_or c.requires.0 c.atom_key-key.ensures c.find_key.result c.find_key.ensures _ c.unwrap_or.result refl c.unwrap_or.ensures
