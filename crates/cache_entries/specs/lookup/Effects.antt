-- The entry of a node: what the words say, as the definitions have it of whatever file and cache they hold.
use Rattle.std.specs.Prelude.{ℕ, ◌<◌, ◌≡◌, true, List}
use Rattle.allocator.specs.Handle.{pair, node_of, is_atom}
use Rattle.spec_session.specs.File.{File}
use Rattle.spec_session.specs.Cache.{Cache}
use Rattle.spec_session.specs.Writer.{atom_entry, pair_entry}
use Rattle.work_layout.specs.Layout.{ENTRIES}
use Rattle.cache_entries.specs.Meaning.{bytes_named, Tables, Holds}

-- e is the entry of pair i.
pub record PairEntry (w : List ℕ) (i e : ℕ) : Type 0 where
  pub low : e < ENTRIES
  pub is : (f : File) (c : Cache) → Tables f w → Holds f w c → pair_entry c i ≡ e

-- e is the entry of the atom h.
pub record AtomEntry (w : List ℕ) (h e : ℕ) : Type 0 where
  pub low : e < ENTRIES
  pub is : (f : File) (c : Cache) → Tables f w → Holds f w c → atom_entry c (bytes_named f (node_of h)) ≡ e

-- e is the entry of the node h, a pair or an atom.
pub record EntryOf (w : List ℕ) (h e : ℕ) : Type 0 where
  pub low : e < ENTRIES
  pub of_pair : (i : ℕ) → node_of h ≡ pair i → PairEntry w i e
  pub of_atom : is_atom (node_of h) ≡ true → AtomEntry w h e
