-- What a cache keeps as it grows: its entries, but for their parents, stand at the front of the later ones. So the keys and lengths of a cache that a `03` puts
-- back are still there, and need not be saved.
-- Assumes nothing.
use Rattle.std.specs.Prelude.{◌≡◌, List, [], ◌++◌, map}
use Rattle.spec_session.specs.Cache.{Entry, Cache}

-- An entry without its parents.
abbrev pub bare : Entry → Entry
bare x = record { key = x.key; parents = []; len = x.len }

pub record Extends (old new : Cache) : Type 0 where
  pub more : List Entry
  pub entries_are : map bare new.entries ≡ map bare old.entries ++ more
