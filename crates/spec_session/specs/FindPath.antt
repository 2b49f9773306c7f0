-- Whether a reference is written for a subtree, and the path that it has: the exceptions of `find_path` in tree_cache.rs, and the search, over any measure of
-- a path: `counted` of the crate path is 01's, and `documented` the documentation's.
use Rattle.std.specs.Prelude.{ℕ, Bool, cond, List, [], ◌∷◌, eqb, ltb}
use Rattle.std.proofs.Math.Option.{Option, none, map}
use Rattle.allocator.specs.Handle.{nil, handle_of}
use Rattle.spec_search.specs.Search.{Parents, member, search, used}
use Rattle.spec_session.specs.Cache.{Cache, parents_at, length_at}

-- Bits without the terminator, which stands last.
abbrev pub without_terminator : List Bool → List Bool
without_terminator [] = []
without_terminator (b ∷ []) = []
without_terminator (b ∷ c ∷ bits) = b ∷ without_terminator (c ∷ bits)

abbrev pub parents_in : Cache → Parents
parents_in c x = parents_at x c.entries

module _ (measure : List Bool → ℕ) where
  -- None for nil's handle, for an entry that is not marked written, and for a length below 4; else the path that the search gives, where it is used.
  unfoldable pub find_in : Cache → (marked stack : List ℕ) → (handle entry : ℕ) → Option (List Bool)
  find_in c marked stack h e =
      cond (eqb h (handle_of nil)) none
      (cond (member e marked)
      (cond (ltb (length_at e c.entries) 4) none
      (map without_terminator (used measure (length_at e c.entries) (search (parents_in c) stack (length_at e c.entries) e))))
      none)
