-- Trees with open places, the walk down a path, a stack of trees as a list, and what a reference into it is.
use Rattle.std.specs.Prelude.{ℕ, Bool, true, false, List, [], ◌∷◌}
use Rattle.std.proofs.Math.Option.{Option, none, some}
use Rattle.path.specs.Bytes.{read_path}

-- A tree; `place` is an open place.
pub data Tree : Type 0 where
  place : Tree
  atom : List ℕ → Tree
  cons : Tree → Tree → Tree

-- The child that a bit picks: 0, false, is the left one and 1, true, the right one.
abbrev pub pick : Bool → Tree → Tree → Tree
pick false l r = l
pick true l r = r

-- Down a path, whose bits stand in reading order, with no terminator. There is no way on from an atom or an open place.
abbrev pub follow : List Bool → Tree → Option Tree
follow [] t = some t
follow (b ∷ bs) place = none
follow (b ∷ bs) (atom a) = none
follow (b ∷ bs) (cons l r) = follow bs (pick b l r)

-- A stack of trees, the top first, as the list that a path is read from: (t0 . (t1 . (.. . nil))).
abbrev pub as_list : List Tree → Tree
as_list [] = atom []
as_list (t ∷ ts) = cons t (as_list ts)

-- Where the bits of a path lead from the stack's list. A path with no set bit is nil.
abbrev pub lead : Option (List Bool) → Tree → Option Tree
lead none t = some (atom [])
lead (some steps) t = follow steps t

-- The tree in the place of a reference with these path bytes, where the trees of the stack, the top first, were read before it; none where the path steps
-- into an atom.
unfoldable pub referred : List ℕ → List Tree → Option Tree
referred path trees = lead (read_path path) (as_list trees)
