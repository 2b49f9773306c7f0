-- The walk of a pass once more, as one list and a cursor, the way the Rust goes; and that `walk` is the same.
-- Assumes nothing.
use Prim.Native.Nat.{ℕ}
use Rattle.std.specs.Prelude.{List, [], ◌∷◌, set}
use Rattle.spec_search.specs.Search.{Trail}

-- The last path of a list that begins with p; and a list without its last path.
abbrev pub last : Trail → List Trail → Trail
last p [] = p
last p (q ∷ qs) = last q qs

abbrev pub init : List Trail → List Trail
init [] = []
init (p ∷ []) = []
init (p ∷ q ∷ qs) = p ∷ init (q ∷ qs)

-- The last path takes the slot c, which holds p, and the list's last slot goes.
abbrev pub swap_remove : List Trail → ℕ → Trail → List Trail
swap_remove list c p = init (set list c (last p list))
