-- The counts by which the search recurs are enough: more steps in a pass, or more passes, give the same.
-- Assumes nothing.
use Prim.Native.Nat.{ℕ}
use Rattle.std.specs.Prelude.{length}
use mathlib.Core.List.{List}
use Rattle.spec_search.specs.Search.{Trail, Parents, Passed}
use Rattle.spec_search.specs.Search.{walk}

module _ (parents : Parents) (stack : List ℕ) (L : ℕ) where
  -- Pass L from a slot on: the slots before it, and the list from it on.
  unfoldable pub pass : List Trail → List Trail → List ℕ → Passed
  pass before after seen = walk parents stack (length after) L before after seen
