-- A pass as one list and a cursor, with no count of turns.
-- Assumes nothing.
use Rattle.std.specs.Prelude.{ℕ, ◌+◌, ◌-◌, ◌*◌, ◌≤◌, List, length, take, drop}
use Rattle.words.specs.Lists.{All}
use Rattle.spec_search.specs.Search.{Trail, Parents, Passed}
use Rattle.spec_search.specs.Lists.{AtLeast, Longer, shorts}
use Rattle.spec_search.specs.Enough.{pass}

-- Pass L, from the cursor c on.
unfoldable pub goes : (parents : Parents) → (stack : List ℕ) → (L : ℕ) → List Trail → (c : ℕ) → List ℕ → Passed
goes parents stack L list c seen = pass parents stack L (take c list) (drop c list) seen

-- The paths before the cursor have more than L bits, the others L or more.
pub record Mid (L : ℕ) (list : List Trail) (c : ℕ) : Type 0 where
  pub within : c ≤ length list
  pub longer : All (Longer L) (take c list)
  pub least : All (AtLeast L) (drop c list)

-- What falls in each turn: the paths that are still to be stepped, and then those that the cursor has not passed. The list never has 4,096.
unfoldable pub ahead : (L : ℕ) → List Trail → (c : ℕ) → ℕ
ahead L list c = shorts L (drop c list) * 4096 + (length list - c)
