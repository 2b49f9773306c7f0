-- Lists of paths: what holds of every one, and how many bits they have.
-- Assumes nothing.
use Rattle.std.specs.Prelude.{ℕ, suc, ◌≤◌, ◌<◌, cond, List, [], ◌∷◌, length}
use Rattle.spec_search.specs.Search.{Trail, trail_bits, long}

abbrev pub size : Trail → ℕ
size p = length (trail_bits p)

abbrev pub AtLeast : ℕ → Trail → Type 0
AtLeast L p = L ≤ size p

abbrev pub Longer : ℕ → Trail → Type 0
Longer L p = L < size p

-- How many paths of the list have at most L bits.
abbrev pub shorts : ℕ → List Trail → ℕ
shorts L [] = 0
shorts L (p ∷ ps) = cond (long L p) (shorts L ps) (suc (shorts L ps))
