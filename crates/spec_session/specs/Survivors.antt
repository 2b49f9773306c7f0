-- The adds that survive a list of steps: their handles, from the steps alone.
use Rattle.std.specs.Prelude.{ℕ, List, [], ◌∷◌, ◌++◌, take}
use Rattle.std.proofs.Math.Option.{Option, none, some}
use Rattle.spec_session.specs.File.{Step, add, restore, forget, quote, take_quote}

-- "A quote followed by its taking must count as one add wherever read-back is promised, a dropped one as none."
abbrev pub and_quoted : List ℕ → (quoted : Option ℕ) → List ℕ
and_quoted handles none = handles
and_quoted handles (some h) = handles ++ h ∷ []

-- The handles of the adds on the present history after these steps, from those before them and the handle of the open quote.
-- "Number k means the state before add k, counted from 0 on the present history; after restore k the next add is k again", of `03` as of `02`.
abbrev pub survive : List Step → (handles : List ℕ) → (quoted : Option ℕ) → List ℕ
survive [] handles quoted = handles
survive (add h ∷ steps) handles quoted = survive steps (handles ++ h ∷ []) none
survive (restore n ∷ steps) handles quoted = survive steps (take n handles) none
survive (forget n ∷ steps) handles quoted = survive steps (take n handles) none
survive (quote h ∷ steps) handles quoted = survive steps handles (some h)
survive (take_quote ∷ steps) handles quoted = survive steps (and_quoted handles quoted) none

abbrev pub survivors : List Step → List ℕ
survivors steps = survive steps [] none
