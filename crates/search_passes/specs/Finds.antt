-- What the search gives.
-- Assumes nothing.
use Rattle.std.specs.Prelude.{◌≡◌, Bool, List, ℕ}
use Rattle.std.specs.Prelude.{Some, None}
use Rattle.std.specs.Prelude as code
use Rattle.std.proofs.Math.Option.{Option, none, some}
use Rattle.spec_search.specs.Search.{search}
use Rattle.work_layout.specs.Rows.{stack_of}
use Rattle.search_list.specs.State.{parents_of_all, path_at, Readable}
use Rattle.search_list.specs.Steps.{Kept}

-- The path in the slot that is given.
abbrev pub way_of : List ℕ → code.Option ℕ → Option (List Bool)
way_of w (Some i) = some (path_at w i)
way_of w None = none

-- A path that was found can be read.
abbrev pub Usable : List ℕ → code.Option ℕ → Type 0
Usable w (Some i) = Readable w i
Usable w None = Unit {0}

-- What the search of entry e gives, of length len and from a stack of d entries.
pub record Finds (w w' : List ℕ) (d len e : ℕ) (r : code.Option ℕ) : Type 0 where
  pub answer : search (parents_of_all w) (stack_of w d) len e ≡ way_of w' r
  pub usable : Usable w' r
  pub kept : Kept w w'
