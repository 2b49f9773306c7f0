-- What a pass and the start of a search leave.
-- Assumes nothing.
use Rattle.std.specs.Prelude.{◌≡◌, true, List, [], ◌∷◌, ℕ, ◌+◌}
use Rattle.std.specs.declared.ops.ControlFlow.{ControlFlow}
use Rattle.std.specs.declared.ops.ControlFlow.TheVariants.{Continue, Break}
use Rattle.std.specs.Prelude.{Option, Some, None}
use Rattle.spec_search.specs.Search.{at_entry, Passed, found, gone, left}
use Rattle.work_layout.specs.Rows.{stack_of}
use Rattle.search_list.specs.State.{parents_of_all, seen_of, path_at, trails_of, Readable}
use Rattle.search_list.specs.Cursor.{goes, Mid}
use Rattle.search_list.specs.Steps.{Kept, Nodes, PathsOK, Working}
use Rattle.search_list.specs.declared.Search.{Search}

-- ---- a pass

-- What a pass gives, as in the code: the search for the next pass, or what the search gives.
abbrev pub Passing : Type 0
Passing = ControlFlow (Option ℕ) Search

-- How a pass ended.
abbrev pub ended : List ℕ → Passing → Passed
ended w (Break (Some i)) = found (path_at w i)
ended w (Break None) = gone
ended w (Continue s) = left (trails_of w s.paths) (seen_of w s.nodes)

-- The words are sound for the next pass, L, and the stack has d entries as before.
abbrev pub After : List ℕ → ℕ → ℕ → Passing → Type 0
After w d L (Break (Some i)) = Readable w i
After w d L (Break None) = Unit {0}
After w d L (Continue s) = Working w s.depth s.paths s.nodes × Mid L (trails_of w s.paths) 0 × (s.depth ≡ d)

pub record Passes (w w' : List ℕ) (L : ℕ) (s : Search) (r : Passing) : Type 0 where
  pub same : goes (parents_of_all w) (stack_of w s.depth) L (trails_of w s.paths) 0 (seen_of w s.nodes) ≡ ended w' r
  pub fine : After w' s.depth (L + 1) r
  pub kept : Kept w w'

-- ---- the start

-- The start of a search for entry e.
pub record Started (w w' : List ℕ) (e : ℕ) : Type 0 where
  pub nodes : Nodes w' 0
  pub paths : PathsOK w' 0 1
  pub trails : trails_of w' 1 ≡ at_entry [] e true ∷ []
  pub kept : Kept w w'
