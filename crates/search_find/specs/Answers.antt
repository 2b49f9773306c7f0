-- What `find_path` answers: the path that is used.
-- Assumes nothing.
use Rattle.std.specs.Prelude.{◌≡◌, List, ℕ, Option}
use Rattle.path.specs.declared.Measure.{Measure}
use Rattle.path.specs.Measure.{measure_of}
use Rattle.spec_search.specs.Search.{search, used}
use Rattle.work_layout.specs.Rows.{stack_of}
use Rattle.search_list.specs.State.{parents_of_all}
use Rattle.search_list.specs.Steps.{Kept}
use Rattle.search_passes.specs.Finds.{way_of, Usable}

-- The slot of the path that is used, which can be read, if there is one.
pub record FoundPath (m : Measure) (w w' : List ℕ) (d len e : ℕ) (r : Option ℕ) : Type 0 where
  pub answer : used (measure_of m) len (search (parents_of_all w) (stack_of w d) len e) ≡ way_of w' r
  pub usable : Usable w' r
  pub kept : Kept w w'
