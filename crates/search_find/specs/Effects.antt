-- The length of an entry, and the path that is written for a node: what the words say, as the definitions have it of whatever file and cache they hold.
use Rattle.std.specs.Prelude.{ℕ, ◌<◌, ◌≡◌, Bool, List}
use Rattle.std.specs.Prelude.{Some, None}
use Rattle.std.specs.Prelude as code
use Rattle.std.proofs.Math.Option.{Option, none, some}
use Rattle.words.specs.Words.{at}
use Rattle.path.specs.declared.Measure.{Measure}
use Rattle.path.specs.Measure.{measure_of}
use Rattle.spec_search.specs.Search.{member}
use Rattle.spec_search.specs.PathBits.{Ends}
use Rattle.spec_session.specs.File.{File}
use Rattle.spec_session.specs.Cache.{Cache, length_at}
use Rattle.spec_session.specs.FindPath.{without_terminator, find_in}
use Rattle.work_layout.specs.Layout.{USED, ENTRIES}
use Rattle.work_layout.specs.Rows.{stack_of}
use Rattle.search_list.specs.State.{path_at, Readable}
use Rattle.search_list.specs.Steps.{Kept}
use Rattle.cache_stack.specs.marks.Effects.{marked_at}
use Rattle.cache_entries.specs.Meaning.{Tables, Holds}

-- n is the length of entry e, 0 where there is no such entry.
pub record LengthOf (w : List ℕ) (e n : ℕ) : Type 0 where
  pub is : (f : File) (c : Cache) → Holds f w c → length_at e c.entries ≡ n
  pub in_use : 0 < n → e < at w USED

-- The steps of the path that was found.
abbrev pub steps_of : List ℕ → code.Option ℕ → Option (List Bool)
steps_of w (Some i) = some (without_terminator (path_at w i))
steps_of w None = none

-- It can be read, and has its terminator.
abbrev pub Ready : List ℕ → code.Option ℕ → Type 0
Ready w (Some i) = Readable w i × Ends (path_at w i)
Ready w None = Unit {0}

-- The marks of the words are those of the list.
abbrev pub Marks : List ℕ → List ℕ → Type 0
Marks w marked = (x : ℕ) → x < ENTRIES → member x marked ≡ marked_at w x

-- The path that is written for the node h of entry e, over a stack of d entries, by the measure m.
pub record FindsIn (m : Measure) (w w' : List ℕ) (d h e : ℕ) (r : code.Option ℕ) : Type 0 where
  pub answer : (f : File) (c : Cache) (marked : List ℕ) → Tables f w → Holds f w c → Marks w marked
      → find_in (measure_of m) c marked (stack_of w d) h e ≡ steps_of w' r
  pub ready : Ready w' r
  pub kept : Kept w w'
