-- What work and the output hold between two turns of the writer's loop, and what they mean: a session of the definitions.
use Rattle.std.specs.Prelude.{ℕ, zero, suc, ◌+◌, ◌*◌, ◌/◌, ◌%◌, ◌≤◌, ◌<◌, ◌≡◌, cond, List, [], ◌∷◌, eqb, length, get_or, take}
use Rattle.words.specs.Words.{at}
use Rattle.spec_search.specs.Search.{member}
use Rattle.spec_session.specs.File.{File}
use Rattle.spec_session.specs.Unfold.{unfolded}
use Rattle.spec_session.specs.Cache.{Cache}
use Rattle.spec_session.specs.Items.{output}
use Rattle.spec_session.specs.Writer.{Todo, parse, close, Written}
use Rattle.work_layout.specs.Layout.{PAIRS, ATOM_COUNT, PAIR_COUNT, OPEN, MOVED, SEEN, COPIES, ENTRIES}
use Rattle.work_layout.specs.Rows.{start_of, end_of, atom_bytes, stack_of, all_counts}
use Rattle.cache_stack.specs.marks.Effects.{marked_at}
use Rattle.cache_stack.specs.Effects.{Stacked}
use Rattle.cache_entries.specs.Meaning.{Holds, Whole}
use Rattle.write_counts.specs.declared.Counts.{Counts}
use Rattle.write_counts.specs.Counts.{counts_of, Bounded}

-- ---- the file's atoms lie in the file

-- Where each atom's bytes start and end.
pub record AtomPlaces (file w : List ℕ) : Type 0 where
  pub short : length file ≤ 65535
  pub ordered : (i : ℕ) → i < at w ATOM_COUNT → start_of w i ≤ end_of w i
  pub inside : (i : ℕ) → i < at w ATOM_COUNT → end_of w i ≤ length file

-- The bytes there are those of the file's atoms.
pub record AtomsThere (file : List ℕ) (f : File) (w : List ℕ) : Type 0 where
  pub bytes : (i : ℕ) → i < length f.atoms → atom_bytes file w i ≡ get_or f.atoms i []

-- ---- what is left to write: each open pair is its number, doubled, and 1 where its right side is still to come

abbrev pub left_to_write : File → List ℕ → ℕ → List Todo → List Todo
left_to_write f w v k = cond (eqb (v % 2) 1) (parse (unfolded f (at w (PAIRS + 2 * (v / 2) + 1))) ∷ close (v / 2) ∷ k) (close (v / 2) ∷ k)

-- From n open pairs, the innermost first.
unfoldable pub todo_of : File → List ℕ → ℕ → List Todo
todo_of f w zero = []
todo_of f w (suc n) = left_to_write f w (at w (OPEN + n)) (todo_of f w n)

-- How many of n open pairs have their right side still to come.
unfoldable pub rights_left : List ℕ → ℕ → ℕ
rights_left w zero = 0
rights_left w (suc n) = at w (OPEN + n) % 2 + rights_left w n

-- ---- when the words are sound: `values` is 0 where a subtree comes next, 1 where one was just written

pub record Standing (w : List ℕ) (opens depth values : ℕ) : Type 0 where
  pub whole : Whole w
  pub stacked : Stacked w depth
  pub counts : all_counts w ENTRIES ≤ 2048
  pub few_opens : opens ≤ 4096
  pub pairs : (i : ℕ) → i < opens → at w (OPEN + i) / 2 < at w PAIR_COUNT
  -- Each open pair has its left value on the stack, or its right side still to come.
  pub balance : depth + rights_left w opens ≡ opens + values

-- .. with so many bytes in the output.
pub record Running (w out : List ℕ) (opens depth : ℕ) (counts : Counts) (values : ℕ) : Type 0 where
  pub stands : Standing w opens depth values
  pub fits : counts.size ≤ length out
  pub bounded : Bounded counts
  pub short : length out ≤ 65535

-- ---- what they mean

pub record Writes (f : File) (w out : List ℕ) (depth : ℕ) (counts : Counts) (c : Cache) (s : Written) : Type 0 where
  pub cache : Holds f w c
  pub stack : s.stack ≡ stack_of w depth
  pub marks : (e : ℕ) → e < ENTRIES → member e s.marked ≡ marked_at w e
  pub counts_are : counts ≡ counts_of s.items
  pub bytes_are : take counts.size out ≡ output s.items

-- Nothing is touched but the open pairs, the stack, the marks and the search's words.
pub record WriterOnly (w w' : List ℕ) : Type 0 where
  pub low : (k : ℕ) → k < OPEN → at w' k ≡ at w k
  pub cache : (k : ℕ) → MOVED ≤ k → k < SEEN → at w' k ≡ at w k
  pub high : (k : ℕ) → COPIES ≤ k → at w' k ≡ at w k
