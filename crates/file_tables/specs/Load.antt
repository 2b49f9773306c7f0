-- What loading the tables of the listed atoms takes, and what it leaves in work.
use Rattle.std.specs.Prelude.{◌≡◌, ℕ, ◌+◌, ◌<◌, ◌≤◌, List, length}
use Rattle.words.specs.Words.{at, tabulate, WORK}
use Rattle.atom.specs.Write.{serialized_length}
use Rattle.work_layout.specs.Layout.{FIRST, ATOM_LENGTHS, ATOM_HEADS, ATOM_COUNT}
use Rattle.cache_entries.specs.Meaning.{first_same}
use Rattle.work_layout.specs.Rows.{atom_bytes}
use Rattle.file_tables.specs.Listed.{Inside}

-- The first n listed atoms.
abbrev pub atoms : (file w : List ℕ) → ℕ → List (List ℕ)
atoms file w n = tabulate n (atom_bytes file w)

-- What loading takes: work is long, the file short, the atoms are few and lie within the file, and no chain has begun.
pub record Ready (file w : List ℕ) (count : ℕ) : Type 0 where
  pub long : WORK ≤ length w
  pub short : length file ≤ 65535
  pub few : count ≤ 1024
  pub inside : (i : ℕ) → i < count → Inside file w i
  pub heads : (s : ℕ) → s < 1024 → at w (ATOM_HEADS + s) ≡ 0

-- Nothing but the words from FIRST to the end of ATOM-NEXT is touched.
pub record Kept (w w' : List ℕ) : Type 0 where
  pub low : (k : ℕ) → k < FIRST → at w' k ≡ at w k
  pub high : (k : ℕ) → ATOM_COUNT ≤ k → at w' k ≡ at w k

-- What loading leaves: for each atom the first one with the same bytes, and its serialized length.
pub record Loaded (file w w' : List ℕ) (count : ℕ) : Type 0 where
  pub firsts : (i : ℕ) → i < count → at w' (FIRST + i) ≡ first_same (atom_bytes file w i) (atoms file w count)
  pub lengths : (i : ℕ) → i < count → at w' (ATOM_LENGTHS + i) ≡ serialized_length (atom_bytes file w i)
  pub kept : Kept w w'
