-- What loading a session file leaves in work, and where its run starts.
use Rattle.std.specs.Prelude.{ℕ, ◌+◌, ◌*◌, ◌≤◌, ◌<◌, ◌≡◌, Bool, false, List, [], length, get_or}
use Rattle.words.specs.Words.{at}
use Rattle.path.specs.declared.Measure.{Measure}
use Rattle.spec_session.specs.File.{File}
use Rattle.file_parts.specs.Loaded.{AtomPlace, pair_of}
use Rattle.work_layout.specs.Layout.{ATOMS, PAIRS, ATOM_HEADS, ATOM_NEXT, TOPS, PARENTS}
use Rattle.cache_entries.specs.Meaning.{Tables}
use Rattle.write_place.specs.State.{AtomPlaces, AtomsThere}
use Rattle.write_counts.specs.Counts.{no_items}
use Rattle.session_state.specs.declared.progress.Progress.{Progress}

-- The words from a up to b became zero, and no other changed.
pub record PartClear (w w' : List ℕ) (a b : ℕ) : Type 0 where
  pub zeros : (k : ℕ) → a ≤ k → k < b → at w' k ≡ 0
  pub others : (k : ℕ) → (a ≤ k → k < b → ⊥) → at w' k ≡ at w k

-- The heads of the atoms' slots are zero, and from TOPS up to the parents all words: what is read before it is written.
pub record TablesClear (w : List ℕ) : Type 0 where
  pub heads : (k : ℕ) → ATOM_HEADS ≤ k → k < ATOM_NEXT → at w k ≡ 0
  pub zeros : (k : ℕ) → TOPS ≤ k → k < PARENTS → at w k ≡ 0

-- The places of the atoms and the handles of the pairs are there, and what is read before it is written is zero.
pub record Placed (input : List ℕ) (f : File) (w : List ℕ) : Type 0 where
  pub atoms : (i : ℕ) → i < length f.atoms → AtomPlace input (at w (ATOMS + 2 * i)) (at w (ATOMS + 2 * i + 1)) (get_or f.atoms i [])
  pub lefts : (i : ℕ) → i < length f.pairs → at w (PAIRS + 2 * i) ≡ (pair_of f.pairs i).left
  pub rights : (i : ℕ) → i < length f.pairs → at w (PAIRS + 2 * i + 1) ≡ (pair_of f.pairs i).right
  pub clear : TablesClear w

-- All tables of the file are there, and from TOPS up to the parents all words are zero.
pub record Opened (input : List ℕ) (f : File) (w : List ℕ) : Type 0 where
  pub tables : Tables f w
  pub places : AtomPlaces input w
  pub atoms_there : AtomsThere input f w
  pub zeros : (k : ℕ) → TOPS ≤ k → k < PARENTS → at w k ≡ 0

-- The first step comes next; nothing is added, open or written.
abbrev pub start_at : Measure → (place : ℕ) → (forgets : Bool) → Progress
start_at m place b = record { at = place; steps = 0; adds = 0; opens = 0; depth = 0; counts = no_items; finished = false; number = 0; done = false; forgets = b; quoted = false; measure = m }
