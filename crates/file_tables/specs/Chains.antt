-- The lookup of an atom by its bytes: the chains of the atoms that are the first of their bytes, and the tables while they are loaded.
use Rattle.std.specs.Prelude.{◌≡◌, ℕ, ◌+◌, ◌<◌, ◌≤◌, cond, List, length, ◌==◌}
use Rattle.words.specs.Words.{at, tabulate, WORK}
use Rattle.atom.specs.Write.{serialized_length}
use Rattle.work_layout.specs.Layout.{FIRST, ATOM_LENGTHS, ATOM_HEADS, ATOM_NEXT}
use Rattle.work_layout.specs.Rows.{prev}
use Rattle.cache_entries.specs.Meaning.{first_same}
use Rattle.file_tables.specs.Listed.{slot_of}

-- The first atom with the bytes of atom k; at the latest k itself.
unfoldable pub first_of : (ℕ → List ℕ) → ℕ → ℕ
first_of b k = first_same (b k) (tabulate k b)

-- The chain of atom k: the slot of its bytes where it is the first one with them; otherwise none.
unfoldable pub chain_of : (ℕ → List ℕ) → ℕ → ℕ
chain_of b k = cond (first_of b k == k) (slot_of (b k)) 1024

-- The first i atoms are loaded: their tables, and the chain of each slot, the last atom first.
pub record Loading (b : ℕ → List ℕ) (w : List ℕ) (i : ℕ) : Type 0 where
  pub long : WORK ≤ length w
  pub few : i ≤ 1024
  pub firsts : (k : ℕ) → k < i → at w (FIRST + k) ≡ first_of b k
  pub lengths : (k : ℕ) → k < i → at w (ATOM_LENGTHS + k) ≡ serialized_length (b k)
  pub heads : (s : ℕ) → s < 1024 → at w (ATOM_HEADS + s) ≡ prev (chain_of b) s i
  pub nexts : (k : ℕ) → k < i → first_of b k ≡ k → at w (ATOM_NEXT + k) ≡ prev (chain_of b) (slot_of (b k)) k
