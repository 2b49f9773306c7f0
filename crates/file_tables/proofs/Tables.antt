-- From the words that loading leaves to the tables of a file whose atoms lie where the words say.
-- Assumes nothing.
use Rattle.std.proofs.Common.{◌≡◌, ℕ, ◌+◌, ◌<◌, List, [], length, get_or, ap, ◌∙◌, ext_get_or}
use Rattle.words.specs.Words.{at}
use Rattle.words.proofs.Words.{length_tabulate, get_d_tabulate}
use Rattle.atom.specs.Write.{serialized_length}
use Rattle.work_layout.specs.Layout.{FIRST, ATOM_LENGTHS}
use Rattle.cache_entries.specs.Meaning.{first_same}
use Rattle.work_layout.specs.Rows.{atom_bytes}
use Rattle.file_tables.specs.Load.{atoms, Loaded}

module _ (file w w' : List ℕ) (xs : List (List ℕ)) (are : (i : ℕ) → i < length xs → atom_bytes file w i ≡ get_or xs i []) where
  -- The atoms by their places are the listed ones.
  pub atoms_are : atoms file w (length xs) ≡ xs
  atoms_are =
      ext_get_or [] _ _ (length_tabulate (length xs) (atom_bytes file w))
      (λ i l. let p : i < length xs = rw length_tabulate at l in get_d_tabulate (length xs) (atom_bytes file w) i [] p ∙ are i p)

  module _ (L : Loaded file w w' (length xs)) where
    pub table_firsts : (i : ℕ) → i < length xs → at w' (FIRST + i) ≡ first_same (get_or xs i []) xs
    table_firsts i l = L.firsts i l ∙ rw (are i l, atoms_are)

    pub table_lengths : (i : ℕ) → i < length xs → at w' (ATOM_LENGTHS + i) ≡ serialized_length (get_or xs i [])
    table_lengths i l = L.lengths i l ∙ ap serialized_length (are i l)
