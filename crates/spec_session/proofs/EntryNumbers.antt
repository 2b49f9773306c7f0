-- "Entry numbers never pass 4,096, so the parent lists hold them in 16 bits": the bound, for every file that passes questions 2 to 8.
-- Assumes nothing.
use Rattle.std.specs.Prelude.{ℕ, ◌≤◌, ◌<◌, ◌≡◌, Bool, List, [], ◌∷◌, ◌++◌, length, take}
use Rattle.std.proofs.Common.{arith, length-append, length-take}
use Rattle.spec_session.specs.File.{File, Step, add, Limits, got, file, version_1}
use Rattle.spec_session.proofs.FileLaws.{count_most, pairs_long, steps_most, parts_read}
use Rattle.spec_session.specs.Cache.{Cache}
use Rattle.spec_session.specs.Steps.{at_start, run_steps}
use Rattle.spec_session.proofs.Bounds.{adds_few, EntryNumbersFit, run_entry_numbers}

-- ---- how many pairs and steps a file that passes has, over any limits

module _ (l : Limits) (input : List ℕ) (f : File) (rest : List ℕ) (passes : file l input ≡ got f rest) where
  pub file_pairs : length f.pairs ≤ l.pairs
  file_pairs =
      let p = parts_read l input f rest passes in
      omega (
        arith,
        pairs_long (length f.atoms) p.pair_count [] p.at_pairs f.pairs p.at_sentinel p.pairs_are,
        count_most l.count_bytes l.pairs p.at_pair_count p.pair_count p.at_pairs p.pair_count_is,
      )

  pub file_steps : length f.steps ≤ l.steps
  file_steps =
      let p = parts_read l input f rest passes in
      steps_most (length p.at_steps) (length f.atoms) (length f.pairs) l.steps [] p.at_steps f.steps p.at_end (omega arith) p.steps_are

-- ---- the bound

abbrev cache_of : (measure : List Bool → ℕ) → (space : ℕ) → File → List Step → Cache
cache_of measure space f steps = (run_steps measure space f steps at_start).last.cache

-- The tree cache after the first k steps of a file, or all of them where there are no more than k, with so many bytes of output lent.
abbrev pub cache_after : (measure : List Bool → ℕ) → (space : ℕ) → File → (k : ℕ) → Cache
cache_after measure space f k = cache_of measure space f (take k f.steps)

-- The tree cache within a quote of this handle at step k, until it is dropped: that of its add in the place of the quote.
abbrev pub cache_within : (measure : List Bool → ℕ) → (space : ℕ) → File → (k handle : ℕ) → Cache
cache_within measure space f k h = cache_of measure space f (take k f.steps ++ add h ∷ [])

steps_entry_numbers : (input : List ℕ) (f : File) (rest : List ℕ) → file version_1 input ≡ got f rest → (measure : List Bool → ℕ) (space : ℕ) (steps : List Step)
    → length steps ≤ length f.steps → EntryNumbersFit (cache_of measure space f steps)
steps_entry_numbers input f rest passes measure space steps l =
    run_entry_numbers measure space f steps (file_pairs version_1 input f rest passes)
    (omega (arith, adds_few steps, file_steps version_1 input f rest passes))

-- For every file: whatever the input's bytes are, if they pass questions 2 to 8 as the file f, then after any number k of its steps there are at most 4,096
-- entries, each parent's entry number is below 4,096, and entry × 2 + position takes 16 bits. Over any measure of a path and any output.
pub file_entry_numbers : (input : List ℕ) (f : File) (rest : List ℕ) → file version_1 input ≡ got f rest → (measure : List Bool → ℕ) (space k : ℕ)
    → EntryNumbersFit (cache_after measure space f k)
file_entry_numbers input f rest passes measure space k =
    steps_entry_numbers input f rest passes measure space (take k f.steps) (omega (arith, length-take k f.steps))

-- The same within a quote, at any of its steps.
pub quote_entry_numbers : (input : List ℕ) (f : File) (rest : List ℕ) → file version_1 input ≡ got f rest → (measure : List Bool → ℕ) (space k handle : ℕ)
    → k < length f.steps → EntryNumbersFit (cache_within measure space f k handle)
quote_entry_numbers input f rest passes measure space k h l =
    steps_entry_numbers input f rest passes measure space (take k f.steps ++ add h ∷ [])
    (omega (arith, length-append (take k f.steps) (add h ∷ []), length-take k f.steps))
