-- What loading the atoms and the pairs of a session file leaves in a table of words, what the next step of the file is, and whether one can take back all of an add.
use Rattle.std.specs.Prelude.{ℕ, ◌+◌, ◌-◌, ◌*◌, ◌≤◌, ◌<◌, ◌≡◌, Bool, true, false, List, [], ◌∷◌, length, get_or, take, drop, Option, Some, None}
use Rattle.words.specs.Words.{at}
use Rattle.file_parts.specs.declared.session_file.NextStep.{NextStep}
use Rattle.file_parts.specs.declared.session_file.Step as code_step
use Rattle.file_parts.specs.declared.session_file.Step.TheVariants as code
use Rattle.spec_session.specs.File.{Pair, Step, add, restore, forget, quote, take_quote}
use Rattle.spec_session.specs.Places.{AtomsAt, PairsAt, StepsAt}

-- ---- atoms

-- So many atoms stand in the file, which is short.
pub record AtomsThere (input : List ℕ) (count : ℕ) : Type 0 where
  pub atoms : List (List ℕ)
  pub long : length atoms ≡ count
  pub there : AtomsAt input 7 atoms
  pub short : length input ≤ 65535

-- The bytes of an atom are those from `start` up to `end`.
pub record AtomPlace (input : List ℕ) (start end : ℕ) (b : List ℕ) : Type 0 where
  pub before : start ≤ end
  pub inside : end ≤ length input
  pub is : take (end - start) (drop start input) ≡ b

-- The first 2·n words are the n atoms' starts and ends; the others are as they were.
pub record AtomsLoaded (input : List ℕ) (xs : List (List ℕ)) (w w' : List ℕ) : Type 0 where
  pub places : (i : ℕ) → i < length xs → AtomPlace input (at w' (2 * i)) (at w' (2 * i + 1)) (get_or xs i [])
  pub others : (k : ℕ) → 2 * length xs ≤ k → at w' k ≡ at w k

-- ---- pairs

-- So many pairs stand in the file from this place on.
pub record PairsThere (input : List ℕ) (from count : ℕ) : Type 0 where
  pub pairs : List Pair
  pub long : length pairs ≡ count
  pub there : PairsAt input from pairs

-- Pair i of a list, where there is one.
abbrev pub pair_of : List Pair → ℕ → Pair
pair_of ps i = get_or ps i (record { left = 0; right = 0 })

-- The first 2·n words are the n pairs' handles, left and right; the others are as they were.
pub record PairsLoaded (ps : List Pair) (w w' : List ℕ) : Type 0 where
  pub lefts : (i : ℕ) → i < length ps → at w' (2 * i) ≡ (pair_of ps i).left
  pub rights : (i : ℕ) → i < length ps → at w' (2 * i + 1) ≡ (pair_of ps i).right
  pub others : (k : ℕ) → 2 * length ps ≤ k → at w' k ≡ at w k

-- ---- steps

-- The code's step as the definition's.
abbrev pub step_of : code_step.Step → Step
step_of (code.Add node) = add node.0
step_of (code.Restore number) = restore number
step_of (code.Forget number) = forget number
step_of (code.Quote node) = quote node.0
step_of code.Take = take_quote

-- The first of the steps, with those after it at the next place; or there is none.
abbrev pub FirstStep : List ℕ → List Step → Option NextStep → Type 0
FirstStep input ss (Some n) = (rest : List Step) × (ss ≡ step_of n.step ∷ rest) × StepsAt input n.next rest
FirstStep input ss None = ss ≡ []

-- The step after this one begins beyond it and within the file, whatever the bytes are.
abbrev pub Beyond : List ℕ → (at : ℕ) → Option NextStep → Type 0
Beyond input at (Some n) = (at < n.next) × (n.next ≤ length input)
Beyond input at None = Unit {0}

-- Whether one of the steps is a `03`, or a `04`, whose add is taken back as by a `03`.
abbrev pub forgets : List Step → Bool
forgets [] = false
forgets (add h ∷ ss) = forgets ss
forgets (restore k ∷ ss) = forgets ss
forgets (forget k ∷ ss) = true
forgets (quote h ∷ ss) = true
forgets (take_quote ∷ ss) = forgets ss
