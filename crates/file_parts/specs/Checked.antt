-- What the check of a session file gives, and what holds of the contents of a file that passed.
use Rattle.std.specs.Prelude.{ℕ, ◌≤◌, ◌≡◌, List, length, Result, Ok, Err}
use Rattle.words.specs.Lists.{All}
use Rattle.file_parts.specs.declared.session_file.Checked.{Checked}
use Rattle.file_parts.specs.declared.session_file.FileError.{FileError}
use Rattle.file_parts.specs.Answers.{number_of}
use Rattle.spec_session.specs.File.{Got, got, refused, File}
use Rattle.spec_session.specs.Sentinel.{sentinel_word}
use Rattle.spec_session.specs.Places.{AtomsAt, PairsAt, StepsAt, ListedAtom, PairsNamed, SentinelNamed, StepNamed}

-- The contents of a file that passed: the counts are within their limits, the listed atoms are not small, and each handle names a node.
pub record Contents (f : File) : Type 0 where
  pub few_atoms : length f.atoms ≤ 1024
  pub few_pairs : length f.pairs ≤ 1024
  pub few_steps : length f.steps ≤ 1024
  pub atoms_listed : All ListedAtom f.atoms
  pub pairs_named : PairsNamed (length f.atoms) 0 f.pairs
  pub sentinel_named : SentinelNamed (length f.atoms) (length f.pairs) f.sentinel
  pub steps_named : All (StepNamed (length f.atoms) (length f.pairs)) f.steps

-- The check of a file that passed: the counts and the sentinel, and where atoms, pairs and steps stand.
pub record Passed (input : List ℕ) (f : File) (c : Checked) : Type 0 where
  pub atoms_are : c.atoms ≡ length f.atoms
  pub pairs_are : c.pairs ≡ length f.pairs
  pub sentinel_is : c.sentinel ≡ sentinel_word f.sentinel
  pub short : length input ≤ 65535
  pub atoms_there : AtomsAt input 7 f.atoms
  pub pairs_there : PairsAt input c.pairs_at f.pairs
  pub steps_there : StepsAt input c.steps_at f.steps
  pub contents : Contents f

-- The check is what the definition says of the file: its contents, or the question's number.
abbrev pub Checks : List ℕ → Result Checked FileError → Got File → Type 0
Checks input (Ok c) (got f rest) = Passed input f c
Checks input (Ok c) (refused n) = ⊥
Checks input (Err e) (got f rest) = ⊥
Checks input (Err e) (refused n) = number_of e ≡ n
