-- What follows from the check of a session file: it tells the contents from a refusal, the loaders can be called, and each handle names a node.
-- Assumes nothing.
use Rattle.std.specs.Prelude.{ℕ, zero, suc, ◌+◌, ◌<◌, ◌≤◌, ◌≡◌, refl, List, [], ◌∷◌, length, Ok, Err}
use Rattle.std.proofs.Common.{sym, ap, subst, ◌∙◌, arith, add-zero, add-suc, suc-add}
use Rattle.file_parts.specs.declared.session_file.Checked.{Checked}
use Rattle.file_parts.specs.declared.session_file.FileError.{FileError}
use Rattle.file_parts.specs.declared.session_file.FileError.TheVariants.{InputTooLong, BadMark, FieldCut, TooMany, SmallAtomListed, BadHandle, UnknownStep}
use Rattle.file_parts.specs.Answers.{number_of}
use Rattle.spec_session.specs.File.{Got, got, refused, File, Pair}
use Rattle.spec_session.specs.Places.{PairNamed, PairsNamed}
use Rattle.file_parts.specs.Checked.{Passed, Checks}
use Rattle.file_parts.specs.Loaded.{AtomsThere, PairsThere, pair_of}

-- ---- a check passes what the definition reads, and turns down what it refuses

pub record Accepted (input : List ℕ) (c : Checked) (g : Got File) : Type 0 where
  pub file : File
  pub rest : List ℕ
  pub is : g ≡ got file rest
  pub passed : Passed input file c

pub accepted : (input : List ℕ) (c : Checked) (g : Got File) → Checks input (Ok c) g → Accepted input c g
accepted input c (got f rest) h = record { file = f; rest = rest; is = refl; passed = h }
accepted input c (refused n) h = absurd h

pub rejected : (input : List ℕ) (e : FileError) (g : Got File) → Checks input (Err e) g → g ≡ refused (number_of e)
rejected input e (got f rest) h = absurd h
rejected input e (refused n) h = ap {B = Got File} refused (sym h)

-- The number is one of 2 to 8.
pub number_low : (e : FileError) → 2 ≤ number_of e
number_low InputTooLong = omega arith
number_low BadMark = omega arith
number_low FieldCut = omega arith
number_low TooMany = omega arith
number_low SmallAtomListed = omega arith
number_low BadHandle = omega arith
number_low UnknownStep = omega arith

pub number_high : (e : FileError) → number_of e ≤ 8
number_high InputTooLong = omega arith
number_high BadMark = omega arith
number_high FieldCut = omega arith
number_high TooMany = omega arith
number_high SmallAtomListed = omega arith
number_high BadHandle = omega arith
number_high UnknownStep = omega arith

-- ---- the loaders can be called

pub atoms_to_load : {input : List ℕ} {f : File} {c : Checked} → Passed input f c → AtomsThere input c.atoms
atoms_to_load {input} {f} p = record { atoms = f.atoms; long = sym p.atoms_are; there = p.atoms_there; short = p.short }

pub pairs_to_load : {input : List ℕ} {f : File} {c : Checked} → Passed input f c → PairsThere input c.pairs_at c.pairs
pairs_to_load {input} {f} p = record { pairs = f.pairs; long = sym p.pairs_are; there = p.pairs_there }

-- ---- handles

-- Pair k names earlier pairs alone.
pub pair_named : (a i : ℕ) (ps : List Pair) → PairsNamed a i ps → (k : ℕ) → k < length ps → PairNamed a (i + k) (pair_of ps k)
pair_named a i [] h k l = absurd (omega arith)
pair_named a i (p ∷ ps) h zero l = subst (λ (n : ℕ). PairNamed a n p) (sym (add-zero i)) h.0
pair_named a i (p ∷ ps) h (suc k) l = subst (λ (n : ℕ). PairNamed a n (pair_of ps k)) (suc-add i k ∙ sym (add-suc i k)) (pair_named a (suc i) ps h.1 k (omega arith))
