-- What the session call's answer and slices mean, in the terms of the definition.
use Rattle.std.specs.Prelude.{ℕ, suc, ◌<◌, ◌≡◌, Bool, List, map, take}
use Rattle.std.proofs.Math.Option.{Option}
use Rattle.words.specs.Lists.{All}
use Rattle.spec_session.specs.File.{File, Step, add, version_1, got, file}
use Rattle.spec_session.specs.Unfold.{unfolded}
use Rattle.spec_session.specs.Survivors.{survivors}
use Rattle.spec_session.specs.Premises.{Apart, NoRestore, NoQuote, IfAny}
use Rattle.spec_session.specs.Trees.{nth}
use Rattle.spec_session.specs.Demand3.{Finished, ReadBack}
use Rattle.spec_session.specs.Call.{Slices, Result}
use Rattle.session_state.specs.declared.checkpoints.Checkpoint.{Checkpoint}
use Rattle.session_answer.specs.declared.SessionAnswer.{SessionAnswer}
use Rattle.session_answer.specs.Answer.{answer_of}

abbrev pub slices : (work words : List ℕ) (checkpoints : List Checkpoint) (output : List ℕ) → Slices Checkpoint
slices w ws cs o = record { work = w; words = ws; checkpoints = cs; output = o }

abbrev pub result_of : SessionAnswer → (work words : List ℕ) (checkpoints : List Checkpoint) (output : List ℕ) → Result Checkpoint
result_of r w ws cs o = record { answer = answer_of r; slices = slices w ws cs o }

-- Where demand 3 makes a claim of the result r of a session of the file f: of the adds that count, of the step k that finishes, and of the step after it, if
-- there is one. First, of files whose finished steps have no `02` among them: step k is the last finished one and no quote, its first word says finished,
-- and the adds that survive keep 01's premises. Second, of files with add steps only: the first word of add k says finished, and the adds up to it keep 01's premises.
abbrev pub Claimed : (f : File) → Result Checkpoint → ((handles : List ℕ) → (k : ℕ) → (next : Option Step) → Type 0) → Type 0
Claimed f r P =
    ((k : ℕ) → suc k ≡ r.answer.steps → All NoRestore (take (suc k) f.steps) → IfAny NoQuote (nth f.steps k)
    → Finished r.slices.words k → Apart (map (unfolded f) (survivors (take (suc k) f.steps))) → P (survivors (take (suc k) f.steps)) k (nth f.steps (suc k)))
    × ((handles : List ℕ) → f.steps ≡ map add handles → (k : ℕ) → k < r.answer.steps → Finished r.slices.words k
    → Apart (map (unfolded f) (take (suc k) handles)) → P (take (suc k) handles) k (nth (map add handles) (suc k)))

-- DEMAND 3, of the result r of a call with these bytes, by this measure of a path: reading the finished bytes gives the plain filling's whole tree, references stand exactly where the
-- search rules put them, and all else that `ReadBack` says.
abbrev pub ReadsBack : (measure : List Bool → ℕ) → (input : List ℕ) → Result Checkpoint → Type 0
ReadsBack measure input r =
    (f : File) (rest : List ℕ) → file version_1 input ≡ got f rest → Claimed f r (λ handles k next. ReadBack measure version_1 f handles k next r)
