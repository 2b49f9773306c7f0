-- A session, and its finished bytes read: what each of the two calls gives, and the tree that comes back.
use Rattle.std.specs.Prelude.{ℕ, ◌≡◌, true, List, take}
use Rattle.std.proofs.Math.Option.{Option}
use Rattle.path.specs.Measure.{counted}
use Rattle.spec_reading.specs.Call as read
use Rattle.spec_reading.specs.Promise.{ReadAs}
use Rattle.spec_session.specs.File.{File, Step, version_1, got, file}
use Rattle.spec_session.specs.Demand3.{ReadBack}
use Rattle.spec_session.specs.Call.{Result, session}
use Rattle.session_state.specs.declared.checkpoints.Checkpoint.{Checkpoint}
use Rattle.session_state.specs.Records.{blank}
use Rattle.read_answer.specs.Answer.{slices as store_slices}
use Rattle.read_call.specs.Outcome.{read_result_of}
use Rattle.session_call.specs.Outcome.{slices, result_of, Claimed}
use Rattle.round_trip.specs.declared.RoundTrip.{RoundTrip}

-- All lists that are lent: the session's, and three more for the reading, which gets the session's work too.
pub record Lists : Type 0 where
  pub work : List ℕ
  pub words : List ℕ
  pub checkpoints : List Checkpoint
  pub output : List ℕ
  pub pairs : List ℕ
  pub atoms : List ℕ
  pub bytes : List ℕ

abbrev pub lists : (work words : List ℕ) (checkpoints : List Checkpoint) (output pairs atoms bytes : List ℕ) → Lists
lists w ws cs o p a b = record { work = w; words = ws; checkpoints = cs; output = o; pairs = p; atoms = a; bytes = b }

-- The session of a file's bytes, with 01's limits.
abbrev pub the_session : (input : List ℕ) → Lists → Result Checkpoint
the_session input l = session blank version_1 counted input (slices l.work l.words l.checkpoints l.output)

-- The reading of the first `size` bytes of a session's output, with the work that the session left.
abbrev pub the_reading : Result Checkpoint → Lists → read.Result
the_reading r l = read.reading (take r.answer.size r.slices.output) (store_slices r.slices.work l.pairs l.atoms l.bytes)

-- What was read, and is in the slices.
abbrev pub read_of : RoundTrip → Lists → read.Result
read_of r l = read_result_of r.read l.work l.pairs l.atoms l.bytes

-- What demand 3 says of the session's result s, and that what was read is its tree: the number is 0, and the root names it in the slices.
pub record ReadWhole (f : File) (handles : List ℕ) (k : ℕ) (next : Option Step) (s : Result Checkpoint) (r : read.Result) : Type 0 where
  pub back : ReadBack counted version_1 f handles k next s
  pub reads : ReadAs r back.tree

-- THE PROMISE, of a session's result s and of what was read. The reading's slices pass question 1. Wherever demand 3 makes its claim, the plain filling's whole
-- tree was read, and references stand exactly where the search rules put them.
abbrev pub RoundTrips : (input : List ℕ) (lent : read.Slices) → Result Checkpoint → read.Result → Type 0
RoundTrips input lent s r =
    read.long_enough lent ≡ true → (f : File) (rest : List ℕ) → file version_1 input ≡ got f rest → Claimed f s (λ handles k next. ReadWhole f handles k next s r)

-- The session's answer and slices. Its work is the definition's: the reading used it since.
abbrev pub session_of : (input : List ℕ) (before after : Lists) → RoundTrip → Result Checkpoint
session_of input before after r = result_of r.session (the_session input before).slices.work after.words after.checkpoints after.output

-- What a round trip promises of the lists before and after it.
pub record Trip (input : List ℕ) (before after : Lists) (r : RoundTrip) : Type 0 where
  -- The session gave what its definition says.
  pub ran : session_of input before after r ≡ the_session input before
  -- The reading of its bytes gave what its definition says.
  pub was_read : read_of r after ≡ the_reading (the_session input before) before
  -- What was read is the plain filling's tree.
  pub returned : RoundTrips input (store_slices before.work before.pairs before.atoms before.bytes) (session_of input before after r) (read_of r after)
