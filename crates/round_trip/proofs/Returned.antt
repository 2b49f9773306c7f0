-- What a round trip promises, from the contracts of the two calls.
-- Assumes nothing.
use Prim.Native.Nat.{ℕ}
use mathlib.Core.Path.{◌≡◌, sym, ap, subst, ◌∙◌}
use mathlib.Core.Bool.{true, ◌&&◌}
use mathlib.Core.List.{List}
use mathlib.Core.Option.{Option}
use lib.Dec.{leb}
use lib.ListN.{length}
use Rattle.words.specs.Words.{WORK}
use Rattle.spec_reading.specs.Call as read
use Rattle.spec_reading.specs.Promise.{ReadAs}
use Rattle.read_answer.specs.Answer.{slices as store_slices}
use Rattle.path.specs.Measure.{counted}
use Rattle.spec_session.specs.File.{File, Step, version_1}
use Rattle.spec_session.specs.Demand3.{ReadBack}
use Rattle.spec_session.specs.Call.{Result}
use Rattle.session_state.specs.declared.checkpoints.Checkpoint.{Checkpoint}
use Rattle.session_answer.specs.declared.SessionAnswer.{SessionAnswer}
use Rattle.read_answer.specs.declared.ReadAnswer.{ReadAnswer}
use Rattle.session_call.specs.Outcome.{result_of, ReadsBack}
use Rattle.round_trip.specs.declared.RoundTrip.{RoundTrip}
use Rattle.round_trip.specs.RoundTrip.{Lists, the_session, the_reading, read_of, ReadWhole, RoundTrips, session_of, Trip}

-- Question 1 asks only for lengths.
same_enough : (w w' p a b : List ℕ) → length w' ≡ length w → read.long_enough (store_slices w p a b) ≡ true → read.long_enough (store_slices w' p a b) ≡ true
same_enough w w' p a b e h =
    ap (λ (n : ℕ). leb WORK n && (leb 262144 (length p) && (leb 131072 (length a) && leb 65536 (length b)))) e ∙ h

-- The session gave s and left this work; the reading of s's bytes with that work gave r.
module _ (input : List ℕ) (before after : Lists) (work : List ℕ) (s : SessionAnswer) (r : ReadAnswer) where
  abbrev t : Result Checkpoint
  t = result_of s work after.words after.checkpoints after.output

  abbrev both : RoundTrip
  both = record { session = s; read = r }

  module _ (ran : t ≡ the_session input before) (was_read : read_of both after ≡ the_reading t before) (back : ReadsBack counted input t) (same : length work ≡ length before.work) where
    -- What was read is the tree of what reads back.
    whole : {f : File} {handles : List ℕ} {k : ℕ} {next : Option Step} → read.long_enough (store_slices before.work before.pairs before.atoms before.bytes) ≡ true
        → ReadBack counted version_1 f handles k next t → ReadWhole f handles k next t (read_of both after)
    whole long m = record {
      back = m;
      reads =
          subst (λ (x : read.Result). ReadAs x m.tree) (sym was_read)
          (m.reads (store_slices work before.pairs before.atoms before.bytes)
          (same_enough before.work work before.pairs before.atoms before.bytes same long));
    }

    whole_read : RoundTrips input (store_slices before.work before.pairs before.atoms before.bytes) t (read_of both after)
    whole_read long f rest is =
        let c = back f rest is in
        (λ k last no_02 no_04 finished apart. whole long (c.0 k last no_02 no_04 finished apart), λ hs steps k h finished apart. whole long (c.1 hs steps k h finished apart))

    -- The work that the session left is the definition's.
    same_work : t ≡ session_of input before after both
    same_work = ap (λ (x : Result Checkpoint). result_of s x.slices.work after.words after.checkpoints after.output) ran

    pub trip : Trip input before after both
    trip = record {
      ran = sym same_work ∙ ran;
      was_read = was_read ∙ ap (λ (x : Result Checkpoint). the_reading x before) ran;
      returned =
          subst (λ (x : Result Checkpoint). RoundTrips input (store_slices before.work before.pairs before.atoms before.bytes) x (read_of both after))
          same_work whole_read;
    }
