-- 01's whole case as one worked example of demand 3, from the file's bytes to the tree that is read: for any slices that pass question 1, with an output of
-- twelve bytes.
-- Assumes nothing.
use Rattle.std.specs.Prelude.{ℕ, ◌≤◌, min, ◌≡◌, refl, Bool, true, ◌&&◌, List, [], ◌∷◌, ltb, length, get_or, replicate}
use Rattle.std.proofs.Common.{sym, ◌∙◌, subst, arith, ltb-true, le-leb}
use Rattle.std.proofs.Math.Path.{ap}
use Rattle.std.proofs.Math.Option.{none}
use Rattle.std.proofs.Math.ListN.{take}
use Rattle.std.proofs.lemmas.List.{length-replicate}
use Rattle.words.specs.Choice.{both_true}
use Rattle.words.specs.BigEndian.{big_endian}
use Rattle.words.specs.Words.{at}
use Rattle.words.specs.Lists.{Bytes}
use Rattle.allocator.specs.Handle.{node_of, handle_of}
use Rattle.atom.specs.Prefix.{first_width, prefix_width, encode}
use Rattle.atom.specs.Write.{serialized_length}
use Rattle.path.specs.Bytes.{path_bytes, octets}
use Rattle.path.specs.Measure.{counted}
use Rattle.spec_search.specs.Search.{walk, passes, search}
use Rattle.spec_reading.specs.Tree.{Tree, place, atom, cons}
use Rattle.spec_reading.specs.Call as read
use Rattle.spec_reading.specs.Promise.{ReadAs}
use Rattle.spec_session.specs.File.{version_1}
use Rattle.spec_session.specs.Unfold.{unfolded}
use Rattle.spec_session.proofs.Cases.{foobar, whole_case, whole_file, whole_case_is, whole_states, whole_apart}
use Rattle.spec_session.specs.Cache.{enter, update}
use Rattle.spec_session.specs.Writer.{write, resume}
use Rattle.spec_session.specs.FindPath.{find_in}
use Rattle.spec_session.specs.Steps.{Run, at_start, run_steps}
use Rattle.spec_session.specs.Call.{Answer, Slices, Result, long_enough, after_run, session}
use Rattle.spec_session.specs.Demand3.{ReadBack}
use Rattle.spec_session.proofs.Demand3.{demand_3_adds}

abbrev all_below_256 : List ℕ → Bool
all_below_256 [] = true
all_below_256 (b ∷ bs) = ltb b 256 && all_below_256 bs

tested : (bs : List ℕ) → all_below_256 bs ≡ true → Bytes bs
tested [] e = tt
tested (b ∷ bs) e = let both = both_true (ltb b 256) (all_below_256 bs) e in (ltb-true b 256 both.0, tested bs both.1)

whole_bytes : Bytes whole_case
whole_bytes = tested whole_case refl

abbrev whole_run : ℕ → Run
whole_run space = run_steps counted space whole_file whole_file.steps at_start

abbrev pub finished_bytes : List ℕ
finished_bytes = 0xff ∷ 0x86 ∷ 0x66 ∷ 0x6f ∷ 0x6f ∷ 0x62 ∷ 0x61 ∷ 0x72 ∷ 0xfe ∷ 0x02 ∷ []

module _ {C : Type 0} (blank : C) (slices : Slices C) (long : long_enough version_1 slices ≡ true) (twelve : length slices.output ≡ 12) where
  abbrev pub the_call : Result C
  the_call = session blank version_1 counted whole_case slices

  -- The call is the run of the file's two adds.
  call_is : the_call ≡ after_run blank (whole_run 12) slices
  unfolding session
  call_is = rw (long, whole_case_is) (ap (λ (n : ℕ). after_run blank (whole_run (min n 65535)) slices) twelve)

  -- Number 0, two steps, ten bytes.
  pub answer_is : the_call.answer ≡ record { number = 0; steps = 2; size = 10 }
  unfolding run_steps unfolded enter update write resume find_in walk passes search node_of handle_of serialized_length encode prefix_width first_width path_bytes octets big_endian
  answer_is = ap (λ (r : Result C). r.answer) call_is

  word_1 : at the_call.slices.words 3 ≡ 21
  unfolding run_steps unfolded enter update write resume find_in walk passes search node_of handle_of serialized_length encode prefix_width first_width path_bytes octets big_endian
  word_1 = ap (λ (r : Result C). at r.slices.words 3) call_is

  pub bytes_are : take 10 the_call.slices.output ≡ finished_bytes
  unfolding run_steps unfolded enter update write resume find_in walk passes search node_of handle_of serialized_length encode prefix_width first_width path_bytes octets big_endian
  bytes_are = ap (λ (r : Result C). take 10 r.slices.output) call_is

  -- Demand 3 of this call.
  pub whole_back : ReadBack counted version_1 whole_file (1 ∷ 0x4000000 ∷ []) 1 none the_call
  whole_back =
      demand_3_adds blank whole_case whole_bytes whole_file [] whole_case_is (1 ∷ 0x4000000 ∷ []) refl slices 1 (omega (arith, ap (λ a. a.steps) answer_is)) (omega (arith, word_1)) whole_apart

  -- Reading those ten bytes gives (foobar . foobar).
  pub whole_read : (lent : read.Slices) → read.long_enough lent ≡ true → ReadAs (read.reading finished_bytes lent) (cons (atom foobar) (atom foobar))
  whole_read lent enough =
      let read_are : take the_call.answer.size the_call.slices.output ≡ finished_bytes =
      ap (λ (a : Answer). take a.size the_call.slices.output) answer_is ∙ bytes_are in
      subst (λ (bytes : List ℕ). ReadAs (read.reading bytes lent) (cons (atom foobar) (atom foobar))) read_are
      (subst (λ (t : Tree). ReadAs (read.reading (take the_call.answer.size the_call.slices.output) lent) t) (sym whole_back.filling ∙ ap (λ (ts : List Tree). get_or ts 2 place) whole_states)
      (whole_back.reads lent enough))

-- Such slices: of 01's least lengths, whatever they hold.
module _ (work words checkpoints : ℕ) where
  abbrev pub filled_with : Slices ℕ
  filled_with = record { work = replicate work 7; words = replicate words 8; checkpoints = replicate checkpoints 9; output = replicate 12 5 }

  enough : 524288 ≤ work → 3072 ≤ words → 16 ≤ checkpoints → long_enough version_1 filled_with ≡ true
  enough a b c =
      rw (
        length-replicate {A = ℕ} work 7,
        length-replicate {A = ℕ} words 8,
        length-replicate {A = ℕ} checkpoints 9,
        le-leb 524288 work a,
        le-leb 3072 words b,
        le-leb 16 checkpoints c,
      ) refl

pub closed_back : ReadBack counted version_1 whole_file (1 ∷ 0x4000000 ∷ []) 1 none (session 0 version_1 counted whole_case (filled_with 524288 3072 16))
closed_back = whole_back 0 (filled_with 524288 3072 16) (enough 524288 3072 16 (omega arith) (omega arith) (omega arith)) refl
