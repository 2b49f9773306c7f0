-- DEMAND 3 of the session calls: one claim about a whole file, a refused last step included, from one argument that takes the measure of a path as given.
-- No step that was taken is a `02`; the last one taken is no `04`, and its first word says finished. The adds that survive keep 01's premises. Then the reading call
-- accepts the finished bytes, which are the first `size` bytes of the output at the end of the run, and gives a root whose tree is the plain filling's whole
-- tree; the bytes are those of the items that the writer makes of the surviving adds, so references stand exactly where 01's search rules put them (`write`
-- puts a reference at a subtree exactly where `find_in` gives a path), and each takes at most as many bytes as its subtree in full; and the next step, where
-- there is one, is refused, and bytes and tree stay.
-- Finished is asked of the final state: a finish that a later `03` takes back is no claim about the final output. `read_back_run` is of any steps over the
-- file, so it holds at every prefix of its own steps.
-- Assumes nothing.
use Rattle.std.specs.Prelude.{ℕ, zero, suc, ◌+◌, ◌*◌, ◌%◌, ◌^◌, ◌≤◌, ◌<◌, ◌≡◌, refl, Bool, true, List, [], ◌∷◌, ◌++◌, map, length, take}
use Rattle.std.proofs.Common.{sym, ap, ◌∙◌, subst, append-nil, append_assoc, arith}
use Rattle.std.proofs.Math.Option.{none}
use Rattle.words.specs.Lists.{All, Bytes}
use Rattle.path.specs.declared.Measure.{Measure}
use Rattle.path.specs.declared.Measure.TheVariants.{Counted, Documented}
use Rattle.path.specs.Measure.{counted, documented, measure_of}
use Rattle.spec_reading.specs.Call as read
use Rattle.spec_reading.specs.Promise.{ReadAs}
use Rattle.spec_reading.proofs.Promise.{read_as}
use Rattle.spec_session.specs.File.{File, Step, add, Limits, version_1, got, file}
use Rattle.spec_session.specs.Unfold.{unfolded}
use Rattle.spec_session.specs.Survivors.{survive, survivors}
use Rattle.spec_session.specs.Premises.{Apart, NoRestore, NoQuote, NoUndo, IfAny}
use Rattle.spec_session.specs.Items.{size_of, output}
use Rattle.spec_session.proofs.Output.{output_size}
use Rattle.spec_session.specs.Writer.{start, added, add_all}
use Rattle.spec_session.specs.Trees.{nth}
use Rattle.spec_session.specs.FindPath.{find_in}
use Rattle.spec_session.proofs.FindPathLaws.{Covers}
use Rattle.spec_session.proofs.Covering.{measure_covers}
use Rattle.spec_session.specs.Steps.{room_in, at_start, Run, run_steps}
use Rattle.spec_session.specs.Call.{Slices, Result, usable, after_run, session}
use Rattle.spec_session.proofs.CallLaws.{taken, at_front, filled_length, call_is}
use Rattle.spec_session.proofs.Theorem.{filling_stays}
use Rattle.spec_session.proofs.TheoremFile.{read_back_file}
use Rattle.spec_session.proofs.StepLaws.{run_ends, forget_survivors, Finish, run_finish, finish_last}
use Rattle.spec_session.specs.Demand3.{Demand3, Demand3Adds, Finished, ReadBack}

-- ---- the statement

-- ---- steps that are adds alone

take_adds : (n : ℕ) (hs : List ℕ) → take n (map add hs) ≡ map add (take n hs)
take_adds zero [] = refl
take_adds zero (h ∷ hs) = refl
take_adds (suc n) [] = refl
take_adds (suc n) (h ∷ hs) = ap (λ (xs : List Step). add h ∷ xs) (take_adds n hs)

survive_adds : (hs before : List ℕ) → survive (map add hs) before none ≡ before ++ hs
survive_adds [] before = sym (append-nil before)
survive_adds (h ∷ hs) before = survive_adds hs (before ++ h ∷ []) ∙ append_assoc before (h ∷ []) hs

all_adds : (P : Step → Type 0) → ((h : ℕ) → P (add h)) → (hs : List ℕ) → All P (map add hs)
all_adds P p [] = tt
all_adds P p (h ∷ hs) = (p h, all_adds P p hs)

nth_adds : (P : Step → Type 0) → ((h : ℕ) → P (add h)) → (hs : List ℕ) (k : ℕ) → IfAny P (nth (map add hs) k)
nth_adds P p [] k = tt
nth_adds P p (h ∷ hs) zero = p h
nth_adds P p (h ∷ hs) (suc k) = nth_adds P p hs k

-- ---- THE THEOREM

-- Over any limits whose atoms a prefix can carry and whose output the reading call takes, and any measure that covers a path's atom.
module _ {C : Type 0} (blank : C) (l : Limits) (carried : l.file_bytes < 2 ^ 34) (most : l.output_bytes ≤ 65535) (measure : List Bool → ℕ) (covers : Covers measure) where
  -- The run of these steps on a fresh session, over the output of these slices.
  abbrev run_in : File → List Step → Slices C → Run
  run_in f steps s = run_steps measure (usable l s) f steps at_start

  -- Any steps over a file that was read.
  pub read_back_run : (input : List ℕ) → Bytes input → (f : File) (rest : List ℕ) → file l input ≡ got f rest → (slices : Slices C) (steps : List Step) (k : ℕ)
      → suc k ≡ (run_in f steps slices).steps → All NoRestore (take (suc k) steps) → IfAny NoQuote (nth steps k) → Finished (run_in f steps slices).words k
      → Apart (map (unfolded f) (survivors (take (suc k) steps)))
      → ReadBack measure l f (survivors (take (suc k) steps)) k (nth steps (suc k)) (after_run blank (run_in f steps slices) slices)
  read_back_run input bytes f rest file-is s steps k last no_02 no_04 fin apart =
      go (run_in f steps s) last (run_ends measure (usable l s) f steps at_start).three (run_finish measure (usable l s) f steps k last no_04 fin)
    where
      go : (r : Run) → suc k ≡ r.steps → length r.words ≡ 3 * r.steps → Finish measure (usable l s) f steps k r
          → ReadBack measure l f (survivors (take (suc k) steps)) k (nth steps (suc k)) (after_run blank r s)
      go r l-is three m =
          let adds_are : add_all (find_in measure) (room_in (usable l s)) (map (unfolded f) (survivors (take (suc k) steps))) start ≡ added r.last =
          forget_survivors measure (usable l s) f (take (suc k) steps) m.reached no_02 m.walked ∙ ap added (sym m.last_is) in
          let b =
          read_back_file l carried measure covers (usable l s) (omega arith) input bytes f rest file-is (survivors (take (suc k) steps)) r.last apart adds_are m.is_finished in
          let size_is = output_size r.last.written.items in
          let front : take (size_of r.last.written.items) (read.filled s.output (output r.last.written.items)) ≡ output r.last.written.items =
          taken s.output (output r.last.written.items) (size_of r.last.written.items) size_is in
          let same : length (read.filled s.output (output r.last.written.items)) ≡ length s.output =
          filled_length s.output (output r.last.written.items) (omega (arith, size_is, b.short)) in
          record {
            made = r.last;
            wrote = rw same adds_are;
            is_finished = m.is_finished;
            size_is = size_is;
            bytes_are = front;
            tree = b.result;
            is_whole = b.is_whole;
            filling = b.filled;
            stays = λ more. filling_stays f (survivors (take (suc k) steps)) more b.result b.is_whole b.filled;
            reads =
                subst (λ (x : List ℕ). (lent : read.Slices) → read.long_enough lent ≡ true → ReadAs (read.reading x lent) b.result) (sym front)
                (read_as (output r.last.written.items) b.stored b.result (omega (arith, size_is, b.short)) b.reads b.root_named);
            items_read = b.items_read;
            no_longer = b.no_longer;
            word = at_front s.words r.words (3 * k) (omega arith) ∙ m.word_is;
            last = sym l-is;
            number_is = m.number_is;
          }

  finished_in_run : (f : File) (steps : List Step) (s : Slices C) (k : ℕ) → k < (run_in f steps s).steps → Finished (after_run blank (run_in f steps s) s).slices.words k
      → Finished (run_in f steps s).words k
  finished_in_run f steps s k h fin =
      ap (λ (n : ℕ). n % 2) (sym (at_front s.words (run_in f steps s).words (3 * k) (omega (arith, (run_ends measure (usable l s) f steps at_start).three)))) ∙ fin

  pub read_back_session : Demand3 blank l measure
  read_back_session input bytes f rest file-is s k last no_02 no_04 fin apart =
      let is = call_is blank l measure input f rest file-is s k (omega arith) in
      let last' : suc k ≡ (run_in f f.steps s).steps = last ∙ ap (λ (r : Result C). r.answer.steps) is in
      let fin' = finished_in_run f f.steps s k (omega arith) (subst (λ (r : Result C). Finished r.slices.words k) is fin) in
      subst (λ (r : Result C). ReadBack measure l f (survivors (take (suc k) f.steps)) k (nth f.steps (suc k)) r) (sym is)
      (read_back_run input bytes f rest file-is s f.steps k last' no_02 no_04 fin' apart)

  -- A step that is no `04` and whose first word says finished is the last one taken, where no undo comes next.
  pub finished_last : (input : List ℕ) (f : File) (rest : List ℕ) → file l input ≡ got f rest → (slices : Slices C) (k : ℕ)
      → k < (session blank l measure input slices).answer.steps → IfAny NoQuote (nth f.steps k) → Finished (session blank l measure input slices).slices.words k
      → IfAny NoUndo (nth f.steps (suc k)) → suc k ≡ (session blank l measure input slices).answer.steps
  finished_last input f rest file-is s k h no_04 fin no_undo =
      let is = call_is blank l measure input f rest file-is s k h in
      let h' : k < (run_in f f.steps s).steps = subst (λ (r : Result C). k < r.answer.steps) is h in
      let fin' = finished_in_run f f.steps s k h' (subst (λ (r : Result C). Finished r.slices.words k) is fin) in
      finish_last measure (usable l s) f f.steps k h' no_04 fin' no_undo ∙ sym (ap (λ (r : Result C). r.answer.steps) is)

  -- For a file of adds alone.
  pub read_back_adds : Demand3Adds blank l measure
  read_back_adds input bytes f rest file-is handles steps_are s k h fin apart =
      let no_undo : IfAny NoUndo (nth f.steps (suc k)) =
      subst (λ (xs : List Step). IfAny NoUndo (nth xs (suc k))) (sym steps_are) (nth_adds NoUndo (λ g. tt) handles (suc k)) in
      let no_04 : IfAny NoQuote (nth f.steps k) = subst (λ (xs : List Step). IfAny NoQuote (nth xs k)) (sym steps_are) (nth_adds NoQuote (λ g. tt) handles k) in
      let steps_so : take (suc k) f.steps ≡ map add (take (suc k) handles) = ap (take (suc k)) steps_are ∙ take_adds (suc k) handles in
      let no_02 : All NoRestore (take (suc k) f.steps) = subst (All NoRestore) (sym steps_so) (all_adds NoRestore (λ g. tt) (take (suc k) handles)) in
      let hs_are : survivors (take (suc k) f.steps) ≡ take (suc k) handles = ap survivors steps_so ∙ survive_adds (take (suc k) handles) [] in
      let last : suc k ≡ (session blank l measure input s).answer.steps = finished_last input f rest file-is s k h no_04 fin no_undo in
      subst (λ (xs : List Step). ReadBack measure l f (take (suc k) handles) k (nth xs (suc k)) (session blank l measure input s)) steps_are
      (subst (λ (hs : List ℕ). ReadBack measure l f hs k (nth f.steps (suc k)) (session blank l measure input s)) hs_are
      (read_back_session input bytes f rest file-is s k last no_02 no_04 fin (subst (λ (hs : List ℕ). Apart (map (unfolded f) hs)) (sym hs_are) apart)))

-- ---- the session calls

-- By either measure.
pub demand_3_of : {C : Type 0} (blank : C) (m : Measure) → Demand3 blank version_1 (measure_of m)
demand_3_of blank m = read_back_session blank version_1 (omega arith) (omega arith) (measure_of m) (measure_covers m)

pub demand_3_adds_of : {C : Type 0} (blank : C) (m : Measure) → Demand3Adds blank version_1 (measure_of m)
demand_3_adds_of blank m = read_back_adds blank version_1 (omega arith) (omega arith) (measure_of m) (measure_covers m)

-- Of 01's call, which measures by the Rust's ranges.
pub demand_3 : {C : Type 0} (blank : C) → Demand3 blank version_1 counted
demand_3 blank = demand_3_of blank Counted

pub demand_3_adds : {C : Type 0} (blank : C) → Demand3Adds blank version_1 counted
demand_3_adds blank = demand_3_adds_of blank Counted

-- Of the call that measures by the documentation.
pub demand_3_documented : {C : Type 0} (blank : C) → Demand3 blank version_1 documented
demand_3_documented blank = demand_3_of blank Documented

pub demand_3_documented_adds : {C : Type 0} (blank : C) → Demand3Adds blank version_1 documented
demand_3_documented_adds blank = demand_3_adds_of blank Documented
