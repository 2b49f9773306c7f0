-- THE COUNTS OF THE OUTPUT, of the session call: step k is the last one finished and no `04`, and the number is neither 12 nor 13. Then the three words of
-- step k are of the output that the call leaves: the first has its size, and the other two are what a scan of its first `size` bytes counts.
-- (An add that 12 or 13 refuses leaves further whole items in the output; a `04` leaves none of those that its words are of.)
-- Assumes nothing.
use Rattle.std.specs.Prelude.{ℕ, suc, ◌+◌, ◌*◌, ◌/◌, ◌^◌, ◌≤◌, ◌<◌, ◌≡◌, Bool, ◌≢◌, List, length, take}
use Rattle.std.proofs.Common.{sym, ap, ◌∙◌, subst, arith}
use Rattle.std.proofs.Math.Option.{Option, none, some}
use Rattle.words.specs.Lists.{All, Bytes}
use Rattle.words.specs.Words.{at}
use Rattle.path.specs.Measure.{counted}
use Rattle.spec_session.specs.File.{File, Limits, version_1, got, file}
use Rattle.spec_session.specs.Premises.{NoQuote, IfAny}
use Rattle.spec_session.specs.Items.{size_of, output}
use Rattle.spec_session.proofs.Output.{output_size}
use Rattle.spec_session.specs.Writer.{Todo, Session}
use Rattle.spec_session.specs.Trees.{nth}
use Rattle.spec_session.proofs.BytesRead.{Formed}
use Rattle.spec_session.proofs.FileAtoms.{read_atoms}
use Rattle.spec_session.specs.Steps.{finished_bit, word_of, words_of, at_start, Run, run_steps}
use Rattle.spec_session.proofs.StepLaws.{words_at, run_ends}
use Rattle.spec_session.proofs.LastWords.{last_words}
use Rattle.spec_session.specs.Call.{Slices, Result, usable, after_run, session}
use Rattle.spec_session.proofs.CallLaws.{taken, at_front, call_is}
use Rattle.spec_session.specs.Scan.{scanned_references, scanned_prefixes}
use Rattle.spec_session.proofs.ScanSteps.{scanned_words, words_scanned, last_formed}

-- What is said of step k and a session's result.
pub record CountsScanned {C : Type 0} (k : ℕ) (r : Result C) : Type 0 where
  pub size_is : at r.slices.words (3 * k) / 2 ≡ r.answer.size
  pub references_are : at r.slices.words (3 * k + 1) ≡ scanned_references (take r.answer.size r.slices.output)
  pub prefixes_are : at r.slices.words (3 * k + 2) ≡ scanned_prefixes (take r.answer.size r.slices.output)

-- The size of the first word.
halved : (s : Session) → word_of s / 2 ≡ size_of s.written.items
halved s = go s.waiting
  where
    go : (o : Option (List Todo)) → (size_of s.written.items * 2 + finished_bit o) / 2 ≡ size_of s.written.items
    go none = omega arith
    go (some k) = omega arith

-- Over any limits whose atoms a prefix can carry and whose output the reading call takes, and any measure.
module _ {C : Type 0} (blank : C) (l : Limits) (carried : l.file_bytes < 2 ^ 34) (most : l.output_bytes ≤ 65535) (measure : List Bool → ℕ) where
  -- From a run whose last words are those of its last session.
  of_run : (r : Run) (k : ℕ) (s : Slices C) → suc k ≡ r.steps → length r.words ≡ 3 * r.steps → All Formed r.last.written.items
      → words_at r.words k ≡ words_of r.last → CountsScanned k (after_run blank r s)
  of_run r k s last three formed words_are =
      let items = r.last.written.items in
      let is : words_at r.words k ≡ scanned_words r.last = words_are ∙ words_scanned r.last formed in
      let front : take (size_of items) (after_run blank r s).slices.output ≡ output items = taken s.output (output items) (size_of items) (output_size items) in
      record {
        size_is =
            ap (λ (n : ℕ). n / 2) (at_front s.words r.words (3 * k) (omega arith) ∙ ap (λ (ws : List ℕ). at ws 0) words_are) ∙ halved r.last;
        references_are =
            at_front s.words r.words (3 * k + 1) (omega arith) ∙ ap (λ (ws : List ℕ). at ws 1) is ∙ ap scanned_references (sym front);
        prefixes_are =
            at_front s.words r.words (3 * k + 2) (omega arith) ∙ ap (λ (ws : List ℕ). at ws 2) is ∙ ap scanned_prefixes (sym front);
      }

  pub counts_in_session : (input : List ℕ) → Bytes input → (f : File) (rest : List ℕ) → file l input ≡ got f rest → (slices : Slices C) (k : ℕ)
      → suc k ≡ (session blank l measure input slices).answer.steps → IfAny NoQuote (nth f.steps k)
      → (session blank l measure input slices).answer.number ≢ 12 → (session blank l measure input slices).answer.number ≢ 13
      → CountsScanned k (session blank l measure input slices)
  counts_in_session input bytes f rest file-is s k last no_04 no-12 no-13 =
      let space = usable l s in
      let is = call_is blank l measure input f rest file-is s k (omega arith) in
      let last' = last ∙ ap (λ (r : Result C). r.answer.steps) is in
      let no-12' = subst (λ (r : Result C). r.answer.number ≢ 12) is no-12 in
      let no-13' = subst (λ (r : Result C). r.answer.number ≢ 13) is no-13 in
      subst (CountsScanned k) (sym is)
      (of_run (run_steps measure space f f.steps at_start) k s last' (run_ends measure space f f.steps at_start).three
      (last_formed measure space (omega arith) f (read_atoms l carried input bytes f rest file-is) f.steps)
      (last_words measure space f f.steps k last' no_04 no-12' no-13'))

-- Of 01's call.
pub counts_scanned : {C : Type 0} (blank : C) (input : List ℕ) → Bytes input → (f : File) (rest : List ℕ) → file version_1 input ≡ got f rest → (slices : Slices C) (k : ℕ)
    → suc k ≡ (session blank version_1 counted input slices).answer.steps → IfAny NoQuote (nth f.steps k)
    → (session blank version_1 counted input slices).answer.number ≢ 12 → (session blank version_1 counted input slices).answer.number ≢ 13
    → CountsScanned k (session blank version_1 counted input slices)
counts_scanned blank = counts_in_session blank version_1 (omega arith) (omega arith) counted
