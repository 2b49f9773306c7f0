-- Of every run over a file that was read, undo and quotes included: the counts among the words of each finished step are what a scan of the bytes counts that
-- are the output after that step, or after a quote's add.
-- Assumes nothing.
use Rattle.std.specs.Prelude.{ℕ, ◌+◌, ◌*◌, ◌^◌, ◌≤◌, ◌<◌, ◌≡◌, Bool, List, [], ◌∷◌, ◌++◌, length, take}
use Rattle.std.proofs.Common.{ap, ◌∙◌, subst, arith}
use Rattle.std.proofs.Math.Option.{some}
use Rattle.words.specs.Lists.{All, all_append, all_take, Bytes}
use Rattle.spec_session.specs.File.{File, Step, add, restore, forget, quote, take_quote, Limits, got, file}
use Rattle.spec_session.specs.Unfold.{unfolded}
use Rattle.spec_session.specs.Premises.{NoQuote}
use Rattle.spec_session.specs.Items.{Item, size_of, output}
use Rattle.spec_session.proofs.Output.{output_size}
use Rattle.spec_session.specs.Writer.{Written, Session, Added, added, turned_down}
use Rattle.spec_session.specs.Trees.{nth}
use Rattle.spec_session.specs.FindPath.{find_in}
use Rattle.spec_session.proofs.FindPathLaws.{find_near}
use Rattle.spec_session.proofs.BytesRead.{Formed}
use Rattle.spec_session.proofs.Kept.{Kept, WaitingLeaves, KeptAdded, kept_add}
use Rattle.spec_session.proofs.Formed.{Atom, count_size, items_formed}
use Rattle.spec_session.proofs.FileAtoms.{unfolded_leaves, read_atoms}
use Rattle.spec_session.proofs.TheoremFile.{room_holds}
use Rattle.spec_session.specs.Steps.{room_in, finished_bit, words_of, State, at_start, Stepped, went, halted, add_handle, run_step, Run, run_steps}
use Rattle.spec_session.proofs.StepLaws.{words_at, Plain, plain_step, quote_taken, walk, Goes, walk_keeps, run_taken}
use Rattle.spec_session.proofs.Bounds.{all_nth, AddKept, StepsKept, StepKept, step_kept, run_kept}
use Rattle.spec_session.specs.Scan.{scanned_references, scanned_prefixes}
use Rattle.spec_session.proofs.ScanLaws.{references_scanned, prefix_bytes_scanned}

-- ---- the words, by the bytes

-- A session's words by the bytes of its output: their number times 2, and 1 more where it is finished; and what a scan of them counts.
abbrev pub scanned_words : Session → List ℕ
scanned_words s =
    let bytes = output s.written.items in
    (length bytes * 2 + finished_bit s.waiting) ∷ scanned_references bytes ∷ scanned_prefixes bytes ∷ []

pub words_scanned : (s : Session) → All Formed s.written.items → words_of s ≡ scanned_words s
words_scanned s f =
    let size = output_size s.written.items in
    let refs = references_scanned s.written.items f in
    let pres = prefix_bytes_scanned s.written.items f in
    λ i. (size i * 2 + finished_bit s.waiting) ∷ refs i ∷ pres i ∷ []

-- The step whose words a step has: of a quote, its add.
abbrev pub as_add : Step → Step
as_add (add h) = add h
as_add (restore n) = restore n
as_add (forget n) = forget n
as_add (quote h) = add h
as_add take_quote = take_quote

as_add_plain : (x : Step) → NoQuote (as_add x)
as_add_plain (add h) = tt
as_add_plain (restore n) = tt
as_add_plain (forget n) = tt
as_add_plain (quote h) = tt
as_add_plain take_quote = tt

module _ (measure : List Bool → ℕ) (space : ℕ) (f : File) where
  -- What is said of step k of a run: where it starts and where it leads to, a quote taken for its add, and that its words are by a scan.
  pub record StepScanned (xs : List Step) (k : ℕ) (r : Run) : Type 0 where
    pub kind : Step
    pub is : nth xs k ≡ some kind
    pub before : State
    pub after : State
    pub walked : walk measure space f (take k xs) at_start ≡ some before
    pub goes : run_step measure space f (as_add kind) before ≡ went (words_of after.now) after
    pub all_formed : All Formed after.now.written.items
    pub words_are : words_at r.words k ≡ scanned_words after.now

-- ---- every item has bytes

-- Of a file whose atoms a prefix can carry, and an output of at most 65,535 bytes.
module _ (measure : List Bool → ℕ) (space : ℕ) (most : space ≤ 65535) (f : File) (atoms_are : All Atom f.atoms) where
  abbrev Fits : List Item → Type 0
  Fits items = size_of items ≤ space

  abbrev Sound : Session → Type 0
  Sound s = Kept Atom Fits s.written × WaitingLeaves Atom s.waiting

  formed : (w : Written) → Kept Atom Fits w → All Formed w.items
  formed w h = items_formed (length w.items) (omega (arith, count_size w.items (length w.items) h.fine, h.held)) w.items h.fine

  -- Of the session and of those before the adds.
  abbrev AllSound : List Session → Session → Type 0
  AllSound past s = Sound s × All Sound past

  abbrev SoundEnd : Session → Type 0
  SoundEnd s = Kept Atom Fits s.written

  sound_add : (left : ℕ) (past : List Session) (a : Added) → All Sound past → KeptAdded Atom Fits a → AddKept measure space f (λ left. AllSound) SoundEnd left past a
  sound_add left past (added s) p h = (h, p)
  sound_add left past (turned_down n s) p h = h

  sound_steps : StepsKept measure space f (λ left. AllSound) SoundEnd
  sound_steps = record {
    stop_kept = λ left past s h. h.0.0;
    add_kept = λ g left past s k w l h.
        sound_add left (past ++ s ∷ []) (add_handle measure space f g s) (all_append Sound past (s ∷ []) h.1 (h.0, tt))
        (kept_add Atom Fits (find_in measure) (room_in space) (find_near measure) (room_holds space) (unfolded f g) s s.waiting (unfolded_leaves f atoms_are g) h.0.0 h.0.1);
    restore_kept = λ i left past u s q h. (all_nth Sound past i u h.1 q, all_take Sound i past h.1);
    forget_kept = λ i left past u s q h. (all_nth Sound past i u h.1 q, all_take Sound i past h.1);
  }

  sound_start : AllSound [] at_start.now
  sound_start = ((record { low = omega arith; fine = tt; held = omega arith }, tt), tt)

  abbrev SoundState : State → Type 0
  SoundState st = AllSound st.past st.now

  sound_step : (x : Step) (st : State) → SoundState st → Goes measure space f SoundState (run_step measure space f x st)
  sound_step x st h = go (run_step measure space f x st) (step_kept measure space f (λ left. AllSound) SoundEnd sound_steps x [] st h)
    where
      go : (y : Stepped) → StepKept measure space f (λ left. AllSound) SoundEnd 0 y → Goes measure space f SoundState y
      go (went w t) k = k
      go (halted n s) k = tt

  -- Where a run ends.
  pub last_formed : (xs : List Step) → All Formed (run_steps measure space f xs at_start).last.written.items
  last_formed xs = formed _ (run_kept measure space f (λ left. AllSound) SoundEnd sound_steps xs at_start sound_start)

  -- ---- the words of a step

  -- A finished quote has the words of its add, which would be finished too.
  told : (x : Step) (st t : State) (w : List ℕ) → run_step measure space f x st ≡ went w t → (u : State) × (run_step measure space f (as_add x) st ≡ went w u)
  told (add h) st t w e = (t, e)
  told (restore n) st t w e = (t, e)
  told (forget n) st t w e = (t, e)
  told (quote h) st t w e = let k = quote_taken measure space f h st t w e in (k.after, k.as_added)
  told take_quote st t w e = (t, e)

  steps_scanned_in : (xs : List Step) (k : ℕ) → k < (run_steps measure space f xs at_start).steps → StepScanned measure space f xs k (run_steps measure space f xs at_start)
  steps_scanned_in xs k l =
      let t = run_taken measure space f xs at_start k l in
      let u = told t.kind t.before t.after t.words t.goes in
      let plain : Plain measure space f (went t.words u.0) = subst (Plain measure space f) u.1 (plain_step measure space f (as_add t.kind) (as_add_plain t.kind) t.before) in
      let before_sound : SoundState t.before = walk_keeps measure space f SoundState sound_step (take k xs) at_start t.before sound_start t.walked in
      let sound : SoundState u.0 = subst (Goes measure space f SoundState) u.1 (sound_step (as_add t.kind) t.before before_sound) in
      let all_formed = formed u.0.now.written sound.0.0 in
      record {
        kind = t.kind;
        is = t.is;
        before = t.before;
        after = u.0;
        walked = t.walked;
        goes = u.1 ∙ ap (λ (w : List ℕ). went w u.0) plain.0;
        all_formed = all_formed;
        words_are = t.words_are ∙ plain.0 ∙ words_scanned u.0.now all_formed;
      }

-- THE WORDS OF EVERY FINISHED STEP, over any limits of the file that a prefix can carry, any measure, and any output that the reading call takes.
pub steps_scanned : (l : Limits) → l.file_bytes < 2 ^ 34 → (measure : List Bool → ℕ) (space : ℕ) → space ≤ 65535 → (input : List ℕ) → Bytes input
    → (f : File) (rest : List ℕ) → file l input ≡ got f rest → (steps : List Step) (k : ℕ) → k < (run_steps measure space f steps at_start).steps
    → StepScanned measure space f steps k (run_steps measure space f steps at_start)
steps_scanned l carried measure space most input bytes f rest file-is steps k h =
    steps_scanned_in measure space most f (read_atoms l carried input bytes f rest file-is) steps k h
