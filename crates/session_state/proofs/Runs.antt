-- Laws of the definitions' run: one step of it, in the form that the code's steps take, and the words of a step.
-- Assumes nothing.
use Prim.Native.Nat.{ℕ, suc, ◌+◌, ◌*◌, ◌≤◌}
use mathlib.Core.Path.{◌≡◌, refl, sym, ap, ◌∙◌}
use mathlib.Core.Bool.{Bool, true, false}
use mathlib.Core.List.{List, [], ◌∷◌, ◌++◌, append_assoc, append-nil}
use mathlib.Core.Option.{Option, none, some}
use native.Mathlib.Omega.{arith}
use lib.Dec.{ltb}
use lib.ListN.{length, take}
use lib.Seq.{paste, take-paste}
use borrow.Author.Tests.{lt-ltb, le-ltb}
use Rattle.path.specs.declared.Measure.{Measure}
use Rattle.path.specs.Measure.{measure_of}
use Rattle.spec_session.specs.File.{File, Step, take_quote}
use Rattle.spec_session.specs.Unfold.{unfolded}
use Rattle.spec_session.specs.Cache.{update}
use Rattle.spec_session.specs.Writer.{Todo, parse, Outcome, Session, Added, added, settle, add_at, resume}
use Rattle.spec_session.specs.Steps.{room_in, State, Stepped, went, Run, finished_bit, words_of, stop_at, with_words, after_add, after_quote, unless_full}
use Rattle.spec_session.specs.Steps.{add_handle, after_step, run_step, run_steps}
use Rattle.spec_session.proofs.StepLaws.{add_went}
use Rattle.spec_session.specs.FindPath.{find_in}
use Rattle.spec_session.specs.Trees.{nth}
use Rattle.path.specs.Bytes.{bit}
use Rattle.write_counts.specs.declared.Counts.{Counts}
use Rattle.session_state.specs.Stored.{told}
use Rattle.session_state.specs.State.{standing, after_words, waits, Shows, add_of, undo_of, undone}

-- What comes of an add, or of a quote of it.
abbrev pub after_tried : (quotes : Bool) → (handle : ℕ) → Added → State → Stepped
after_tried false h a st = after_add a st
after_tried true h a st = after_quote h a st

module _ (m : Measure) (space : ℕ) (f : File) (past : List Session) (s : Session) where
  pub run_ends : run_steps (measure_of m) space f [] (standing past s) ≡ stop_at 0 s
  unfolding run_steps
  run_ends = refl

  -- Number 17.
  pub run_none_open : (steps : List Step) → run_steps (measure_of m) space f (take_quote ∷ steps) (standing past s) ≡ stop_at 17 s
  unfolding run_steps
  run_none_open steps = refl

  -- An add, or a quote of it, by its questions.
  run_tried : (b : Bool) (h : ℕ) (steps : List Step)
      → run_steps (measure_of m) space f (add_of b h ∷ steps) (standing past s)
      ≡ after_step (unless_full s.waiting (ltb 15 (length past)) s (after_tried b h (add_handle (measure_of m) space f h s) (standing past s))) (λ t. run_steps (measure_of m) space f steps t)
  unfolding run_steps
  run_tried false h steps = refl
  run_tried true h steps = refl

  -- Question 9.
  pub run_finished : (b : Bool) (h : ℕ) (steps : List Step) → s.waiting ≡ none → run_steps (measure_of m) space f (add_of b h ∷ steps) (standing past s) ≡ stop_at 9 s
  run_finished b h steps e =
      run_tried b h steps
      ∙ (λ i. after_step (unless_full (e i) (ltb 15 (length past)) s (after_tried b h (add_handle (measure_of m) space f h s) (standing past s)))
      (λ t. run_steps (measure_of m) space f steps t))

  -- Question 10.
  pub run_full : (b : Bool) (h : ℕ) (steps : List Step) (k : List Todo) → s.waiting ≡ some k → 16 ≤ length past
      → run_steps (measure_of m) space f (add_of b h ∷ steps) (standing past s) ≡ stop_at 10 s
  run_full b h steps k e l =
      let full = lt-ltb 15 (length past) (omega arith) in
      run_tried b h steps
      ∙ (λ i. after_step (unless_full (e i) (full i) s (after_tried b h (add_handle (measure_of m) space f h s) (standing past s))) (λ t. run_steps (measure_of m) space f steps t))

  -- An add at an open place.
  pub add_settles : (h : ℕ) (k : List Todo) (o : Outcome) → s.waiting ≡ some k
      → resume (find_in (measure_of m)) (room_in space) (update (unfolded f h) s.cache) (parse (unfolded f h) ∷ k) s.written ≡ o
      → add_handle (measure_of m) space f h s ≡ settle s (update (unfolded f h) s.cache) o
  add_settles h k o e q =
      (λ i. add_at (find_in (measure_of m)) (room_in space) (unfolded f h) s (e i)) ∙ ap (settle s (update (unfolded f h) s.cache)) q

  pub run_add : (b : Bool) (h : ℕ) (steps : List Step) (k : List Todo) (a : Added) → s.waiting ≡ some k → length past ≤ 15 → add_handle (measure_of m) space f h s ≡ a
      → run_steps (measure_of m) space f (add_of b h ∷ steps) (standing past s) ≡ after_step (after_tried b h a (standing past s)) (λ t. run_steps (measure_of m) space f steps t)
  run_add b h steps k a e l q =
      let room = le-ltb 15 (length past) (omega arith) in
      run_tried b h steps ∙ (λ i. after_step (unless_full (e i) (room i) s (after_tried b h (q i) (standing past s))) (λ t. run_steps (measure_of m) space f steps t))

  -- The state after an add, or a quote of it, that leads to the session t.
  abbrev pub tried : (quotes : Bool) → (handle : ℕ) → Session → State
  tried false h t = standing (past ++ s ∷ []) t
  tried true h t = record { now = s; past = past; quoted = some h }

  pub tried_went : (b : Bool) (h : ℕ) (t : Session) (next : State → Run)
      → after_step (after_tried b h (added t) (standing past s)) next ≡ with_words (words_of t) (next (tried b h t))
  tried_went false h t next = refl
  tried_went true h t next = refl

  pub shows_tried : (b : Bool) (h : ℕ) (k : List Todo) (t : Session) → s.waiting ≡ some k → length past ≤ 15 → add_handle (measure_of m) space f h s ≡ added t
      → Shows m b f space (tried b h t) (past ++ s ∷ []) t
  shows_tried false h k t e l q = refl
  shows_tried true h k t e l q = (add_went (measure_of m) space f h (tried true h t) k t e (le-ltb 15 (length past) (omega arith)) q, refl)

  -- Question 11, of an undo that forgets or not.
  pub run_beyond : (b : Bool) (n : ℕ) (steps : List Step) → nth past n ≡ none → run_steps (measure_of m) space f (undo_of b n ∷ steps) (standing past s) ≡ stop_at 11 s
  unfolding run_steps
  run_beyond false n steps e = rw e refl
  run_beyond true n steps e = rw e refl

  pub run_undo : (b : Bool) (n : ℕ) (steps : List Step) (u : Session) → nth past n ≡ some u
      → run_steps (measure_of m) space f (undo_of b n ∷ steps) (standing past s)
      ≡ with_words (words_of (undone b u s)) (run_steps (measure_of m) space f steps (standing (take n past) (undone b u s)))
  unfolding run_steps
  run_undo false n steps u e = rw e refl
  run_undo true n steps u e = rw e refl

-- ---- an open quote

module _ (m : Measure) (space : ℕ) (f : File) (st : State) where
  -- A taking that goes on.
  pub run_taking : (w : List ℕ) (t : State) (ss : List Step) → run_step (measure_of m) space f take_quote st ≡ went w t
      → run_steps (measure_of m) space f (take_quote ∷ ss) st ≡ with_words w (run_steps (measure_of m) space f ss t)
  unfolding run_steps
  run_taking w t ss e = ap (λ (x : Stepped). after_step x (λ y. run_steps (measure_of m) space f ss y)) e

-- ---- the words

pub finished_word : (b : Bool) (k : List Todo) (o : Option (List Todo)) → o ≡ waits b k → finished_bit o ≡ bit b
finished_word true k o e = rw e refl
finished_word false k o e = rw e refl

-- A step's words go to those of the n steps that are finished.
pub words_noted : (words : List ℕ) (n : ℕ) (c : Counts) (b : Bool) (r : Run) → 3 * n + 3 ≤ length words
    → after_words n (take (3 * n) words) (with_words (told c b) r) ≡ after_words (n + 1) (take (3 * (n + 1)) (paste words (3 * n) (told c b) 3)) r
words_noted words n c b r l = λ i. record { words = all i; steps = steps i; number = r.number; last = r.last }
  where
    steps : n + suc r.steps ≡ n + 1 + r.steps
    steps = omega arith

    next : 3 * (n + 1) ≡ 3 * n + 3
    next = omega arith

    front : take (3 * (n + 1)) (paste words (3 * n) (told c b) 3) ≡ take (3 * n) words ++ told c b
    front = ap (λ (k : ℕ). take k (paste words (3 * n) (told c b) 3)) next ∙ take-paste words (3 * n) (told c b) 3 (omega arith) (omega arith)

    all : take (3 * n) words ++ (told c b ++ r.words) ≡ take (3 * (n + 1)) (paste words (3 * n) (told c b) 3) ++ r.words
    all = sym (append_assoc (take (3 * n) words) (told c b) r.words) ∙ ap (λ (ws : List ℕ). ws ++ r.words) (sym front)

pub words_ended : (steps : ℕ) (words : List ℕ) (n : ℕ) (s : Session)
    → after_words steps words (stop_at n s) ≡ record { words = words; steps = steps; number = n; last = s }
words_ended steps words n s = λ i. record { words = append-nil words i; steps = same i; number = n; last = s }
  where
    same : steps + 0 ≡ steps
    same = omega arith
