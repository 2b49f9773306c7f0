-- What stays of a state, of the states before the adds, and of the run, where other words change.
-- Assumes nothing.
use Prim.Native.Nat.{ℕ, ◌+◌, ◌*◌, ◌≤◌, ◌<◌}
use mathlib.Core.Path.{◌≡◌, sym, ap, subst, ◌∙◌}
use mathlib.Core.Logic.{◌⊎◌, inl, inr}
use mathlib.Core.Bool.{Bool, true, false}
use mathlib.Core.List.{List, [], ◌∷◌, ◌++◌}
use mathlib.Core.Option.{some}
use native.Mathlib.Omega.{arith}
use lib.ListN.{length, get_or, set, take, length-append}
use lib.Seq.{length-paste, take-take, get_or-set_same, get_or-set_other, length-take-le}
use Rattle.spec_session.proofs.Coherence.{nth_snoc}
use Rattle.words.specs.Words.{at}
use Rattle.words.specs.Lists.{All}
use Rattle.words.specs.Choice.{by_lt}
use Rattle.session_state.specs.Records.{blank}
use Rattle.session_state.specs.declared.checkpoints.Checkpoint.{Checkpoint}
use Rattle.path.specs.declared.Measure.{Measure}
use Rattle.path.specs.Measure.{measure_of}
use Rattle.spec_session.specs.File.{File, Step}
use Rattle.spec_session.specs.Places.{StepsAt, StepNamed}
use Rattle.spec_session.specs.Items.{size_of, references, prefix_bytes}
use Rattle.spec_session.specs.Writer.{Session}
use Rattle.spec_session.specs.Trees.{nth}
use Rattle.spec_session.specs.Steps.{words_of, State, with_words, run_steps}
use Rattle.spec_session.specs.Cache.{Cache}
use Rattle.spec_session.specs.Extends.{Extends}
use Rattle.spec_session.proofs.Extends.{extends_refl, extends_trans}
use Rattle.file_parts.specs.Loaded.{forgets}
use Rattle.work_layout.specs.Layout.{OPEN, COPIES, COPY, ENTRIES}
use Rattle.work_layout.specs.Rows.{all_counts, all_further}
use Rattle.work_layout.specs.Counts.{further_within, further_few}
use Rattle.cache_undo.specs.undo_state.Effects.{copied_open, copied_stack, copied_marks}
use Rattle.cache_undo.specs.cache_copy.Effects.{copied_used, copied_maps, copied_counts, copied_firsts, copied_furthers, CacheCopied}
use Rattle.cache_entries.specs.Meaning.{Whole}
use Rattle.write_counts.specs.declared.Counts.{Counts}
use Rattle.write_place.specs.State.{todo_of}
use Rattle.session_state.specs.declared.progress.Progress.{Progress}
use Rattle.session_state.specs.Moves.{noted_at, counts_in}
use Rattle.session_state.specs.Stored.{told, noted_words}
use Rattle.session_state.specs.State.{whole_run, after_words, Roomy, At, Before, size_at, History, Shows, Stocked, Underway}
use Rattle.session_state.proofs.Slots.{nth_low, nth_take}
use Rattle.session_state.proofs.Runs.{finished_word, words_noted}

-- ---- the room, and the cache of a copy

pub roomy_later : (w : List ℕ) (m n : ℕ) → m ≤ n → Roomy w m → Roomy w n
roomy_later w m n l r = record { entries = omega (arith, r.entries); counts = r.counts }

-- The copy of a cache rests on the words of its copy.
pub copied_kept : (v w w' : List ℕ) (k : ℕ) → Whole v → all_counts v ENTRIES ≤ 2048
    → ((j : ℕ) → copied_open k ≤ j → j < copied_open k + COPY → at w' j ≡ at w j) → CacheCopied v w k → CacheCopied v w' k
copied_kept v w w' k wh counts copies c = record {
  used = copies (copied_used k) (omega arith) (omega arith) ∙ c.used;
  maps = λ i l. copies (copied_maps k + i) (omega arith) (omega (arith, wh.handles.few_pairs)) ∙ c.maps i l;
  counts = λ e l. copies (copied_counts k + e) (omega arith) (omega (arith, wh.sound.used)) ∙ c.counts e l;
  firsts = λ e l. copies (copied_firsts k + e) (omega arith) (omega (arith, wh.sound.used)) ∙ c.firsts e l;
  furthers = λ e i l m.
      let b = further_within v ENTRIES e (omega (arith, wh.sound.used)) in
      let h = further_few v ENTRIES in
      copies (copied_furthers k + all_further v e + i) (omega arith) (omega arith) ∙ c.furthers e i l m;
}

-- ---- the output

module _ (out out' : List ℕ) (long : length out' ≡ length out) where
  -- A state is the same where the bytes that it wrote are.
  pub at_kept : (f : File) (w : List ℕ) (o d : ℕ) (z : Counts) (b : Bool) (s : Session) → take z.size out' ≡ take z.size out → At f w out o d z b s → At f w out' o d z b s
  at_kept f w o d z b s same a =
      let r = a.running in
      let v = a.writes in
      record {
        running =
            record {
              stands = r.stands;
              fits = omega (arith, r.fits);
              bounded = r.bounded;
              short = omega (arith, r.short);
            };
        writes = record { cache = v.cache; stack = v.stack; marks = v.marks; counts_are = v.counts_are; bytes_are = same ∙ v.bytes_are };
        waiting = a.waiting;
      }

  pub take_less : (n m : ℕ) → n ≤ m → take m out' ≡ take m out → take n out' ≡ take n out
  take_less n m l e = sym (take-take n m out' l) ∙ ap (λ (x : List ℕ). take n x) e ∙ take-take n m out l

  -- ---- the state before add k

  module _ (f : File) (w w' : List ℕ) (low : (j : ℕ) → j < OPEN → at w' j ≡ at w j) (b : Bool) (steps steps' : ℕ) (later : steps ≤ steps') where
    pub before_kept : (k : ℕ) (r : Checkpoint) (u : Session) → ((j : ℕ) → copied_open k ≤ j → j < copied_open k + COPY → at w' j ≡ at w j)
        → take r.size out' ≡ take r.size out → Before f w out b steps k r u → Before f w' out' b steps' k r u
    before_kept k r u copies same a =
        let few = a.stood.running.stands.few_opens in
        let deep = a.stood.running.stands.stacked.deep in
        record {
          words_then = a.words_then;
          stood = at_kept f a.words_then r.opens r.depth (counts_in r) false u same a.stood;
          entry_is = a.entry_is;
          tables_same = λ j l. low j l ∙ a.tables_same j l;
          open_pairs = λ i l. copies (copied_open k + i) (omega arith) (omega arith) ∙ a.open_pairs i l;
          places = λ i l. copies (copied_stack k + i) (omega arith) (omega arith) ∙ a.places i l;
          marks = λ i l. copies (copied_marks k + i) (omega arith) (omega arith) ∙ a.marks i l;
          room_then = roomy_later a.words_then steps steps' later a.room_then;
          cache_then = λ q. copied_kept a.words_then w w' k a.stood.running.stands.whole a.stood.running.stands.counts copies (a.cache_then q);
        }

    -- ---- the states before n adds

    module _ (rows : List Checkpoint) (size n : ℕ) (past : List Session) (c : Cache) (copies : (j : ℕ) → COPIES ≤ j → j < COPIES + n * COPY → at w' j ≡ at w j)
        (same : take size out' ≡ take size out) (h : History f w out rows b steps size n past c) where
      pub history_kept : (k : ℕ) (u : Session) → nth past k ≡ some u → Before f w' out' b steps' k (get_or rows k blank) u
      history_kept k u e =
          let l : k < n = omega (arith, nth_low past k u e, h.long) in
          before_kept k (get_or rows k blank) u (λ j a b. copies j (omega arith) (omega arith)) (take_less (size_at rows k) size (h.sizes k l) same) (h.befores k u e)

      -- As many adds, and the same session.
      pub history_later : History f w' out' rows b steps' size n past c
      history_later = record { long = h.long; befores = history_kept; sizes = h.sizes; ordered = h.ordered; extended = h.extended; older = h.older }

      -- Fewer adds: an undo, with the size at record n, to a cache that has the entries of those before it.
      pub history_back : (m : ℕ) → m < n → (c' : Cache) → ((k : ℕ) (u : Session) → k < m → nth past k ≡ some u → Extends u.cache c')
          → History f w' out' rows b steps' (size_at rows m) m (take m past) c'
      history_back m l c' over =
          record {
            long = length-take-le m past (omega (arith, h.long));
            befores = λ k u e. history_kept k u (nth_take m past k u e).1;
            sizes = λ k q. h.ordered k m q l;
            ordered = λ j k q r. h.ordered j k q (omega arith);
            extended = λ k u e. let t = nth_take m past k u e in over k u t.0 t.1;
            older = λ j k u v q d e. h.older j k u v q (nth_take m past j u d).1 (nth_take m past k v e).1;
          }

      -- One add more, with its record r and the session u before it, to a cache that has the entries of u's.
      pub history_more : (r : Checkpoint) (u : Session) (size' : ℕ) (c' : Cache) → n < length rows → r.size ≤ size' → size ≤ r.size → u.cache ≡ c → Extends c c'
          → Before f w' out' b steps' n r u → History f w' out' (set rows n r) b steps' size' (n + 1) (past ++ u ∷ []) c'
      history_more r u size' c' low-n le ge c-is grows now =
          record {
            long = length-append past (u ∷ []) ∙ omega (arith, h.long);
            befores = λ k v e. go k v (nth_snoc past u k v e);
            sizes = λ k q. sizes k q;
            ordered = λ j k q q'. ordered j k q q';
            extended = λ k v e. extends_trans v.cache c c' (up_to_c k v (nth_snoc past u k v e)) grows;
            older = λ j k v x q d e. older j k v x q (nth_snoc past u j v d) (nth_snoc past u k x e);
          }
        where
          here : get_or (set rows n r) n blank ≡ r
          here = get_or-set_same rows n r blank low-n

          there : (k : ℕ) → k < n → get_or (set rows n r) k blank ≡ get_or rows k blank
          there k l = get_or-set_other rows n k r blank (λ e. omega (arith, e))

          go : (k : ℕ) (v : Session) → (nth past k ≡ some v) ⊎ ((k ≡ length past) × (v ≡ u)) → Before f w' out' b steps' k (get_or (set rows n r) k blank) v
          go k v (inl e) =
              subst (λ (x : Checkpoint). Before f w' out' b steps' k x v) (sym (there k (omega (arith, nth_low past k v e, h.long)))) (history_kept k v e)
          go k v (inr e) =
              let q : n ≡ k = sym (e.0 ∙ h.long) in
              subst (λ (j : ℕ). Before f w' out' b steps' j (get_or (set rows n r) j blank) v) q
              (subst (λ (x : Checkpoint). Before f w' out' b steps' n x v) (sym here) (subst (λ (x : Session). Before f w' out' b steps' n r x) (sym e.1) now))

          up_to_c : (k : ℕ) (v : Session) → (nth past k ≡ some v) ⊎ ((k ≡ length past) × (v ≡ u)) → Extends v.cache c
          up_to_c k v (inl e) = h.extended k v e
          up_to_c k v (inr e) = subst (λ (x : Cache). Extends x c) (sym (ap (λ (x : Session). x.cache) e.1 ∙ c-is)) (extends_refl c)

          older : (j k : ℕ) (v x : Session) → j < k → (nth past j ≡ some v) ⊎ ((j ≡ length past) × (v ≡ u)) → (nth past k ≡ some x) ⊎ ((k ≡ length past) × (x ≡ u))
              → Extends v.cache x.cache
          older j k v x q (inl d) (inl e) = h.older j k v x q d e
          older j k v x q (inl d) (inr e) = subst (λ (y : Cache). Extends v.cache y) (sym (ap (λ (y : Session). y.cache) e.1 ∙ c-is)) (h.extended j v d)
          older j k v x q (inr d) (inl e) = absurd (omega (arith, d.0, nth_low past k x e))
          older j k v x q (inr d) (inr e) = absurd (omega (arith, d.0, e.0))

          size_there : (k : ℕ) → k < n → size_at (set rows n r) k ≡ size_at rows k
          size_there k l = ap (λ (x : Checkpoint). x.size) (there k l)

          size_here : size_at (set rows n r) n ≡ r.size
          size_here = ap (λ (x : Checkpoint). x.size) here

          up_to : (k : ℕ) → k < n → size_at (set rows n r) k ≤ r.size
          up_to k l = omega (arith, size_there k l, h.sizes k l)

          last : (k : ℕ) → n ≤ k → k < n + 1 → size_at (set rows n r) k ≡ r.size
          last k a b = let q : k ≡ n = omega arith in ap (λ (j : ℕ). size_at (set rows n r) j) q ∙ size_here

          sizes : (k : ℕ) → k < n + 1 → size_at (set rows n r) k ≤ size'
          sizes k l = by_lt k n (λ a. omega (arith, up_to k a)) (λ a. omega (arith, last k a l))

          ordered : (j k : ℕ) → j < k → k < n + 1 → size_at (set rows n r) j ≤ size_at (set rows n r) k
          ordered j k q l =
              by_lt k n (λ a. omega (arith, size_there j (omega arith), size_there k a, h.ordered j k q a)) (λ a. omega (arith, last k a l, up_to j (omega arith)))

-- ---- a finished step

-- The step's words are noted, and the run goes on at the next step.
pub go_on : (m : Measure) (input : List ℕ) (f : File) (w words words' : List ℕ) (rows : List Checkpoint) (out : List ℕ) (q : Progress) (next : ℕ) (rest : List Step)
    (past : List Session) (t : Session) (st : State) → At f w out q.opens q.depth q.counts q.finished t → Stocked input f w (q.steps + 1)
    → History f w out rows q.forgets (q.steps + 1) q.counts.size q.adds past t.cache
    → (q.forgets ≡ false → forgets rest ≡ false) → q.adds ≤ 16 → q.done ≡ false → StepsAt input next rest
    → All (StepNamed (length f.atoms) (length f.pairs)) rest → q.steps + 1 + length rest ≤ 1024 → 16 ≤ length rows → 3072 ≤ length words
    → (q.quoted ≡ true → q.forgets ≡ true) → Shows m q.quoted f (length out) st past t
    → whole_run m f (length out) ≡ after_words q.steps (take (3 * q.steps) words) (with_words (words_of t) (run_steps (measure_of m) (length out) f rest st))
    → words' ≡ noted_words words q → q.measure ≡ m → Underway m input f w words' rows out (noted_at q next)
go_on m input f w words words' rows out q next rest past t st a s h known few goes there named left many_rows many_words saved shown run e measured =
    record {
      left = rest;
      past = past;
      session = t;
      present = a;
      stocked = s;
      history = h;
      known = known;
      few_adds = few;
      goes = goes;
      steps_there = there;
      steps_named = named;
      few_steps = left;
      many_rows = many_rows;
      many_words = omega (arith, ap length e, length-paste words (3 * q.steps) (told q.counts q.finished) 3 (omega arith) (omega arith));
      quote_saved = saved;
      state = st;
      shown = shown;
      measure_is = measured;
      same =
          run
          ∙ ap (λ (vs : List ℕ). after_words q.steps (take (3 * q.steps) words) (with_words vs (run_steps (measure_of m) (length out) f rest st))) shown_words
          ∙ words_noted words q.steps q.counts q.finished (run_steps (measure_of m) (length out) f rest st) (omega arith)
          ∙ ap (λ (ws : List ℕ). after_words (q.steps + 1) (take (3 * (q.steps + 1)) ws) (run_steps (measure_of m) (length out) f rest st)) (sym e);
    }
  where
    shown_words : words_of t ≡ told q.counts q.finished
    shown_words =
        ap (λ (n : ℕ). (size_of t.written.items * 2 + n) ∷ references t.written.items ∷ prefix_bytes t.written.items ∷ [])
        (finished_word q.finished (todo_of f w q.opens) t.waiting a.waiting)
        ∙ ap (λ (c : Counts). told c q.finished) (sym a.writes.counts_are)
