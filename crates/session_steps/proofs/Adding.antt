-- An add: the state is saved, the tree entered in the cache, and written up to the next open place. What each call asks, and what the add leaves.
-- Assumes nothing.
use Prim.Native.Nat.{ℕ, suc, ◌+◌, ◌*◌, ◌≤◌, ◌<◌}
use mathlib.Core.Path.{◌≡◌, refl, sym, ap, subst, ◌∙◌}
use mathlib.Core.Bool.{Bool, true, false, cond}
use mathlib.Core.List.{List, [], ◌∷◌, ◌++◌}
use mathlib.Core.Option.{Option, none, some}
use native.Mathlib.Omega.{arith}
use lib.Dec.{ltb}
use lib.ListN.{length, set, take, length-set}
use borrow.Author.Tests.{lt-ltb}
use Rattle.words.specs.Words.{at}
use Rattle.words.specs.Lists.{All}
use Rattle.words.specs.Choice.{cond_true, clash}
use Rattle.session_state.specs.declared.checkpoints.Checkpoint.{Checkpoint}
use Rattle.path.specs.declared.Measure.{Measure}
use Rattle.path.specs.Measure.{measure_of}
use Rattle.allocator.specs.Handle.{node_of}
use Rattle.allocator.specs.declared.NodePtr.{NodePtr}
use Rattle.spec_session.specs.File.{File, Step, named}
use Rattle.spec_session.specs.Places.{StepsAt, StepNamed}
use Rattle.spec_session.specs.Unfold.{unfolded}
use Rattle.spec_session.specs.Cache.{Cache, update}
use Rattle.spec_session.specs.Writer.{Todo, Written, Session, settle}
use Rattle.spec_session.specs.Writer as writer
use Rattle.spec_session.proofs.Extends.{update_extends}
use Rattle.spec_session.specs.Steps.{room_in, add_handle, Run, after_step, run_steps}
use Rattle.file_parts.specs.Loaded.{forgets}
use Rattle.spec_session.specs.FindPath.{find_in}
use Rattle.work_layout.specs.Layout.{ATOM_COUNT, PAIR_COUNT, OPEN, STACK, WRITTEN, MOVED, MAPS, SENTINEL_ENTRY, USED, SEEN, COPIES, ENTRIES}
use Rattle.work_layout.specs.Rows.{all_counts}
use Rattle.cache_undo.specs.undo_state.Effects.{copied_open, copied_stack, copied_marks}
use Rattle.cache_stack.proofs.Stacks.{stack_same, stacked_same}
use Rattle.cache_stack.proofs.marks.Bits.{marked_same}
use Rattle.cache_entries.proofs.Frames.{tables_kept}
use Rattle.cache_entries.specs.Meaning.{Tables, Names, Whole, Holds, entry_or_none, unmapped}
use Rattle.cache_entries.specs.Effects.{Updated}
use Rattle.write_place.specs.State.{AtomPlaces, AtomsThere, todo_of, Running, Writes}
use Rattle.write_loop.specs.declared.write_turn.Next.TheVariants as next_turn
use Rattle.write_loop.specs.Effects.{place_of, Fine, goes_on, comes_to, Leads, Turns, ended}
use Rattle.write_loop.proofs.write_turn.Frames.{todo_same, rights_same, pairs_few}
use Rattle.write_place.specs.declared.Place.{Place}
use Rattle.write_place.specs.declared.Outcome.{Outcome}
use Rattle.write_place.specs.declared.Refused.{Refused}
use Rattle.write_place.specs.Numbers.{question_of}
use Rattle.std.specs.Prelude.{Result, Ok, Err}
use Rattle.write_place.specs.declared.Outcome.TheVariants as outcome
use Rattle.session_state.specs.declared.progress.Progress.{Progress}
use Rattle.path.specs.Bytes.{bit}
use Rattle.session_state.specs.Stored.{noted_words, record_of}
use Rattle.session_state.specs.Moves.{noted_at, moved_to, with_quote, after_outcome, refusal_of}
use Rattle.session_state.specs.State.{standing, whole_run, after_words, waits, At, Before, History, Stocked, Underway, Ended, slot_for, add_of}
use Rattle.session_steps.specs.Effects.{StateSaved, Adding, Added, place_at}
use Rattle.write_place.proofs.Sizes.{size_written}
use Rattle.write_place.proofs.Frames.{places_kept, atoms_kept, whole_kept, holds_kept, unmapped_kept, all_counts_kept}
use Rattle.session_state.proofs.Runs.{after_tried, tried, tried_went, add_settles, run_add, shows_tried, words_ended}
use Rattle.session_state.proofs.Answers.{same_standing}
use Rattle.session_state.proofs.States.{roomy_later, copied_kept, at_kept, history_more, go_on}

-- ---- what an add takes

-- Its handle names a node.
first_named : (b : Bool) (h : ℕ) (rest : List Step) (atoms pairs : ℕ) → All (StepNamed atoms pairs) (add_of b h ∷ rest) → named atoms pairs (node_of h) ≡ true
first_named false h rest atoms pairs a = a.0
first_named true h rest atoms pairs a = a.0

pub adding : {measure : Measure} {input : List ℕ} {f : File} {w words : List ℕ} {rows : List Checkpoint} {out : List ℕ} {p : Progress} {h : ℕ} {rest : List Step}
    (b : Bool) (u : Underway measure input f w words rows out p) → u.left ≡ add_of b h ∷ rest → p.finished ≡ false → p.adds < 16 → Adding input w out p h
adding {measure} {input} {f} {w} {words} {rows} {out} {p} {h} {rest} b u e fin few =
    let left : length u.left ≡ suc (length rest) = ap length e in
    record {
      places = u.stocked.places;
      running = subst (λ (b : Bool). Running w out p.opens p.depth p.counts (bit b)) fin u.present.running;
      names =
          rw (u.stocked.tables.atom_count, u.stocked.tables.pair_count)
          (first_named b h rest (length f.atoms) (length f.pairs) (subst (λ (x : List Step). All (StepNamed (length f.atoms) (length f.pairs)) x) e u.steps_named));
      room = omega (arith, u.stocked.room.entries, u.few_steps);
      counts = u.stocked.room.counts;
      few = few;
    }

module _ {input w out : List ℕ} {p : Progress} {h : ℕ} (ad : Adding input w out p h) {w₁ : List ℕ} (len₁ : length w₁ ≡ length w)
    (sv : StateSaved w w₁ p) where
  -- ---- the state is saved

  same₁ : (k : ℕ) → k < COPIES → at w₁ k ≡ at w k
  same₁ k l = sv.saved.low k (omega arith)

  low₁ : (k : ℕ) → k < OPEN → at w₁ k ≡ at w k
  low₁ k l = same₁ k (omega arith)

  maps₁ : (k : ℕ) → k < 1024 → at w₁ (MAPS + k) ≡ at w (MAPS + k)
  maps₁ k l = same₁ (MAPS + k) (omega arith)

  cache₁ : (k : ℕ) → USED ≤ k → k < SEEN → at w₁ k ≡ at w k
  cache₁ k a b = same₁ k (omega arith)

  whole₁ : Whole w₁
  whole₁ =
      whole_kept w w₁ len₁ low₁ maps₁ cache₁ ad.running.stands.whole
      (omega (arith, same₁ SENTINEL_ENTRY (omega arith), ad.running.stands.whole.sentinel_entry))

  room₁ : at w₁ USED + 2 * unmapped w₁ (at w₁ PAIR_COUNT) ≡ at w USED + 2 * unmapped w (at w PAIR_COUNT)
  room₁ = rw (unmapped_kept w w₁ len₁ low₁ maps₁ cache₁ ad.running.stands.whole, same₁ USED (omega arith)) refl

  -- ---- the tree is entered

  names₁ : Names w₁ (at w₁ PAIR_COUNT) h
  names₁ = rw (low₁ ATOM_COUNT (omega arith), low₁ PAIR_COUNT (omega arith)) ad.names

  pub update_asks : (Whole w₁ × Names w₁ (at w₁ PAIR_COUNT) h) × (at w₁ USED + 2 * unmapped w₁ (at w₁ PAIR_COUNT) < ENTRIES)
  update_asks = ((whole₁, names₁), omega (arith, room₁, ad.room))

  module _ {w₂ : List ℕ} (up : Updated w₁ w₂ h) where
    same₂ : (k : ℕ) → k < MOVED → at w₂ k ≡ at w k
    same₂ k l = up.below k l ∙ same₁ k (omega arith)

    pub low₂ : (k : ℕ) → k < OPEN → at w₂ k ≡ at w k
    low₂ k l = same₂ k (omega arith)

    pairs₂ : at w₂ PAIR_COUNT ≡ at w PAIR_COUNT
    pairs₂ = low₂ PAIR_COUNT (omega arith)

    -- What the bounds of the update come to.
    pub room₂ : at w₂ USED + 2 * unmapped w₂ (at w₂ PAIR_COUNT) ≤ at w USED + 2 * unmapped w (at w PAIR_COUNT) + 1
    room₂ =
        let a : unmapped w₂ (at w₂ PAIR_COUNT) ≡ unmapped w₂ (at w₁ PAIR_COUNT) = ap (λ (n : ℕ). unmapped w₂ n) (up.below PAIR_COUNT (omega arith)) in
        omega (arith, up.bounded.room, room₁)

    pub counts₂ : all_counts w₂ ENTRIES + 2 * unmapped w₂ (at w₂ PAIR_COUNT) ≤ all_counts w ENTRIES + 2 * unmapped w (at w PAIR_COUNT)
    counts₂ =
        let a : unmapped w₂ (at w₂ PAIR_COUNT) ≡ unmapped w₂ (at w₁ PAIR_COUNT) = ap (λ (n : ℕ). unmapped w₂ n) (up.below PAIR_COUNT (omega arith)) in
        let b = all_counts_kept w w₁ len₁ low₁ maps₁ cache₁ ad.running.stands.whole in
        let c = unmapped_kept w w₁ len₁ low₁ maps₁ cache₁ ad.running.stands.whole in
        omega (arith, up.bounded.counts)

    running₂ : Running w₂ out p.opens p.depth p.counts 0
    running₂ =
        let r = ad.running.stands in
        record {
          stands =
              record {
                whole = up.whole;
                stacked = stacked_same w w₂ p.depth r.stacked (λ k a b. same₂ k (omega arith));
                counts = omega (arith, counts₂, ad.counts);
                few_opens = r.few_opens;
                pairs = λ i l. let q = same₂ (OPEN + i) (omega (arith, r.few_opens)) in rw (q, pairs₂) (r.pairs i l);
                balance = rw (rights_same w w₂ p.opens (λ i l. same₂ (OPEN + i) (omega (arith, r.few_opens)))) r.balance;
              };
          fits = ad.running.fits;
          bounded = ad.running.bounded;
          short = ad.running.short;
        }

    places₂ : AtomPlaces input w₂
    places₂ = places_kept w w₂ low₂ ad.running.stands.whole.handles.few_atoms input ad.places

    names₂ : Names w₂ (at w₂ PAIR_COUNT) h
    names₂ = rw (low₂ ATOM_COUNT (omega arith), pairs₂) ad.names

    pub resume_asks : AtomPlaces input w₂ × Running w₂ out p.opens p.depth p.counts 0 × Names w₂ (at w₂ PAIR_COUNT) h
    resume_asks = (places₂, running₂, names₂)

    pub todo₂ : (f : File) → todo_of f w₂ p.opens ≡ todo_of f w p.opens
    todo₂ f =
        let r = ad.running.stands in
        todo_same f w w₂ p.opens low₂ (λ i l. same₂ (OPEN + i) (omega (arith, r.few_opens))) (pairs_few w p.opens p.depth 0 r)

    -- What the words mean once the tree is in the cache.
    pub writes₂ : (f : File) (c : Cache) (s : Written) → Tables f w → Writes f w out p.depth p.counts c s
        → Writes f w₂ out p.depth p.counts (update (unfolded f h) c) s
    writes₂ f c s t v =
        record {
          cache = up.holds f c (tables_kept w w₁ low₁ f ad.running.stands.whole.handles t) holds₁;
          stack = v.stack ∙ sym (stack_same w w₂ p.depth (λ i l. same₂ (STACK + i) (omega (arith, ad.running.stands.stacked.deep))));
          marks = λ e l. v.marks e l ∙ sym (marked_same w w₂ e l (λ i q. same₂ (WRITTEN + i) (omega arith)));
          counts_are = v.counts_are;
          bytes_are = v.bytes_are;
        }
      where
        holds₁ : Holds f w₁ c
        holds₁ =
            holds_kept w w₁ len₁ low₁ maps₁ cache₁ ad.running.stands.whole f c c.sentinel_entry t v.cache
            (v.cache.sentinel_entry ∙ ap entry_or_none (sym (same₁ SENTINEL_ENTRY (omega arith))))

-- ---- what an add leaves

module _ {measure : Measure} {input : List ℕ} {f : File} {w words : List ℕ} {rows : List Checkpoint} {out : List ℕ} {p : Progress} {node : NodePtr} (b : Bool) (next : ℕ) {rest : List Step}
    (u : Underway measure input f w words rows out p) (none_open : p.quoted ≡ false) (e : u.left ≡ add_of b node.0 ∷ rest) (there : StepsAt input next rest)
    (fin : p.finished ≡ false) (few : p.adds < 16) {w' out' : List ℕ} {q : Progress} (a : Added input w out w' out' p node q) where
  abbrev h : ℕ
  h = node.0

  abbrev s : Session
  s = u.session

  abbrev c₂ : Cache
  c₂ = update (unfolded f h) s.cache

  abbrev w₁ : List ℕ
  w₁ = a.saved_words

  abbrev rows' : List Checkpoint
  rows' = set rows p.adds (record_of w p)

  abbrev past' : List Session
  past' = u.past ++ s ∷ []

  abbrev w₂ : List ℕ
  w₂ = a.updated_words

  ad : Adding input w out p h
  ad = adding b u e fin few

  tables₂ : Tables f w₂
  tables₂ = tables_kept w w₂ (low₂ ad a.saved_long a.saved a.updated) f ad.running.stands.whole.handles u.stocked.tables

  few_atoms : at w ATOM_COUNT ≤ 1024
  few_atoms = ad.running.stands.whole.handles.few_atoms

  atoms₂ : AtomsThere input f w₂
  atoms₂ = atoms_kept w w₂ (low₂ ad a.saved_long a.saved a.updated) few_atoms input f u.stocked.tables u.stocked.atoms_there

  -- What was written, by the measure of the run.
  resumed : Turns measure input w₂ w' out out' (next_turn.Parse (place_at p) node) (ended a.outcome)
  resumed = subst (λ (x : Measure). Turns x input w₂ w' out out' (next_turn.Parse (place_at p) node) (ended a.outcome)) u.measure_is a.resumed

  meant : Leads measure f c₂ (length out) w' out' (ended a.outcome) (goes_on measure c₂ (length out) (writer.parse (unfolded f h) ∷ todo_of f w₂ p.opens) s.written)
  meant =
      resumed.leads f c₂ s.written tables₂ atoms₂
      (writes₂ ad a.saved_long a.saved a.updated f s.cache s.written u.stocked.tables u.present.writes)

  waiting : s.waiting ≡ some (todo_of f w p.opens)
  waiting = u.present.waiting ∙ ap (λ (b : Bool). waits b (todo_of f w p.opens)) fin

  -- The words and the output that stay.
  low : (k : ℕ) → k < OPEN → at w' k ≡ at w k
  low k l = a.resumed.only.low k l ∙ low₂ ad a.saved_long a.saved a.updated k l

  cached : (k : ℕ) → MOVED ≤ k → k < SEEN → at w' k ≡ at w₂ k
  cached k l m = a.resumed.only.cache k l m

  copied : (k : ℕ) → COPIES ≤ k → at w' k ≡ at w₁ k
  copied k l = a.resumed.only.high k l ∙ a.updated.above k (omega arith)

  stood : At f w out' p.opens p.depth p.counts false s
  stood =
      at_kept out out' a.out_long f w p.opens p.depth p.counts false s a.resumed.before
      (subst (λ (b : Bool). At f w out p.opens p.depth p.counts b s) fin u.present)

  -- The state before this add.
  before : Before f w' out' p.forgets (p.steps + 1) p.adds (record_of w p) s
  before =
      record {
        words_then = w;
        stood = stood;
        entry_is = refl;
        tables_same = low;
        open_pairs = λ i l. copied (copied_open p.adds + i) (omega arith) ∙ a.saved.saved.open_pairs i l;
        places = λ i l. copied (copied_stack p.adds + i) (omega arith) ∙ a.saved.saved.places i l;
        marks = λ i l. copied (copied_marks p.adds + i) (omega arith) ∙ a.saved.saved.marks i l;
        room_then = roomy_later w p.steps (p.steps + 1) (omega arith) u.stocked.room;
        cache_then = λ y.
            copied_kept w w₁ w' p.adds ad.running.stands.whole ad.running.stands.counts (λ j l m. copied j (omega arith)) (a.saved.cache y);
      }

  history : (size' : ℕ) → p.counts.size ≤ size' → History f w' out' rows' p.forgets (p.steps + 1) size' (p.adds + 1) past' c₂
  history size' l =
      history_more out out' a.out_long f w w' low p.forgets p.steps (p.steps + 1) (omega arith) rows p.counts.size p.adds u.past s.cache
      (λ j x y. copied j x ∙ a.saved.saved.low j (omega arith)) a.resumed.before u.history
      (record_of w p) s size' c₂ (omega (arith, u.many_rows)) l (omega arith) refl (update_extends (unfolded f h) s.cache) before

  known : p.forgets ≡ false → forgets rest ≡ false
  known y = go b (ap forgets (sym e) ∙ u.known y)
    where
      go : (c : Bool) → forgets (add_of c h ∷ rest) ≡ false → forgets rest ≡ false
      go false q = q
      go true q = clash cc

  -- A quote's state was saved with its cache.
  saved_cache : b ≡ true → p.forgets ≡ true
  saved_cache q = go p.forgets (λ y. ap (λ (c : Bool). forgets (add_of c h ∷ rest)) (sym q) ∙ ap forgets (sym e) ∙ u.known y)
    where
      go : (flag : Bool) → (flag ≡ false → true ≡ false) → flag ≡ true
      go true k = refl
      go false k = sym (k refl)

  slot : slot_for p.quoted u.left p.adds ≡ p.adds
  slot = (λ i. slot_for (none_open i) (e i) p.adds) ∙ go b ∙ cond_true (ltb p.adds 16) p.adds 0 (lt-ltb p.adds 16 few)
    where
      go : (c : Bool) → slot_for false (add_of c h ∷ rest) p.adds ≡ cond (ltb p.adds 16) p.adds 0
      go false = refl
      go true = refl

  -- What the definitions' add comes to.
  abbrev outcome_of : Result Outcome Refused → writer.Added
  outcome_of o = settle s c₂ (comes_to measure f c₂ (length out) w' (ended o) meant.last)

  adds : add_handle (measure_of measure) (length out') f h s ≡ outcome_of a.outcome
  adds =
      subst (λ (n : ℕ). add_handle (measure_of measure) n f h s ≡ outcome_of a.outcome) (sym a.out_long)
      (add_settles measure (length out) f u.past s h (todo_of f w p.opens) _ waiting resumes)
    where
      resumes : writer.resume (find_in (measure_of measure)) (room_in (length out)) c₂ (writer.parse (unfolded f h) ∷ todo_of f w p.opens) s.written
          ≡ comes_to measure f c₂ (length out) w' (ended a.outcome) meant.last
      resumes =
          ap (λ (k : List Todo). writer.resume (find_in (measure_of measure)) (room_in (length out)) c₂ (writer.parse (unfolded f h) ∷ k) s.written)
          (sym (todo₂ ad a.saved_long a.saved a.updated f))
          ∙ meant.same

  few_past : length u.past ≤ 15
  few_past = omega (arith, u.history.long)

  -- The run up to this add, and the add.
  run : (r : writer.Added) → add_handle (measure_of measure) (length out') f h s ≡ r → whole_run measure f (length out')
      ≡ after_words p.steps (take (3 * p.steps) words) (after_step (after_tried b h r (standing u.past s)) (λ t. run_steps (measure_of measure) (length out') f rest t))
  run r q =
      subst (λ (n : ℕ). whole_run measure f n ≡ after_words p.steps (take (3 * p.steps) words) (run_steps (measure_of measure) n f u.left (standing u.past s))) (sym a.out_long)
      (same_standing input f w words out p (record_of w p) none_open measure rows u)
      ∙ ap (λ (ss : List Step). after_words p.steps (take (3 * p.steps) words) (run_steps (measure_of measure) (length out') f ss (standing u.past s))) e
      ∙ ap (λ (y : Run). after_words p.steps (take (3 * p.steps) words) y)
      (run_add measure (length out') f u.past s b h rest (todo_of f w p.opens) r waiting few_past q)

  long₂ : length w' ≡ length w₂
  long₂ = a.long ∙ sym a.updated_long

  maps₂ : (k : ℕ) → k < 1024 → at w' (MAPS + k) ≡ at w₂ (MAPS + k)
  maps₂ k l = cached (MAPS + k) (omega arith) (omega arith)

  cache₂ : (k : ℕ) → USED ≤ k → k < SEEN → at w' k ≡ at w₂ k
  cache₂ k l m = cached k (omega arith) m

  stocked : Stocked input f w' (p.steps + 1)
  stocked =
      let un = unmapped_kept w₂ w' long₂ a.resumed.only.low maps₂ cache₂ a.updated.whole in
      let us = cached USED (omega arith) (omega arith) in
      let co = all_counts_kept w₂ w' long₂ a.resumed.only.low maps₂ cache₂ a.updated.whole in
      let r = room₂ ad a.saved_long a.saved a.updated in
      let c = counts₂ ad a.saved_long a.saved a.updated in
      record {
        places = places_kept w w' low few_atoms input u.stocked.places;
        tables = tables_kept w w' low f ad.running.stands.whole.handles u.stocked.tables;
        atoms_there = atoms_kept w w' low few_atoms input f u.stocked.tables u.stocked.atoms_there;
        room = record { entries = omega (arith, u.stocked.room.entries); counts = omega (arith, u.stocked.room.counts) };
      }

  -- The session after the add, which waits at an open place or not.
  abbrev after : Option (List Todo) → Session
  after k = record { cache = c₂; waiting = k; written = meant.last }

  abbrev WritesTo : Result Outcome Refused → Type 0
  WritesTo o = Writes f w' out' (place_of (ended o)).depth (place_of (ended o)).counts c₂ meant.last

  named_rest : All (StepNamed (length f.atoms) (length f.pairs)) rest
  named_rest = (subst (λ (x : List Step). All (StepNamed (length f.atoms) (length f.pairs)) x) e u.steps_named).1

  few_rest : p.steps + 1 + length rest ≤ 1024
  few_rest = let l : length u.left ≡ suc (length rest) = ap length e in omega (arith, u.few_steps)

  many : 16 ≤ length rows'
  many = omega (arith, length-set rows p.adds (record_of w p), u.many_rows)

  going : (pl : Place) (end : Bool) (k : Option (List Todo)) → At f w' out' pl.opens pl.depth pl.counts end (after k) → p.counts.size ≤ pl.counts.size
      → add_handle (measure_of measure) (length out') f h s ≡ writer.added (after k) → (words' : List ℕ) → words' ≡ noted_words words (moved_to p pl (p.adds + 1) end)
      → Underway measure input f w' words' rows' out' (noted_at (with_quote (moved_to p pl (p.adds + 1) end) b) next)
  going pl end k there_at longer is words' ws =
      go_on measure input f w' words words' rows' out' (with_quote (moved_to p pl (p.adds + 1) end) b) next rest past' (after k) (tried measure (length out') f u.past s b h (after k))
      there_at stocked (history pl.counts.size longer) known (omega arith) refl there named_rest few_rest many u.many_words saved_cache
      (shows_tried measure (length out') f u.past s b h (todo_of f w p.opens) (after k) waiting few_past is)
      (run (writer.added (after k)) is
      ∙ ap (λ (r : Run). after_words p.steps (take (3 * p.steps) words) r)
      (tried_went measure (length out') f u.past s b h (after k) (λ y. run_steps (measure_of measure) (length out') f rest y)))
      ws u.measure_is

  on : (o : Result Outcome Refused) → Fine w' out' (ended o) → WritesTo o → p.counts.size ≤ (place_of (ended o)).counts.size → add_handle (measure_of measure) (length out') f h s ≡ outcome_of o
      → (after_outcome p o).done ≡ false → (words' : List ℕ)
      → words' ≡ noted_words words (after_outcome p o)
      → Underway measure input f w' words' rows' out' (noted_at (with_quote (after_outcome p o) b) next)
  on (Ok (outcome.Done pl)) ends writes longer is d words' ws =
      going pl true none (record { running = ends.0; writes = writes; waiting = refl }) longer is words' ws
  on (Ok (outcome.Stopped pl)) ends writes longer is d words' ws =
      going pl false (some (todo_of f w' pl.opens)) (record { running = ends; writes = writes; waiting = refl }) longer is words' ws
  on (Err r) ends writes longer is d words' ws = clash cc

  off : (o : Result Outcome Refused) → WritesTo o → add_handle (measure_of measure) (length out') f h s ≡ outcome_of o → (after_outcome p o).done ≡ true
      → Ended measure f words out' (refusal_of b p (after_outcome p o))
  off (Ok (outcome.Done pl)) writes is d = clash cc
  off (Ok (outcome.Stopped pl)) writes is d = clash cc
  off (Err r) writes is d = go b (run _ is)
    where
      t : Session
      t = after s.waiting

      go : (c : Bool) → whole_run measure f (length out')
          ≡ after_words p.steps (take (3 * p.steps) words) (after_step (after_tried c h (writer.turned_down (question_of r.error) t) (standing u.past s))
          (λ y. run_steps (measure_of measure) (length out') f rest y))
          → Ended measure f words out' (refusal_of c p (after_outcome p (Err r)))
      go false to =
          record {
            session = t;
            size_is = size_written writes;
            bytes_are = writes.bytes_are;
            short = omega (arith, a.out_long, ad.running.short);
            few_steps = omega (arith, u.few_steps);
            many_words = u.many_words;
            same = to ∙ words_ended p.steps (take (3 * p.steps) words) (question_of r.error) t;
          }
      go true to =
          record {
            session = s;
            size_is = size_written stood.writes;
            bytes_are = stood.writes.bytes_are;
            short = omega (arith, a.out_long, ad.running.short);
            few_steps = omega (arith, u.few_steps);
            many_words = u.many_words;
            same = to ∙ words_ended p.steps (take (3 * p.steps) words) (question_of r.error) s;
          }

  -- An add that is not refused: its words are noted, and the run goes on.
  pub added_on : {words' : List ℕ} {t : Progress} → q.done ≡ false → words' ≡ noted_words words q → t ≡ noted_at (with_quote q b) next
      → Underway measure input f w' words' (set rows (slot_for p.quoted u.left p.adds) (record_of w p)) out' t
  added_on {words'} {t} d ws is =
      subst (λ (k : ℕ). Underway measure input f w' words' (set rows k (record_of w p)) out' t) (sym slot)
      (subst (λ (x : Progress). Underway measure input f w' words' rows' out' x) (sym is)
      (subst (λ (x : Progress). x.done ≡ false → words' ≡ noted_words words x
      → Underway measure input f w' words' rows' out' (noted_at (with_quote x b) next)) (sym a.is)
      (λ x y. on a.outcome a.resumed.fine meant.writes a.resumed.grows adds x words' y) d ws))

  -- A refused add ends the run, and keeps the whole items written; a refused quote keeps what was there before.
  pub added_off : {t : Progress} → q.done ≡ true → t ≡ refusal_of b p q → Ended measure f words out' t
  added_off {t} d is =
      subst (λ (x : Progress). Ended measure f words out' x) (sym is)
      (subst (λ (x : Progress). x.done ≡ true → Ended measure f words out' (refusal_of b p x)) (sym a.is) (λ x. off a.outcome meant.writes adds x) d)
