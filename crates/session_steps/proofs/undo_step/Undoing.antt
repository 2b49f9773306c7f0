-- An undo: the state before an add is the present one again. A restore leaves entries, parents and the handles mapped; a forget puts back the whole cache.
-- Assumes nothing.
use Prim.Native.Nat.{ℕ, zero, suc, ◌+◌, ◌*◌, ◌≤◌, ◌<◌}
use mathlib.Core.Path.{◌≡◌, refl, sym, ap, subst, ◌∙◌}
use mathlib.Core.Bool.{Bool, true, false, cond}
use mathlib.Core.List.{List, ◌∷◌}
use mathlib.Core.Option.{Option, some}
use lib.Seq.{get_or-set_same, get_or-set_other, set-get_or}
use native.Mathlib.Omega.{arith}
use lib.Dec.{ltb}
use lib.ListN.{length, get_or, set, take}
use borrow.Author.Tests.{lt-ltb}
use Rattle.words.specs.Words.{at, WORK}
use Rattle.words.specs.Lists.{All}
use Rattle.words.specs.Choice.{cond_true, clash}
use Rattle.session_state.specs.Records.{blank}
use Rattle.session_state.specs.declared.checkpoints.Checkpoint.{Checkpoint}
use Rattle.path.specs.declared.Measure.{Measure}
use Rattle.path.specs.Measure.{measure_of}
use Rattle.spec_session.specs.File.{File, Step}
use Rattle.spec_session.specs.Places.{StepsAt, StepNamed}
use Rattle.spec_session.specs.Cache.{Cache}
use Rattle.spec_session.specs.Extends.{Extends}
use Rattle.spec_session.specs.Writer.{Todo, Session}
use Rattle.spec_session.specs.Trees.{nth}
use Rattle.spec_session.specs.Steps.{or_known, Run, with_words, words_of, run_steps}
use Rattle.file_parts.specs.Loaded.{forgets}
use Rattle.work_layout.specs.Layout.{PAIR_COUNT, OPEN, STACK, WRITTEN, MAPS, SENTINEL_ENTRY, USED, SEEN, ENTRIES, DEPTH}
use Rattle.work_layout.specs.Rows.{all_counts}
use Rattle.cache_stack.specs.Effects.{Stacked}
use Rattle.cache_stack.proofs.Stacks.{stack_same, stacked_same}
use Rattle.cache_stack.proofs.marks.Bits.{marked_same}
use Rattle.cache_undo.specs.undo_state.Effects.{copied_stack}
use Rattle.cache_undo.specs.cache_copy.Effects.{Bringable}
use Rattle.cache_entries.specs.Effects.{Outside}
use Rattle.cache_entries.specs.Meaning.{Whole, Holds, entry_or_none}
use Rattle.cache_entries.proofs.Frames.{tables_kept}
use Rattle.write_place.specs.State.{todo_of, Running, Writes}
use Rattle.write_loop.proofs.write_turn.Frames.{todo_same, rights_same, pairs_few}
use Rattle.session_state.specs.declared.progress.Progress.{Progress}
use Rattle.write_counts.specs.Counts.{Bounded}
use Rattle.session_state.specs.Stored.{noted_words, with_entry}
use Rattle.session_state.specs.Moves.{noted_at, counts_in, undone_at}
use Rattle.session_state.specs.State.{standing, whole_run, after_words, Roomy, At, Before, History, Stocked, Underway, slot_for, undo_of, undone}
use Rattle.session_steps.specs.undo_step.Effects.{Brings, CacheBack, Undoing, Undone}
use Rattle.session_state.proofs.Slots.{Found, nth_found}
use Rattle.write_place.proofs.Frames.{places_kept, atoms_kept, whole_kept, holds_kept, unmapped_kept, all_counts_kept}
use Rattle.session_state.proofs.Runs.{run_undo}
use Rattle.session_state.proofs.States.{roomy_later, history_back, go_on}
use Rattle.session_state.proofs.Answers.{same_standing}
use Rattle.session_steps.proofs.undo_step.Forgetting.{used_more, again, whole_again, roomy_again, few_again, holds_again}

-- ---- the sentinel's entry, of a restore

entry_other : (v : List ℕ) (r k : ℕ) → (k ≡ SENTINEL_ENTRY → ⊥) → at (with_entry v r) k ≡ at v k
entry_other v zero k n = refl
entry_other v (suc e) k n = get_or-set_other v SENTINEL_ENTRY k (suc e) 0 n

entry_known : (v : List ℕ) (r : ℕ) → WORK ≤ length v
    → or_known (entry_or_none r) (entry_or_none (at v SENTINEL_ENTRY)) ≡ entry_or_none (at (with_entry v r) SENTINEL_ENTRY)
entry_known v zero l = refl
entry_known v (suc e) l = ap entry_or_none (sym (get_or-set_same v SENTINEL_ENTRY (suc e) 0 (omega arith)))

entry_low : (v : List ℕ) (r n : ℕ) → WORK ≤ length v → r ≤ n → at v SENTINEL_ENTRY ≤ n → at (with_entry v r) SENTINEL_ENTRY ≤ n
entry_low v zero n l a b = b
entry_low v (suc e) n l a b = omega (arith, get_or-set_same v SENTINEL_ENTRY (suc e) 0 (omega arith))

-- ---- the words that the cache's part of an undo leaves

pub cache_outside : (b : Bool) (w x : List ℕ) (n : ℕ) (r : Checkpoint) → Brings b w n → CacheBack b w x n r → Outside w x
cache_outside false w x n r q a = record { below = λ k l. same k (λ z. omega (arith, z)); above = λ k l. same k (λ z. omega (arith, z)) }
  where
    same : (k : ℕ) → (k ≡ SENTINEL_ENTRY → ⊥) → at x k ≡ at w k
    same k z = ap (λ (y : List ℕ). at y k) a ∙ entry_other w r.sentinel k z
cache_outside true w x n r q a =
    let g = a q.1 q.2 in
    record { below = λ k l. same k (λ z. omega (arith, z)) ∙ g.brought.low k l; above = λ k l. same k (λ z. omega (arith, z)) ∙ g.brought.high k l }
  where
    same : (k : ℕ) → (k ≡ SENTINEL_ENTRY → ⊥) → at x k ≡ at (a q.1 q.2).brought_words k
    same k z =
        let g = a q.1 q.2 in ap (λ (y : List ℕ). at y k) g.is ∙ get_or-set_other g.brought_words SENTINEL_ENTRY k r.sentinel 0 z

-- What restoring stack and marks asks then.
pub restore_asks : (b : Bool) {w x : List ℕ} {depth n : ℕ} {r : Checkpoint} → Undoing b w depth n r → length x ≡ length w → CacheBack b w x n r
    → (WORK ≤ length x) × Stacked x depth × (n < 16) × (r.opens ≤ 4096) × (r.depth ≤ DEPTH) × ((i : ℕ) → i < r.depth → at x (copied_stack n + i) < ENTRIES)
restore_asks b {w} {x} {depth} {n} {r} u long a =
    let o = cache_outside b w x n r u.cache a in (
      omega (arith, u.long),
      stacked_same w x depth u.stacked (λ k l m. o.below k (omega arith)),
      u.few,
      u.few_opens,
      u.deep,
      λ i l. omega (arith, o.above (copied_stack n + i) (omega arith), u.entries i l),
    )

-- ---- an undo: the state before add n, of which record n and copy n are kept

module _ {measure : Measure} {input : List ℕ} {f : File} {w words : List ℕ} {rows : List Checkpoint} {out : List ℕ} {p : Progress} (b : Bool) {n : ℕ}
    (u : Underway measure input f w words rows out p) (few : n < p.adds) {r : Checkpoint} (row : get_or rows n blank ≡ r) (flag : b ≡ true → p.forgets ≡ true) where
  -- The session before add n.
  pub found : Found u.past n
  found = nth_found u.past n (omega (arith, u.history.long))

  abbrev pub was : Session
  was = found.value

  before : Before f w out p.forgets p.steps n r was
  before = subst (λ (x : Checkpoint). Before f w out p.forgets p.steps n x was) row (u.history.befores n was found.is)

  -- What the record counts fits.
  pub fits_then : (r.size ≤ 65535) × Bounded (counts_in r)
  fits_then = (omega (arith, before.stood.running.fits, before.stood.running.short), before.stood.running.bounded)

  abbrev then : List ℕ
  then = before.words_then

  wh : Whole w
  wh = u.present.running.stands.whole

  whole_then : Whole then
  whole_then = before.stood.running.stands.whole

  grown : Extends was.cache u.session.cache
  grown = u.history.extended n was found.is

  more_used : at then USED ≤ at w USED
  more_used = used_more f then w was.cache u.session.cache before.stood.writes.cache u.present.writes.cache grown

  -- A forget finds the cache in the copy.
  bringable : b ≡ true → Bringable then w n
  bringable q =
      record {
        copied = before.cache_then (flag q);
        then_sound = whole_then.sound;
        then_few = before.stood.running.stands.counts;
        sound = wh.sound;
        fewer = more_used;
        pairs = before.tables_same PAIR_COUNT (omega arith);
        few_pairs = wh.handles.few_pairs;
      }

  -- What the undo takes.
  pub undoing : Undoing b w p.depth n r
  undoing =
      record {
        long = wh.sound.long;
        stacked = u.present.running.stands.stacked;
        few = omega (arith, u.few_adds);
        few_opens = before.stood.running.stands.few_opens;
        deep = before.stood.running.stands.stacked.deep;
        entries = λ i l. rw (before.places i l) (before.stood.running.stands.stacked.entries i l);
        cache = brings b bringable;
      }
    where
      brings : (c : Bool) → (c ≡ true → Bringable then w n) → Brings c w n
      brings false g = tt
      brings true g = (omega (arith, u.few_adds), then, g refl)

  module _ {w' : List ℕ} (long : length w' ≡ length w) (a : Undone b w w' n r) (later : ℕ) (le : p.steps ≤ later) where
    abbrev x : List ℕ
    x = a.cache_words

    outside : Outside w x
    outside = cache_outside b w x n r undoing.cache a.cache

    low : (k : ℕ) → k < OPEN → at w' k ≡ at w k
    low k l = a.restored.low k l ∙ outside.below k (omega arith)

    tables_then : (k : ℕ) → k < OPEN → at w' k ≡ at then k
    tables_then k l = low k l ∙ before.tables_same k l

    -- The open pairs, the stack and the marks are those of that time.
    open_same : (i : ℕ) → i < r.opens → at w' (OPEN + i) ≡ at then (OPEN + i)
    open_same i l = a.restored.open_pairs i l ∙ outside.above _ (omega arith) ∙ before.open_pairs i l

    place_same : (i : ℕ) → i < r.depth → at w' (STACK + i) ≡ at then (STACK + i)
    place_same i l = a.restored.places i l ∙ outside.above _ (omega arith) ∙ before.places i l

    mark_same : (i : ℕ) → i < 96 → at w' (WRITTEN + i) ≡ at then (WRITTEN + i)
    mark_same i l = a.restored.marks i l ∙ outside.above _ (omega arith) ∙ before.marks i l

    -- ---- the cache

    -- The words hold the cache c, and there is room in it.
    record CacheIs (c : Cache) : Type 0 where
      whole : Whole w'
      holds : Holds f w' c
      counts : all_counts w' ENTRIES ≤ 2048
      room : Roomy w' later

    -- After a restore: that of before, but for the sentinel's entry.
    cache_kept : x ≡ with_entry w r.sentinel → CacheIs (undone false was u.session).cache
    cache_kept is =
        let un = unmapped_kept w w' long low maps cache wh in
        let us = cache USED (omega arith) (omega arith) in
        let co = all_counts_kept w w' long low maps cache wh in
        record {
          whole = whole_kept w w' long low maps cache wh (omega (arith, entry_at, entry_low w r.sentinel (at w USED) wh.sound.long old_entry wh.sentinel_entry));
          holds =
              holds_kept w w' long low maps cache wh f u.session.cache (or_known was.cache.sentinel_entry u.session.cache.sentinel_entry) u.stocked.tables
              u.present.writes.cache known;
          counts = omega (arith, u.present.running.stands.counts);
          room = record { entries = omega (arith, u.stocked.room.entries); counts = omega (arith, u.stocked.room.counts) };
        }
      where
        other : (k : ℕ) → MAPS ≤ k → (k ≡ SENTINEL_ENTRY → ⊥) → at w' k ≡ at w k
        other k l q = a.restored.high k (omega arith) ∙ ap (λ (y : List ℕ). at y k) is ∙ entry_other w r.sentinel k q

        maps : (k : ℕ) → k < 1024 → at w' (MAPS + k) ≡ at w (MAPS + k)
        maps k l = other (MAPS + k) (omega arith) (λ q. omega (arith, q))

        cache : (k : ℕ) → USED ≤ k → k < SEEN → at w' k ≡ at w k
        cache k l m = other k (omega arith) (λ q. omega (arith, q))

        entry_at : at w' SENTINEL_ENTRY ≡ at (with_entry w r.sentinel) SENTINEL_ENTRY
        entry_at = a.restored.high SENTINEL_ENTRY (omega arith) ∙ ap (λ (y : List ℕ). at y SENTINEL_ENTRY) is

        old_entry : r.sentinel ≤ at w USED
        old_entry = omega (arith, before.entry_is, whole_then.sentinel_entry, more_used)

        known : or_known was.cache.sentinel_entry u.session.cache.sentinel_entry ≡ entry_or_none (at w' SENTINEL_ENTRY)
        known =
            ap (λ (o : Option ℕ). or_known o u.session.cache.sentinel_entry) (before.stood.writes.cache.sentinel_entry ∙ ap entry_or_none (sym before.entry_is))
            ∙ ap (or_known (entry_or_none r.sentinel)) u.present.writes.cache.sentinel_entry
            ∙ entry_known w r.sentinel wh.sound.long
            ∙ ap entry_or_none (sym entry_at)

    -- After a forget: that of that time.
    cache_again : CacheBack true w x n r → Bringable then w n → CacheIs (undone true was u.session).cache
    cache_again back q =
        let g =
        again then w x w' r.sentinel n r.opens r.depth whole_then wh.sound.long (back then q) before.entry_is a.restored in
        record {
          whole = whole_again then w w' long low before.tables_same whole_then wh more_used g;
          holds =
              holds_again then w w' long low before.tables_same whole_then wh more_used g f was.cache u.session.cache u.stocked.tables before.stood.writes.cache
              u.present.writes.cache grown;
          counts = few_again then w w' long low before.tables_same whole_then wh more_used g before.stood.running.stands.counts;
          room =
              roomy_later w' p.steps later le
              (roomy_again then w w' long low before.tables_same whole_then wh more_used g p.steps before.room_then);
        }

    abbrev pub back : Session
    back = undone b was u.session

    cached : CacheIs back.cache
    cached = go b a.cache bringable
      where
        go : (c : Bool) → CacheBack c w x n r → (c ≡ true → Bringable then w n) → CacheIs (undone c was u.session).cache
        go false k g = cache_kept k
        go true k g = cache_again k (g refl)

    -- ---- the session

    running : Running w' out r.opens r.depth (counts_in r) 0
    running =
        let t = before.stood.running.stands in
        record {
          stands =
              record {
                whole = cached.whole;
                stacked = a.restored.stacked;
                counts = cached.counts;
                few_opens = t.few_opens;
                pairs = λ i l. rw (open_same i l, tables_then PAIR_COUNT (omega arith)) (t.pairs i l);
                balance = rw (rights_same then w' r.opens open_same) t.balance;
              };
          fits = before.stood.running.fits;
          bounded = before.stood.running.bounded;
          short = before.stood.running.short;
        }

    todo : todo_of f w' r.opens ≡ todo_of f then r.opens
    todo = todo_same f then w' r.opens tables_then open_same (pairs_few then r.opens r.depth 0 before.stood.running.stands)

    writes : Writes f w' out r.depth (counts_in r) back.cache was.written
    writes =
        let t = before.stood.writes in
        record {
          cache = cached.holds;
          stack = t.stack ∙ sym (stack_same then w' r.depth place_same);
          marks = λ y l. t.marks y l ∙ sym (marked_same then w' y l mark_same);
          counts_are = t.counts_are;
          bytes_are = t.bytes_are;
        }

    waiting : was.waiting ≡ some (todo_of f w' r.opens)
    waiting = before.stood.waiting ∙ ap {B = Option (List Todo)} some (sym todo)

    pub stocked : Stocked input f w' later
    stocked =
        record {
          places = places_kept w w' low wh.handles.few_atoms input u.stocked.places;
          tables = tables_kept w w' low f wh.handles u.stocked.tables;
          atoms_there = atoms_kept w w' low wh.handles.few_atoms input f u.stocked.tables u.stocked.atoms_there;
          room = cached.room;
        }

    -- The cache has the entries of those before it.
    over : (k : ℕ) (y : Session) → k < n → nth u.past k ≡ some y → Extends y.cache back.cache
    over k y l q = go b
      where
        go : (c : Bool) → Extends y.cache (undone c was u.session).cache
        go false = let g = u.history.extended k y q in record { more = g.more; entries_are = g.entries_are }
        go true = u.history.older k n y was l q found.is

    pub history : History f w' out rows p.forgets later r.size n (take n u.past) back.cache
    history =
        subst (λ (y : Checkpoint). History f w' out rows p.forgets later y.size n (take n u.past) back.cache) row
        (history_back out out refl f w w' low p.forgets p.steps later le rows p.counts.size p.adds u.past u.session.cache
        (λ j y z. a.restored.high j (omega arith) ∙ outside.above j (omega arith)) refl u.history n few back.cache over)

    pub present : At f w' out r.opens r.depth (counts_in r) false back
    present = go b running writes
      where
        go : (c : Bool) → Running w' out r.opens r.depth (counts_in r) 0 → Writes f w' out r.depth (counts_in r) (undone c was u.session).cache was.written
            → At f w' out r.opens r.depth (counts_in r) false (undone c was u.session)
        go false y z = record { running = y; writes = z; waiting = waiting }
        go true y z = record { running = y; writes = z; waiting = waiting }

-- ---- the step of an undo

-- The flag is set where a step forgets.
flag_set : (b : Bool) (n : ℕ) (rest : List Step) (flag : Bool) → (flag ≡ false → forgets (undo_of b n ∷ rest) ≡ false) → b ≡ true → flag ≡ true
flag_set false n rest flag h q = clash cc
flag_set true n rest true h q = refl
flag_set true n rest false h q = let z : true ≡ false = h refl in clash cc

rest_known : (b : Bool) (n : ℕ) (rest : List Step) → forgets (undo_of b n ∷ rest) ≡ false → forgets rest ≡ false
rest_known false n rest h = h
rest_known true n rest h = clash cc

module _ {measure : Measure} {input : List ℕ} {f : File} {w words : List ℕ} {rows : List Checkpoint} {out : List ℕ} {p : Progress} (b : Bool) {n : ℕ} {rest : List Step}
    (u : Underway measure input f w words rows out p) (none_open : p.quoted ≡ false) (e : u.left ≡ undo_of b n ∷ rest) (few : n < p.adds) {r : Checkpoint}
    (r_is : get_or rows (slot_for p.quoted u.left p.adds) blank ≡ r) where
  pub slot : slot_for p.quoted u.left p.adds ≡ n
  slot =
      (λ i. slot_for (none_open i) (e i) p.adds) ∙ of_undo b ∙ cond_true (ltb n 16) n 0 (lt-ltb n 16 (omega (arith, u.few_adds)))
    where
      of_undo : (c : Bool) → slot_for false (undo_of c n ∷ rest) p.adds ≡ cond (ltb n 16) n 0
      of_undo false = refl
      of_undo true = refl

  row_is : get_or rows n blank ≡ r
  row_is = ap (λ (k : ℕ). get_or rows k blank) (sym slot) ∙ r_is

  flagged : b ≡ true → p.forgets ≡ true
  flagged = flag_set b n rest p.forgets (λ z. ap forgets (sym e) ∙ u.known z)

  pub undo_fits : (r.size ≤ 65535) × Bounded (counts_in r)
  undo_fits = fits_then b u few row_is flagged

  pub undo_takes : Undoing b w p.depth n r
  undo_takes = undoing b u few row_is flagged

  module _ {w' : List ℕ} (long : length w' ≡ length w) (a : Undone b w w' n r) where
    abbrev now_back : Session
    now_back = back b u few row_is flagged long a (p.steps + 1) (omega arith)

    pub undone_on : (next : ℕ) → StepsAt input next rest → {words' : List ℕ} {q t : Progress} → q ≡ undone_at p r n
        → words' ≡ noted_words words q → t ≡ noted_at q next
        → Underway measure input f w' words' (set rows (slot_for p.quoted u.left p.adds) r) out t
    undone_on next there {words'} {q} {t} qi ws ti =
        subst (λ (y : Progress). Underway measure input f w' words' (set rows (slot_for p.quoted u.left p.adds) r) out y) (sym ti)
        (subst (λ (y : List Checkpoint). Underway measure input f w' words' y out (noted_at q next))
        (sym (ap (set rows (slot_for p.quoted u.left p.adds)) (sym r_is) ∙ set-get_or rows (slot_for p.quoted u.left p.adds) blank))
        (subst (λ (y : Progress). words' ≡ noted_words words y → Underway measure input f w' words' rows out (noted_at y next)) (sym qi)
        (λ y. go_on measure input f w' words words' rows out (undone_at p r n) next rest (take n u.past) now_back (standing (take n u.past) now_back)
        (present b u few row_is flagged long a (p.steps + 1) (omega arith)) (stocked b u few row_is flagged long a (p.steps + 1) (omega arith))
        (history b u few row_is flagged long a (p.steps + 1) (omega arith))
        (λ z. rest_known b n rest (ap forgets (sym e) ∙ u.known z)) (omega (arith, u.few_adds)) refl there
        (all_rest u.left e u.steps_named)
        (let l : length u.left ≡ suc (length rest) = ap length e in omega (arith, u.few_steps))
        u.many_rows u.many_words (λ z. clash cc) refl run y u.measure_is) ws))
      where
        all_rest : (ss : List Step) → ss ≡ undo_of b n ∷ rest → All (StepNamed (length f.atoms) (length f.pairs)) ss
            → All (StepNamed (length f.atoms) (length f.pairs)) rest
        all_rest ss q y = (subst (λ (z : List Step). All (StepNamed (length f.atoms) (length f.pairs)) z) q y).1

        run : whole_run measure f (length out)
            ≡ after_words p.steps (take (3 * p.steps) words) (with_words (words_of now_back) (run_steps (measure_of measure) (length out) f rest (standing (take n u.past) now_back)))
        run =
            same_standing input f w words out p r none_open measure rows u
            ∙ ap (λ (ss : List Step). after_words p.steps (take (3 * p.steps) words) (run_steps (measure_of measure) (length out) f ss (standing u.past u.session))) e
            ∙ ap (λ (y : Run). after_words p.steps (take (3 * p.steps) words) y)
            (run_undo measure (length out) f u.past u.session b n rest (was b u few row_is flagged) (found b u few row_is flagged).is)
