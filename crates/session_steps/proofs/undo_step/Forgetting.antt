-- A forget: the cache of an earlier time is put back. The words hold it again, and are whole: parents, map and chains are those of that time, and the keys and
-- lengths are still there.
-- Assumes nothing.
use Prim.Native.Nat.{ℕ, zero, suc, ◌+◌, ◌*◌, ◌^◌, ◌≤◌, ◌<◌}
use mathlib.Core.Path.{◌≡◌, refl, sym, ap, ◌∙◌}
use mathlib.Core.List.{List, ◌∷◌, ◌++◌, map}
use lib.Seq.{get_or-set_same, get_or-set_other}
use native.Mathlib.Omega.{arith}
use lib.ListN.{length, length-append, length-map}
use Rattle.words.specs.Choice.{by_lt}
use Rattle.words.specs.Words.{at, tabulate, WORK}
use Rattle.words.proofs.Words.{tabulate_same}
use Rattle.spec_session.specs.File.{File}
use Rattle.spec_session.specs.Cache.{Entry, Cache}
use Rattle.spec_session.specs.Extends.{bare, Extends}
use Rattle.work_layout.specs.Layout.{PAIR_COUNT, OPEN, MOVED, MAPS, SENTINEL_ENTRY, USED, COUNTS, LEFT, RIGHT, LOW, HIGH, NEXT, HEADS, ENTRIES, SLOTS}
use Rattle.work_layout.specs.Rows.{Row, link_at, parent_of, parents_of, length_of, row_of, rows_of, slot_at, slot_of, prev, Sound, all_counts}
use Rattle.work_layout.specs.Parents.{link_same}
use Rattle.work_layout.specs.Prev.{prev_same}
use Rattle.work_layout.specs.Counts.{counts_same}
use Rattle.cache_undo.specs.Effects.{Restored}
use Rattle.cache_undo.specs.cache_copy.Effects.{CacheBrought}
use Rattle.cache_entries.specs.Meaning.{entry_of, key_of, Tables, entry_or_none, unmapped, Whole, Holds}
use Rattle.cache_entries.proofs.Frames.{unmapped_same}
use Rattle.cache_entries.proofs.Lift.{length_rows}
use Rattle.cache_entries.proofs.Making.{whole_of}
use Rattle.session_state.specs.State.{Roomy}
use Rattle.session_steps.specs.undo_step.Effects.{Forgotten}

-- ---- a cache that has all entries of an earlier one

-- The first entries have the keys and lengths of the earlier ones.
bare_same : (F : Row → Entry) (n m : ℕ) (g h : ℕ → Row) (more : List Entry) → n ≤ m
    → map bare (map F (tabulate m g)) ≡ map bare (map F (tabulate n h)) ++ more → (e : ℕ) → e < n → bare (F (g e)) ≡ bare (F (h e))
unfolding tabulate
bare_same F zero m g h more l q e k = absurd (omega arith)
bare_same F (suc n) zero g h more l q e k = absurd (omega arith)
bare_same F (suc n) (suc m) g h more l q zero k = cc
bare_same F (suc n) (suc m) g h more l q (suc e) k =
    let rest : map bare (map F (tabulate m (λ i. g (suc i)))) ≡ map bare (map F (tabulate n (λ i. h (suc i)))) ++ more = cc in
    bare_same F n m (λ i. g (suc i)) (λ i. h (suc i)) more (omega arith) rest e (omega arith)

map_tabulate : (F : Row → Entry) (n : ℕ) (g h : ℕ → Row) → ((e : ℕ) → e < n → F (g e) ≡ F (h e)) → map F (tabulate n g) ≡ map F (tabulate n h)
unfolding tabulate
map_tabulate F zero g h s = refl
map_tabulate F (suc n) g h s = λ i. s 0 (omega arith) i ∷ map_tabulate F n (λ k. g (suc k)) (λ k. h (suc k)) (λ k l. s (suc k) (omega arith)) i

module _ (f : File) (v w : List ℕ) (a c : Cache) (hv : Holds f v a) (hw : Holds f w c) (x : Extends a c) where
  bare_rows : map bare (map (entry_of f) (rows_of w)) ≡ map bare (map (entry_of f) (rows_of v)) ++ x.more
  bare_rows =
      ap (map bare) (sym hw.entries) ∙ x.entries_are ∙ ap (λ (es : List Entry). map bare es ++ x.more) hv.entries

  pub used_more : at v USED ≤ at w USED
  used_more =
      let l = ap length bare_rows in
      let m = length-append (map bare (map (entry_of f) (rows_of v))) x.more in
      omega (
        arith,
        length-map (map (entry_of f) (rows_of w)) bare,
        length-map (rows_of w) (entry_of f),
        length_rows w,
        length-map (map (entry_of f) (rows_of v)) bare,
        length-map (rows_of v) (entry_of f),
        length_rows v,
      )

  same_bare : (e : ℕ) → e < at v USED → bare (entry_of f (row_of w e)) ≡ bare (entry_of f (row_of v e))
  unfolding rows_of
  same_bare = bare_same (entry_of f) (at v USED) (at w USED) (row_of w) (row_of v) x.more used_more bare_rows

-- ---- the cache put back

-- The words of w' from MAPS to SEEN that are in use are those of v, but for keys and lengths, which are those of w.
pub record CacheAgain (v w w' : List ℕ) : Type 0 where
  pub used : at w' USED ≡ at v USED
  pub maps : (i : ℕ) → i < at v PAIR_COUNT → at w' (MAPS + i) ≡ at v (MAPS + i)
  pub counts : (e : ℕ) → e < ENTRIES → at w' (COUNTS + e) ≡ at v (COUNTS + e)
  pub links : (e i : ℕ) → e < at v USED → i < at v (COUNTS + e) → link_at w' e i ≡ link_at v e i
  pub heads : (s : ℕ) → s < SLOTS → at w' (HEADS + s) ≡ prev (slot_at w) s (at v USED)
  pub keys : (j : ℕ) → LEFT ≤ j → j < HEADS → at w' j ≡ at w j
  pub entry : at w' SENTINEL_ENTRY ≡ at v SENTINEL_ENTRY

-- What a forget leaves in the words of the cache, after the stack and the marks are restored too.
pub again : (v w x w' : List ℕ) (s n o d : ℕ) → Whole v → WORK ≤ length w → Forgotten v w x s → s ≡ at v SENTINEL_ENTRY → Restored x w' n o d → CacheAgain v w w'
again v w x w' s n o d wh long a si r =
    record {
      used = same USED (omega arith) (λ q. omega (arith, q)) ∙ b.used;
      maps = λ i l. same (MAPS + i) (omega arith) (λ q. omega (arith, q, wh.handles.few_pairs)) ∙ b.maps i l;
      counts = λ e l. same (COUNTS + e) (omega arith) (λ q. omega (arith, q)) ∙ b.counts e l;
      links = λ e i l m.
          link_same a.brought_words w' e i (omega (arith, so.used)) (omega (arith, so.counts e (omega (arith, so.used)))) (λ k p q. same k (omega arith) (λ z. omega (arith, z)))
          ∙ b.links e i l m;
      heads = λ z l. same (HEADS + z) (omega arith) (λ q. omega (arith, q)) ∙ b.heads z l;
      keys = λ j l m. same j (omega arith) (λ q. omega (arith, q)) ∙ b.keys j l m;
      entry =
          r.high SENTINEL_ENTRY (omega arith) ∙ ap (λ (y : List ℕ). at y SENTINEL_ENTRY) a.is
          ∙ get_or-set_same a.brought_words SENTINEL_ENTRY s 0 (omega (arith, a.brought_long)) ∙ si;
    }
  where
    b : CacheBrought v w a.brought_words
    b = a.brought

    so : Sound v
    so = wh.sound

    same : (k : ℕ) → MOVED ≤ k → (k ≡ SENTINEL_ENTRY → ⊥) → at w' k ≡ at a.brought_words k
    same k l q = r.high k l ∙ ap (λ (y : List ℕ). at y k) a.is ∙ get_or-set_other a.brought_words SENTINEL_ENTRY k s 0 q

module _ (v w w' : List ℕ) (len : length w' ≡ length w) (low : (k : ℕ) → k < OPEN → at w' k ≡ at w k) (tables : (k : ℕ) → k < OPEN → at w k ≡ at v k)
    (whv : Whole v) (wh : Whole w) (less : at v USED ≤ at w USED) (g : CacheAgain v w w') where
  sv : Sound v
  sv = whv.sound

  key : (e : ℕ) → e < at v USED → (at w' (LEFT + e) ≡ at w (LEFT + e)) × (at w' (RIGHT + e) ≡ at w (RIGHT + e))
  key e l = (g.keys (LEFT + e) (omega arith) (omega (arith, sv.used)), g.keys (RIGHT + e) (omega arith) (omega (arith, sv.used)))

  slot_same : (e : ℕ) → e < at v USED → slot_at w e ≡ slot_at w' e
  slot_same e l = let k = key e l in λ i. slot_of (sym k.0 i) (sym k.1 i)

  counted_in : (e i : ℕ) → e < ENTRIES → i < at v (COUNTS + e) → e < at v USED
  counted_in e i h l = by_lt e (at v USED) (λ q. q) (λ q. absurd (omega (arith, sv.unused e q h)))

  pub sound_again : Sound w'
  sound_again =
      let u = g.used in
      record {
        long = omega (arith, wh.sound.long);
        used = omega (arith, sv.used);
        counts = λ e h. omega (arith, g.counts e h, sv.counts e h);
        unused = λ e h l. g.counts e l ∙ sv.unused e (omega arith) l;
        links = λ e i h l.
            let m : i < at v (COUNTS + e) = omega (arith, g.counts e h) in
            let k = counted_in e i h m in
            omega (arith, g.links e i k m, sv.links e i h m);
        chained = record {
          heads = λ s h. g.heads s h ∙ prev_same (slot_at w) (slot_at w') s (at v USED) slot_same ∙ ap (prev (slot_at w') s) (sym u);
          nexts = λ e h.
              let l : e < at v USED = omega arith in
              g.keys (NEXT + e) (omega arith) (omega (arith, sv.used)) ∙ wh.sound.chained.nexts e (omega arith)
              ∙ prev_same (slot_at w) (slot_at w') (slot_at w e) e (λ k q. slot_same k (omega arith)) ∙ ap (λ (s : ℕ). prev (slot_at w') s e) (slot_same e l);
        };
        distinct = record {
          distinct = λ i j h l p q.
              let a = key i (omega arith) in
              let b = key j (omega arith) in
              wh.sound.distinct.distinct i j h (omega arith) (sym a.0 ∙ p ∙ b.0) (sym a.1 ∙ q ∙ b.1);
        };
      }

  pub whole_again : Whole w'
  whole_again =
      let u = g.used in
      let t = tables PAIR_COUNT (omega arith) in
      whole_of w w' wh sound_again low
      (λ e h. let k = key e (omega arith) in rw (k.0, k.1) (wh.keys e (omega arith)))
      (λ i h. omega (arith, g.maps i (omega arith), whv.maps i (omega arith)))
      (omega (arith, g.entry, whv.sentinel_entry))

  counts_again : all_counts w' ENTRIES ≡ all_counts v ENTRIES
  counts_again = counts_same v w' ENTRIES g.counts

  pairs_again : at w' PAIR_COUNT ≡ at v PAIR_COUNT
  pairs_again = low PAIR_COUNT (omega arith) ∙ tables PAIR_COUNT (omega arith)

  unmapped_again : unmapped w' (at w' PAIR_COUNT) ≡ unmapped v (at v PAIR_COUNT)
  unmapped_again = rw pairs_again (unmapped_same v w' (at v PAIR_COUNT) g.maps)

  pub roomy_again : (steps : ℕ) → Roomy v steps → Roomy w' steps
  roomy_again steps r =
      let u = g.used in
      record { entries = omega (arith, unmapped_again, r.entries); counts = omega (arith, unmapped_again, counts_again, r.counts) }

  pub few_again : all_counts v ENTRIES ≤ 2048 → all_counts w' ENTRIES ≤ 2048
  few_again h = omega (arith, counts_again)

  -- The words hold the cache of that time.
  pub holds_again : (f : File) (a c : Cache) → Tables f w → Holds f v a → Holds f w c → Extends a c → Holds f w' a
  unfolding rows_of parents_of
  holds_again f a c t hv hw x =
      record {
        entries =
            hv.entries ∙ sym (ap (λ (n : ℕ). map (entry_of f) (tabulate n (row_of w'))) g.used ∙ map_tabulate (entry_of f) (at v USED) (row_of w') (row_of v) row);
        mapped = λ i l. hv.mapped i l ∙ ap entry_or_none (sym (g.maps i (omega (arith, t.pair_count, tables PAIR_COUNT (omega arith)))));
        sentinel_entry = hv.sentinel_entry ∙ ap entry_or_none (sym g.entry);
      }
    where
      row : (e : ℕ) → e < at v USED → entry_of f (row_of w' e) ≡ entry_of f (row_of v e)
      row e l =
          let b = same_bare f v w a c hv hw x e l in
          let k = key e l in
          let lo = g.keys (LOW + e) (omega arith) (omega (arith, sv.used)) in
          let hi = g.keys (HIGH + e) (omega arith) (omega (arith, sv.used)) in
          let n = g.counts e (omega (arith, sv.used)) in
          let ks : key_of f (at w' (LEFT + e)) (at w' (RIGHT + e)) ≡ key_of f (at v (LEFT + e)) (at v (RIGHT + e)) =
          (λ i. key_of f (k.0 i) (k.1 i)) ∙ ap (λ (y : Entry). y.key) b in
          let ls : length_of w' e ≡ length_of v e = (λ i. lo i + 2 ^ 32 * hi i) ∙ ap (λ (y : Entry). y.len) b in
          let ps : parents_of w' e ≡ parents_of v e =
          rw n (tabulate_same (at v (COUNTS + e)) (λ i. parent_of (link_at v e i)) (λ i. parent_of (link_at w' e i)) (λ i m. ap parent_of (g.links e i l m))) in
          λ i. record { key = ks i; parents = ps i; len = ls i }
