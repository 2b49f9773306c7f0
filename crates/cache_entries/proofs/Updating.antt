-- An update: the sentinel's parents are taken, the added tree is entered, and they are placed at its root.
-- Assumes nothing.
use Prim.Native.Nat.{ℕ, ◌+◌, ◌*◌, ◌≤◌, ◌<◌}
use mathlib.Core.Path.{◌≡◌, refl, sym, ap, ◌∙◌, subst}
use mathlib.Core.List.{List, []}
use mathlib.Core.Option.{Option, none, some}
use native.Mathlib.Omega.{arith}
use lib.ListN.{length}
use Rattle.words.specs.Words.{at, tabulate}
use Rattle.words.proofs.Words.{tabulate_same}
use Rattle.allocator.specs.Handle.{node_of}
use Rattle.spec_session.specs.File.{File}
use Rattle.spec_session.specs.Unfold.{unfolded}
use Rattle.spec_session.specs.Cache.{Parent, Cache, parents_at, no_parents, move_parents, with_entries, sentinel_parents, clear_sentinel, place_root, enter, update}
use Rattle.work_layout.specs.Layout.{ATOM_COUNT, PAIR_COUNT, MOVED, MAPS, SENTINEL_ENTRY, USED, ENTRIES}
use Rattle.work_layout.specs.Rows.{parent_of, moved_at, moved_of}
use Rattle.work_layout.specs.Parents.{moved_same}
use Rattle.cache_entries.specs.table.Effects.{Taken, Placed, MovedLinks}
use Rattle.cache_entries.specs.Meaning.{Tables, Names, entry_or_none, unmapped, Whole, Holds}
use Rattle.cache_entries.specs.Effects.{enter_action, Acts, span, Bounded, Entered, Room, Cleared, Updated}
use Rattle.cache_entries.proofs.table.Rows.{word_some}
use Rattle.cache_entries.proofs.Lift.{parents_of_rows}
use Rattle.cache_entries.proofs.Frames.{tables_kept, unmapped_same, unmapped_grows}
use Rattle.cache_entries.proofs.Making.{adjusted_whole, adjusted_holds}
use Rattle.cache_entries.proofs.Entering.{names_span}

-- ---- the sentinel's parents

none_moved : (w : List ℕ) → moved_of w 0 ≡ []
unfolding moved_of tabulate
none_moved w = refl

-- There is no entry of the sentinel.
pub cleared_none : (w : List ℕ) → Whole w → none ≡ entry_or_none (at w SENTINEL_ENTRY) → Cleared w w 0
cleared_none w wh z =
    record {
      whole = wh;
      used = refl;
      few = omega arith;
      links = λ k h. absurd (omega arith);
      counts = omega arith;
      maps = λ k h. refl;
      below = λ k h. refl;
      above = λ k h. refl;
      holds = λ f c t ho.
          subst (λ (o : Option ℕ). Holds f w (with_entries (clear_sentinel o c.entries) c)) (z ∙ sym ho.sentinel_entry) (again f c ho);
      moved = λ f c t ho. none_moved w ∙ ap (λ (o : Option ℕ). sentinel_parents o c.entries) (z ∙ sym ho.sentinel_entry);
    }
  where
    again : (f : File) (c : Cache) → Holds f w c → Holds f w (with_entries c.entries c)
    again f c ho = record { entries = ho.entries; mapped = ho.mapped; sentinel_entry = ho.sentinel_entry }

module _ (w w' : List ℕ) (e n : ℕ) (wh : Whole w) (is : some e ≡ entry_or_none (at w SENTINEL_ENTRY)) where
  pub sentinel_low : e < at w USED
  sentinel_low = omega (arith, word_some (at w SENTINEL_ENTRY) e is, wh.sentinel_entry)

  module _ (t : Taken w w' e n) where
    maps : (k : ℕ) → k < 1024 → at w' (MAPS + k) ≡ at w (MAPS + k)
    maps k h = t.maps (MAPS + k) (omega arith) (omega arith)

    sent : at w' SENTINEL_ENTRY ≡ at w SENTINEL_ENTRY
    sent = t.maps SENTINEL_ENTRY (omega arith) (omega arith)

    here : (f : File) (c : Cache) → Holds f w c → c.sentinel_entry ≡ some e
    here f c ho = ho.sentinel_entry ∙ sym is

    -- The latest entry of the sentinel loses its parents.
    pub cleared_some : Cleared w w' n
    cleared_some =
        record {
          whole = adjusted_whole w w' wh t.sound (λ k l. t.low k (omega arith)) e no_parents t.used t.rows maps sent;
          used = t.used;
          few = t.few;
          links = t.links;
          counts = t.counts;
          maps = maps;
          below = t.low;
          above = t.high;
          holds = λ f c tb ho.
              subst (λ (o : Option ℕ). Holds f w' (with_entries (clear_sentinel o c.entries) c)) (sym (here f c ho))
              (adjusted_holds w w' wh t.sound (λ k l. t.low k (omega arith)) e no_parents t.used t.rows maps sent f c tb ho);
          moved = λ f c tb ho.
              t.moved ∙ sym (parents_of_rows f w e sentinel_low) ∙ ap (parents_at e) (sym ho.entries)
              ∙ ap (λ (o : Option ℕ). sentinel_parents o c.entries) (sym (here f c ho));
        }

-- ---- the update

module _ {w w₁ : List ℕ} (h : ℕ) {n : ℕ} (wh : Whole w) (names : Names w (at w PAIR_COUNT) h) (room : at w USED + 2 * unmapped w (at w PAIR_COUNT) < ENTRIES)
    (c₁ : Cleared w w₁ n) where
  few : at w PAIR_COUNT ≤ 1024
  few = wh.handles.few_pairs

  same_unmapped : (p : ℕ) → p ≤ 1024 → unmapped w₁ p ≡ unmapped w p
  same_unmapped p l = unmapped_same w w₁ p (λ k h. c₁.maps k (omega arith))

  names₁ : Names w₁ (at w₁ PAIR_COUNT) h
  names₁ = rw (c₁.below ATOM_COUNT (omega arith), c₁.below PAIR_COUNT (omega arith)) names

  -- What entering the added tree asks for.
  pub enter_asks : Names w₁ (at w₁ PAIR_COUNT) h × Room w₁ h
  enter_asks =
      let s = names_span w (at w PAIR_COUNT) h names in
      let f = few in
      let u = c₁.used in
      let m = same_unmapped (span (node_of h)) (omega arith) in
      let g = unmapped_grows w (span (node_of h)) (at w PAIR_COUNT) s in
      (names₁, omega arith)

  module _ {w₂ : List ℕ} {x : ℕ} (e₂ : Entered w₁ w₂ h x) where
    -- What placing the parents asks for.
    pub place_asks : MovedLinks w₂ n
    place_asks i l =
        let k = c₁.links i l in
        let f = c₁.few in
        let b = moved_same w₁ w₂ i (omega arith) (λ k a b. e₂.outside.below k (omega arith)) in
        let u = c₁.used in
        omega (arith, e₂.more)

    module _ (len : length w₂ ≡ length w₁) {w₃ : List ℕ} (p : Placed w₂ w₃ x n) where
      maps₃ : (k : ℕ) → k < 1024 → at w₃ (MAPS + k) ≡ at w₂ (MAPS + k)
      maps₃ k l = p.kept.low (MAPS + k) (omega arith)

      sent₃ : at w₃ SENTINEL_ENTRY ≡ at w₂ SENTINEL_ENTRY
      sent₃ = p.kept.low SENTINEL_ENTRY (omega arith)

      below₃ : (k : ℕ) → k < MOVED → at w₃ k ≡ at w₂ k
      below₃ k l = p.kept.low k (omega arith)

      still_moved : moved_of w₂ n ≡ moved_of w₁ n
      unfolding moved_of
      still_moved =
          let f = c₁.few in
          tabulate_same n (λ i. parent_of (moved_at w₁ i)) (λ i. parent_of (moved_at w₂ i))
          (λ i l. ap parent_of (moved_same w₁ w₂ i (omega arith) (λ k a b. e₂.outside.below k (omega arith))))

      bounded : Bounded w w₃ (at w PAIR_COUNT)
      bounded =
          let s = names_span w (at w PAIR_COUNT) h names in
          let b = e₂.bounded (at w PAIR_COUNT) s few in
          let m = same_unmapped (at w PAIR_COUNT) few in
          let m₃ = unmapped_same w₂ w₃ (at w PAIR_COUNT) (λ k l. maps₃ k (omega (arith, few))) in
          let u = c₁.used in
          let v = p.used in
          record { room = omega (arith, b.room); counts = omega (arith, b.counts, c₁.counts, p.counts) }

      holds : (f : File) (c : Cache) → Tables f w → Holds f w c → Holds f w₃ (update (unfolded f h) c)
      unfolding update
      holds f c t ho =
          subst (λ (y : ℕ). Holds f w₃ (place_root (sentinel_parents c.sentinel_entry c.entries) (d.0, y))) a.answer
          (subst (λ (ps : List Parent). Holds f w₃ (place_root ps (d.0, x))) (still_moved ∙ c₁.moved f c t ho)
          (adjusted_holds w₂ w₃ e₂.whole p.sound (λ k l. below₃ k (omega arith)) x (move_parents (moved_of w₂ n)) p.used p.rows maps₃ sent₃ f d.0 t₂ a.holds))
        where
          t₁ : Tables f w₁
          t₁ = tables_kept w w₁ (λ k l. c₁.below k (omega arith)) f wh.handles t

          t₂ : Tables f w₂
          t₂ = tables_kept w₁ w₂ (λ k l. e₂.outside.below k (omega arith)) f c₁.whole.handles t₁

          d : Cache × ℕ
          d = enter (unfolded f h) (with_entries (clear_sentinel c.sentinel_entry c.entries) c)

          a : Acts (enter_action h) w₂ x f (with_entries (clear_sentinel c.sentinel_entry c.entries) c)
          a = e₂.does f (with_entries (clear_sentinel c.sentinel_entry c.entries) c) t₁ (c₁.holds f c t ho)

      -- The added tree is in the cache.
      pub updated : Updated w w₃ h
      updated =
          let u = c₁.used in
          let v = p.used in
          record {
            whole = adjusted_whole w₂ w₃ e₂.whole p.sound (λ k l. below₃ k (omega arith)) x (move_parents (moved_of w₂ n)) v p.rows maps₃ sent₃;
            more = omega (arith, e₂.more);
            bounded = bounded;
            below = λ k l. below₃ k l ∙ e₂.outside.below k (omega arith) ∙ c₁.below k l;
            above = λ k l. p.kept.high k l ∙ e₂.outside.above k l ∙ c₁.above k l;
            holds = holds;
          }
