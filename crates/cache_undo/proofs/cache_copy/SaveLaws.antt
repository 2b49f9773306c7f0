-- Laws of saving the cache in a copy of undo: the further words of one entry's parents, those of all, and what the copies leave together.
-- Assumes nothing.
use Prim.Native.Nat.{ℕ, ◌+◌, ◌*◌, ◌≤◌, ◌<◌}
use mathlib.Core.Path.{◌≡◌, refl, ap, ◌∙◌}
use mathlib.Core.List.{List}
use native.Mathlib.Omega.{arith}
use native.Mathlib.Decide.{ℕ_discrete}
use lib.ListN.{length, set, length-set}
use lib.Seq.{get_or-set_same, get_or-set_other}
use Rattle.words.specs.Words.{at, WORK}
use Rattle.words.proofs.Copies.{Copied}
use Rattle.work_layout.specs.Layout.{PAIR_COUNT, MAPS, USED, COUNTS, PARENTS, SEEN, COPIES, COPY, ENTRIES, MAX_PARENTS}
use Rattle.work_layout.specs.Rows.{links_at, Sound, all_counts, further, all_further}
use Rattle.work_layout.specs.Counts.{counts_upto, further_same, further_more, further_within, further_few}
use Rattle.cache_undo.specs.cache_copy.Effects.{copied_used, copied_maps, copied_counts, copied_firsts, copied_furthers, ListSaved, ListsSaved, CacheSaved}

-- ---- the further words of one entry

pub list_saved_more : (w w₁ : List ℕ) (e i to v : ℕ) → e < ENTRIES → 2 * (i + 1) < MAX_PARENTS → SEEN ≤ to → to + i < length w → v ≡ links_at w₁ e (i + 1) → ListSaved w w₁ e i to
    → ListSaved w (set w₁ (to + i) v) e (i + 1) to
list_saved_more w w₁ e i to v h l o room q s = record {
  len = length-set w₁ (to + i) v ∙ s.len;
  here = λ j k. go j k (ℕ_discrete j i);
  low = λ j k. apart j (omega arith) ∙ s.low j k;
  high = λ j k. apart j (omega arith) ∙ s.high j (omega arith);
}
  where
    apart : (j : ℕ) → (j ≡ to + i → ⊥) → at (set w₁ (to + i) v) j ≡ at w₁ j
    apart j d = get_or-set_other w₁ (to + i) j v 0 d

    go : (j : ℕ) → j < i + 1 → Dec (j ≡ i) → at (set w₁ (to + i) v) (to + j) ≡ links_at w e (j + 1)
    go j k (yes x) = rw x (get_or-set_same w₁ (to + i) v 0 (omega (arith, s.len)) ∙ q ∙ s.low (PARENTS + (i + 1) * ENTRIES + e) (omega arith))
    go j k (no x) = apart (to + j) (omega arith) ∙ s.here j (omega arith)

-- ---- the further words of all entries

pub lists_saved_none : (w : List ℕ) (to : ℕ) → ListsSaved w w 0 to
lists_saved_none w to = record { len = refl; here = λ e i h l. absurd (omega arith); low = λ j l. refl; high = λ j l. refl }

pub lists_saved_more : (w w₁ w₂ : List ℕ) (e n to next : ℕ) → e < ENTRIES → n ≡ further (at w (COUNTS + e)) → 2 * n < MAX_PARENTS → SEEN ≤ to → next ≡ to + all_further w e
    → ListsSaved w w₁ e to → ListSaved w₁ w₂ e n next → ListsSaved w w₂ (e + 1) to
lists_saved_more w w₁ w₂ e n to next h q few o p s t = record {
  len = t.len ∙ s.len;
  here = λ d i k l. go d i k l (ℕ_discrete d e);
  low = λ j k. t.low j (omega arith) ∙ s.low j k;
  high = λ j k. let m = further_more w e in t.high j (omega arith) ∙ s.high j (omega arith);
}
  where
    go : (d i : ℕ) → d < e + 1 → i < further (at w (COUNTS + d)) → Dec (d ≡ e) → at w₂ (to + all_further w d + i) ≡ links_at w d (i + 1)
    go d i k l (yes x) =
        let m : i < n = omega (arith, ap (λ (y : ℕ). at w (COUNTS + y)) x) in
        rw (x, ← p) (t.here i m ∙ s.low (PARENTS + (i + 1) * ENTRIES + e) (omega arith))
    go d i k l (no x) =
        let b = further_within w e d (omega arith) in
        t.low (to + all_further w d + i) (omega arith) ∙ s.here d i (omega arith) l

-- ---- the cache: w₄ has all but the further words

module _ (w w₂ w₃ w₄ : List ℕ) (k n m : ℕ) (so : Sound w) (few : all_counts w ENTRIES ≤ 2048) (few_pairs : at w PAIR_COUNT ≤ 1024) (hk : k < 16) (hn : n ≡ at w USED)
    (hm : m ≡ at w PAIR_COUNT) (a : Copied (set w (copied_used k) (at w USED)) w₂ MAPS (copied_maps k) m) (b : Copied w₂ w₃ COUNTS (copied_counts k) n)
    (f : Copied w₃ w₄ PARENTS (copied_firsts k) n) where
  n_few : n ≤ ENTRIES
  n_few = omega (arith, so.used)

  w₁ : List ℕ
  w₁ = set w (copied_used k) (at w USED)

  apart : (j : ℕ) → (j ≡ copied_used k → ⊥) → at w₁ j ≡ at w j
  unfolding w₁
  apart j d = get_or-set_other w (copied_used k) j (at w USED) 0 d

  len : length w₄ ≡ length w
  len = f.len ∙ b.len ∙ a.len ∙ length-set w (copied_used k) (at w USED)

  -- What lies outside of the copy's words is as it was, before the first words too.
  still_before : (j : ℕ) → (copied_used k ≤ j → COPIES + k * COPY + COPY ≤ j) → at w₃ j ≡ at w j
  unfolding w₁
  still_before j o =
      let z = n_few in
      b.other j (λ q. omega (arith, o (omega arith))) ∙ a.other j (λ q. omega (arith, o (omega arith))) ∙ apart j (λ q. omega (arith, o (omega arith)))

  still : (j : ℕ) → (copied_used k ≤ j → COPIES + k * COPY + COPY ≤ j) → at w₄ j ≡ at w j
  still j o = let z = n_few in f.other j (λ q. omega (arith, o (omega arith))) ∙ still_before j o

  below : (j : ℕ) → j < copied_used k → at w₄ j ≡ at w j
  below j l = still j (λ q. absurd (omega arith))

  further_still : (e : ℕ) → e ≤ ENTRIES → all_further w₄ e ≡ all_further w e
  further_still e l = further_same w w₄ e (λ d m. below (COUNTS + d) (omega arith))

  lists_end : copied_furthers k + all_further w₄ n ≤ COPIES + k * COPY + COPY
  lists_end = omega (arith, few, further_still n n_few, further_few w n, counts_upto w ENTRIES n n_few)

  pub lists_asked : (WORK ≤ length w₄) × (n ≤ ENTRIES) × ((e : ℕ) → e < n → at w₄ (COUNTS + e) ≤ MAX_PARENTS) × (SEEN ≤ copied_furthers k)
      × (copied_furthers k + all_further w₄ n ≤ WORK)
  lists_asked =
      let z = n_few in
      (omega (arith, so.long, len), z, λ e l. rw (below (COUNTS + e) (omega arith)) (so.counts e (omega arith)), omega arith, omega (arith, lists_end))

  module _ (w₅ : List ℕ) (s : ListsSaved w₄ w₅ n (copied_furthers k)) where
    furthers : (e i : ℕ) → e < at w USED → i < further (at w (COUNTS + e)) → at w₅ (copied_furthers k + all_further w e + i) ≡ links_at w e (i + 1)
    furthers e i h l =
        let z = n_few in
        let c = so.counts e (omega arith) in
        let x = below (COUNTS + e) (omega arith) in
        rw (← further_still e (omega arith))
        (s.here e i (omega arith) (omega arith) ∙ below (PARENTS + (i + 1) * ENTRIES + e) (omega arith))

    -- What the copy has before the further words.
    front : (j : ℕ) → j < copied_firsts k → at w₅ j ≡ at w₃ j
    front j l = s.low j (omega arith) ∙ f.other j (λ q. omega arith)

    pub cache_saved : CacheSaved w w₅ k
    unfolding w₁
    cache_saved =
        let z = n_few in
        record {
          copied = record {
            used =
                front (copied_used k) (omega arith) ∙ b.other (copied_used k) (λ q. omega arith) ∙ a.other (copied_used k) (λ q. omega arith)
                ∙ get_or-set_same w (copied_used k) (at w USED) 0 (omega (arith, so.long));
            maps = λ i l.
                front (copied_maps k + i) (omega arith) ∙ b.other (copied_maps k + i) (λ q. omega arith) ∙ a.here i (omega arith) ∙ apart (MAPS + i) (omega arith);
            counts = λ e l.
                front (copied_counts k + e) (omega arith) ∙ b.here e (omega arith) ∙ a.other (COUNTS + e) (λ q. omega arith) ∙ apart (COUNTS + e) (omega arith);
            firsts = λ e l.
                s.low (copied_firsts k + e) (omega arith) ∙ f.here e (omega arith) ∙ still_before (PARENTS + e) (λ q. absurd (omega arith));
            furthers = furthers;
          };
          low = λ j l. s.low j (omega arith) ∙ below j l;
          high = λ j l. s.high j (omega (arith, lists_end)) ∙ still j (λ q. l);
        }
