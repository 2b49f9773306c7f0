-- Laws of putting the cache of a copy of undo back: the further words of one entry's parents, those of all, and what the parts leave together.
-- Assumes nothing.
use Prim.Native.Nat.{ℕ, ◌+◌, ◌-◌, ◌/◌, ◌≤◌, ◌<◌}
use mathlib.Core.Path.{◌≡◌, refl, sym, ap, ◌∙◌}
use mathlib.Core.List.{List}
use native.Mathlib.Omega.{arith}
use native.Mathlib.Decide.{ℕ_discrete, dec_lt}
use lib.ListN.{length}
use Rattle.words.specs.Words.{at, WORK}
use Rattle.words.proofs.Copies.{Copied}
use Rattle.work_layout.specs.Layout.{PAIR_COUNT, MAPS, SENTINEL_ENTRY, USED, COUNTS, LEFT, HEADS, PARENTS, SEEN, ENTRIES, MAX_PARENTS}
use Rattle.work_layout.specs.Rows.{links_at, slot_at, prev, further, all_further}
use Rattle.work_layout.specs.Parents.{LinksSet, link_of_links}
use Rattle.work_layout.specs.Counts.{counts_upto, further_same, further_few}
use Rattle.cache_undo.specs.cache_copy.Effects.{copied_used, copied_maps, copied_counts, copied_firsts, copied_furthers, TakenOff}
use Rattle.cache_undo.specs.cache_copy.Effects.{ListBrought, ListsBrought, Bringable, CacheBrought}

-- ---- the further words of one entry

pub list_brought_more : (w w₁ w₂ : List ℕ) (e i from v : ℕ) → e < ENTRIES → SEEN ≤ from → v ≡ at w₁ (from + i) → ListBrought w w₁ e i from → LinksSet w₁ w₂ e (i + 1) v
    → ListBrought w w₂ e (i + 1) from
list_brought_more w w₁ w₂ e i from v h o q s p = record {
  len = p.len ∙ s.len;
  here = λ j l. go j l (ℕ_discrete j i);
  others = λ d j x n. p.others d j x (λ y z. n y) ∙ s.others d j x n;
  firsts = λ d x. p.others d 0 x (λ y z. omega arith) ∙ s.firsts d x;
  low = λ j l. p.low j l ∙ s.low j l;
  high = λ j l. p.high j l ∙ s.high j l;
}
  where
    go : (j : ℕ) → j < i + 1 → Dec (j ≡ i) → links_at w₂ e (j + 1) ≡ at w (from + j)
    go j l (yes x) = rw x (p.here ∙ q ∙ s.high (from + i) (omega arith))
    go j l (no x) = p.others e (j + 1) h (λ y z. x (omega arith)) ∙ s.here j (omega arith)

-- ---- the further words of all entries

pub lists_brought_none : (w : List ℕ) (from : ℕ) → ListsBrought w w 0 from
lists_brought_none w from = record { len = refl; here = λ e i h l. absurd (omega arith); firsts = λ d h. refl; low = λ j l. refl; high = λ j l. refl }

pub lists_brought_more : (w w₁ w₂ : List ℕ) (e n from next : ℕ) → e < ENTRIES → n ≡ further (at w (COUNTS + e)) → SEEN ≤ from → next ≡ from + all_further w e
    → ListsBrought w w₁ e from → ListBrought w₁ w₂ e n next → ListsBrought w w₂ (e + 1) from
lists_brought_more w w₁ w₂ e n from next h q o p s t = record {
  len = t.len ∙ s.len;
  here = λ d i k l. go d i k l (ℕ_discrete d e);
  firsts = λ d x. t.firsts d x ∙ s.firsts d x;
  low = λ j k. t.low j k ∙ s.low j k;
  high = λ j k. t.high j k ∙ s.high j k;
}
  where
    go : (d i : ℕ) → d < e + 1 → i < further (at w (COUNTS + d)) → Dec (d ≡ e) → links_at w₂ d (i + 1) ≡ at w (from + all_further w d + i)
    go d i k l (yes x) =
        let m : i < n = omega (arith, ap (λ (y : ℕ). at w (COUNTS + y)) x) in
        rw (x, ← p) (t.here i m ∙ s.high (next + i) (omega arith))
    go d i k l (no x) = t.others d (i + 1) (omega arith) x ∙ s.here d i (omega arith) l

-- ---- the cache: w₄ has all but the further words

module _ (v w w₁ w₂ w₃ w₄ : List ℕ) (k n m : ℕ) (hk : k < 16) (b : Bringable v w k) (hn : n ≡ at w (copied_used k)) (hm : m ≡ at w PAIR_COUNT) (off : TakenOff w w₁ n)
    (maps : Copied w₁ w₂ (copied_maps k) MAPS m) (counts : Copied w₂ w₃ (copied_counts k) COUNTS n) (firsts : Copied w₃ w₄ (copied_firsts k) PARENTS n) where
  n_is : n ≡ at v USED
  n_is = hn ∙ b.copied.used

  n_few : n ≤ ENTRIES
  n_few = omega (arith, n_is, b.then_sound.used)

  m_few : m ≤ 1024
  m_few = omega (arith, b.few_pairs)

  -- What lies above the parents, the copy too, is as it was.
  above_before : (j : ℕ) → SEEN ≤ j → at w₃ j ≡ at w j
  above_before j l = let z = n_few in counts.other j (λ q. omega arith) ∙ maps.other j (λ q. omega (arith, m_few)) ∙ off.high j (omega arith)

  above : (j : ℕ) → SEEN ≤ j → at w₄ j ≡ at w j
  above j l = let z = n_few in firsts.other j (λ q. omega arith) ∙ above_before j l

  count : (e : ℕ) → e < n → at w₄ (COUNTS + e) ≡ at v (COUNTS + e)
  count e l =
      let z = n_is in
      let y = n_few in
      firsts.other (COUNTS + e) (λ q. omega arith) ∙ counts.here e l ∙ maps.other (copied_counts k + e) (λ q. omega (arith, m_few))
      ∙ off.high (copied_counts k + e) (omega arith) ∙ b.copied.counts e (omega arith)

  further_then : (e : ℕ) → e ≤ n → all_further w₄ e ≡ all_further v e
  further_then e l = further_same v w₄ e (λ d m. count d (omega arith))

  pub lists_asked : (WORK ≤ length w₄) × (n ≤ ENTRIES) × ((e : ℕ) → e < n → at w₄ (COUNTS + e) ≤ MAX_PARENTS) × (SEEN ≤ copied_furthers k)
      × (copied_furthers k + all_further w₄ n ≤ WORK)
  lists_asked = (
    omega (arith, b.sound.long, firsts.len, counts.len, maps.len, off.len),
    n_few,
    λ e l. rw (count e l) (b.then_sound.counts e (omega (arith, n_few))),
    omega arith,
    omega (arith, further_then n (omega arith), further_few v n, counts_upto v ENTRIES n n_few, b.then_few),
  )

  module _ (w₅ : List ℕ) (s : ListsBrought w₄ w₅ n (copied_furthers k)) where
    -- The words of an entry's parents are those of then: the first one, and those after it.
    first : (e : ℕ) → e < n → links_at w₅ e 0 ≡ links_at v e 0
    first e h =
        let z = n_is in
        let y = n_few in
        s.firsts e (omega arith) ∙ firsts.here e h ∙ above_before (copied_firsts k + e) (omega arith) ∙ b.copied.firsts e (omega arith)

    after : (e i : ℕ) → e < n → i < further (at v (COUNTS + e)) → links_at w₅ e (i + 1) ≡ links_at v e (i + 1)
    after e i h l =
        let z = n_is in
        s.here e i h (omega (arith, count e h)) ∙ above (copied_furthers k + all_further w₄ e + i) (omega arith)
        ∙ rw (further_then e (omega arith)) (b.copied.furthers e i (omega arith) l)

    word : (e i c : ℕ) → e < n → i < at v (COUNTS + e) → c ≡ i / 2 → Dec (c ≡ 0) → links_at w₅ e c ≡ links_at v e c
    word e i c h l q (yes x) = rw x (first e h)
    word e i c h l q (no x) = let y : c ≡ c - 1 + 1 = omega arith in rw y (after e (c - 1) h (omega arith))

    -- An entry that was there then has its count, and no other one has any.
    each_count : (e : ℕ) → e < ENTRIES → Dec (e < n) → at w₅ (COUNTS + e) ≡ at v (COUNTS + e)
    each_count e l (yes h) = s.low (COUNTS + e) (omega arith) ∙ count e h
    each_count e l (no h) =
        s.low (COUNTS + e) (omega arith) ∙ firsts.other (COUNTS + e) (λ q. omega arith) ∙ counts.other (COUNTS + e) (λ q. omega arith)
        ∙ maps.other (COUNTS + e) (λ q. omega (arith, m_few)) ∙ off.none e (omega arith) l ∙ sym (b.then_sound.unused e (omega (arith, n_is)) l)

    -- A word below the parents that no copy reaches.
    kept : (j : ℕ) → (MAPS ≤ j → SENTINEL_ENTRY ≤ j) → (COUNTS ≤ j → LEFT ≤ j) → j < PARENTS → at w₅ j ≡ at w₁ j
    kept j p q l =
        s.low j l ∙ firsts.other j (λ x. omega arith) ∙ counts.other j (λ x. omega (arith, n_few, q x)) ∙ maps.other j (λ x. omega (arith, m_few, p x))

    pub cache_brought : CacheBrought v w w₅
    cache_brought =
        let y = n_is in
        let z = m_few in
        let p = b.pairs in
        record {
          used = kept USED (λ x. omega arith) (λ x. omega arith) (omega arith) ∙ off.used ∙ y;
          maps = λ i l.
              s.low (MAPS + i) (omega arith) ∙ firsts.other (MAPS + i) (λ x. omega arith) ∙ counts.other (MAPS + i) (λ x. omega arith) ∙ maps.here i (omega arith)
              ∙ off.high (copied_maps k + i) (omega arith) ∙ b.copied.maps i l;
          counts = λ e l. each_count e l (dec_lt e n);
          links = λ e i h l. link_of_links v w₅ e i (word e i (i / 2) (omega arith) l refl (ℕ_discrete (i / 2) 0));
          heads = λ t l. kept (HEADS + t) (λ x. omega arith) (λ x. omega arith) (omega arith) ∙ off.heads t l ∙ ap (prev (slot_at w) t) y;
          keys = λ j l h. kept j (λ x. omega arith) (λ x. omega arith) (omega arith) ∙ off.keys j l h;
          entry = kept SENTINEL_ENTRY (λ x. omega arith) (λ x. omega arith) (omega arith) ∙ off.low SENTINEL_ENTRY (omega arith);
          low = λ j l. kept j (λ x. omega arith) (λ x. omega arith) (omega arith) ∙ off.low j (omega arith);
          high = λ j l. s.high j l ∙ above j l;
        }
