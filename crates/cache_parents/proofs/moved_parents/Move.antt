-- What the loops over lists of parents leave, turn by turn, and with them `take_parents` and `place_parents`.
-- Assumes nothing.
use Prim.Native.Nat.{ℕ, ◌+◌, ◌*◌, ◌-◌, ◌≤◌, ◌<◌}
use mathlib.Core.Path.{◌≡◌, refl, sym, ap, ◌∙◌}
use mathlib.Core.Bool.{Bool, false}
use mathlib.Core.List.{List, [], ◌++◌}
use native.Mathlib.Omega.{arith}
use native.Mathlib.Decide.{ℕ_discrete, dec_lt}
use lib.ListN.{length, get_or, set, drop, length-set, length-append, length-drop, get_or-append}
use lib.Seq.{get_or-set_same, get_or-set_other, ext_get_or, get_or-drop, get_or-append-add}
use Rattle.words.specs.Words.{at, tabulate}
use Rattle.words.proofs.Words.{length_tabulate, get_d_tabulate, tabulate_same}
use Rattle.spec_session.specs.Cache.{move_parents, no_parents}
use Rattle.work_layout.specs.Layout.{USED, COUNTS, ENTRIES, MAX_PARENTS}
use Rattle.work_layout.specs.Rows.{link_at, moved_at, parent_of, parents_of, moved_of, Sound}
use Rattle.work_layout.specs.Parents.{link_same, moved_same, ParentSet, MovedSet}
use Rattle.cache_entries.specs.table.Effects.{MovedLinks, Taken, Placed}
use Rattle.cache_entries.proofs.table.Single.{RowOnly, row_used, row_sound, row_rows, row_keys, row_counts}
use Rattle.cache_parents.specs.Lists.{Saved, Filled}
use Rattle.cache_parents.proofs.Parents.{count_links}

-- ---- the loops

-- All parents are as they were while those of an entry are saved.
pub saved_links : (w w' : List ℕ) (e n d i : ℕ) → d < ENTRIES → i < MAX_PARENTS → Saved w w' e n → link_at w' d i ≡ link_at w d i
saved_links w w' e n d i h l s = link_same w w' d i h l (λ k a b. s.high k (omega arith))

pub saved_more : (w w₁ w₂ : List ℕ) (e i v : ℕ) → e < ENTRIES → i < MAX_PARENTS → v ≡ link_at w₁ e i → Saved w w₁ e i → MovedSet w₁ w₂ i v → Saved w w₂ e (i + 1)
saved_more w w₁ w₂ e i v h l q s m = record {
  len = m.len ∙ s.len;
  here = λ j k. go j k (ℕ_discrete j i);
  low = λ k x. m.low k x ∙ s.low k x;
  high = λ k x. m.high k x ∙ s.high k x;
}
  where
    go : (j : ℕ) → j < i + 1 → Dec (j ≡ i) → moved_at w₂ j ≡ link_at w e j
    go j k (yes x) = rw x (m.here ∙ q ∙ saved_links w w₁ e i e i h l s)
    go j k (no x) = m.others j x ∙ s.here j (omega arith)

pub filled_none : (w : List ℕ) (e a : ℕ) (f : ℕ → ℕ) → Filled w w e a 0 f
filled_none w e a f =
    record { len = refl; here = λ i l. absurd (omega arith); others = λ d j q n. refl; low = λ k l. refl; high = λ k l. refl }

pub filled_more : (w w₁ w₂ : List ℕ) (e a n i v : ℕ) (f : ℕ → ℕ) → e < ENTRIES → i ≡ a + n → v ≡ f n → Filled w w₁ e a n f → ParentSet w₁ w₂ e i v
    → Filled w w₂ e a (n + 1) f
filled_more w w₁ w₂ e a n i v f h o q s p = record {
  len = p.len ∙ s.len;
  here = λ j l. go j l (ℕ_discrete j n);
  others = λ d j x z. p.others d j x (λ y u. z y (omega arith) (omega arith)) ∙ s.others d j x (λ y u t. z y u (omega arith));
  low = λ k x. p.low k x ∙ s.low k x;
  high = λ k x. p.high k x ∙ s.high k x;
}
  where
    go : (j : ℕ) → j < n + 1 → Dec (j ≡ n) → link_at w₂ e (a + j) ≡ f j
    go j l (yes x) = rw x (ap (link_at w₂ e) (sym o) ∙ p.here ∙ q)
    go j l (no x) = p.others e (a + j) h (λ y u. x (omega arith)) ∙ s.here j (omega arith)

-- Those in MOVED are as they were while a list is filled.
pub still_there : (w w' : List ℕ) {e a n : ℕ} {f : ℕ → ℕ} (i : ℕ) → i < MAX_PARENTS → Filled w w' e a n f → moved_at w' i ≡ moved_at w i
still_there w w' i l s = moved_same w w' i l (λ k a b. s.low k (omega arith))

-- ---- a list goes to MOVED: w₁ after the loop

module _ (w w₁ : List ℕ) (e n : ℕ) (s : Sound w) (h : e < at w USED) (hn : n ≡ at w (COUNTS + e)) (few : n ≤ MAX_PARENTS) (sv : Saved w w₁ e n) where
  w₂ : List ℕ
  w₂ = set w₁ (COUNTS + e) 0

  e_low : e < ENTRIES
  e_low = omega (arith, s.used)

  emptied : at w₂ (COUNTS + e) ≡ 0
  unfolding w₂
  emptied = get_or-set_same w₁ (COUNTS + e) 0 0 (omega (arith, sv.len, s.long, e_low))

  apart : (k : ℕ) → (k ≡ COUNTS + e → ⊥) → at w₂ k ≡ at w₁ k
  unfolding w₂
  apart k d = get_or-set_other w₁ (COUNTS + e) k 0 0 d

  len₂ : length w₂ ≡ length w
  unfolding w₂
  len₂ = simp length-set sv.len

  links₂ : (d i : ℕ) → d < ENTRIES → i < MAX_PARENTS → link_at w₂ d i ≡ link_at w d i
  unfolding w₂
  links₂ d i q l = count_links w₁ e 0 d i e_low q l ∙ saved_links w w₁ e n d i q l sv

  only : RowOnly w w₂ e
  only = record {
    len = len₂;
    same = λ k x y z. apart k z ∙ sv.high k (omega arith);
    others = λ d i q l z. links₂ d i q l;
    high = λ k x. apart k (omega (arith, e_low)) ∙ sv.high k (omega arith);
    few = omega (arith, emptied);
    links = λ i l. absurd (omega (arith, emptied));
  }

  none_left : parents_of w₂ e ≡ []
  unfolding parents_of tabulate
  none_left = rw emptied

  moved_word : (i : ℕ) → i < n → moved_at w₂ i ≡ link_at w e i
  moved_word i l = moved_same w₁ w₂ i (omega arith) (λ k a b. apart k (omega arith)) ∙ sv.here i l

  moved_list : moved_of w₂ n ≡ parents_of w e
  unfolding parents_of moved_of
  moved_list =
      tabulate_same n (λ i. parent_of (link_at w e i)) (λ i. parent_of (moved_at w₂ i)) (λ i l. ap parent_of (moved_word i l))
      ∙ ap (λ (x : ℕ). tabulate x (λ i. parent_of (link_at w e i))) hn

  taken : Taken w w₂ e n
  taken = record {
    sound = row_sound w w₂ e s h only;
    used = row_used w w₂ e s h only;
    few = few;
    rows = row_rows w w₂ e s h only no_parents none_left;
    keys = row_keys w w₂ e s h only;
    moved = moved_list;
    links = λ i l. rw (moved_word i l) (s.links e i e_low (omega arith));
    counts = omega (arith, row_counts w w₂ e s h only, emptied);
    low = λ k a. apart k (omega arith) ∙ sv.low k a;
    maps = λ k a b. apart k (omega arith) ∙ sv.high k a;
    high = only.high;
  }

-- At the place i of the entry.
pub take_list : (w w₁ : List ℕ) (e i n : ℕ) → Sound w → e < at w USED → i ≡ e → n ≡ at w (COUNTS + e) → n ≤ MAX_PARENTS → Saved w w₁ e n
    → Taken w (set w₁ (COUNTS + i) 0) e n
unfolding w₂
take_list w w₁ e i n s h q hn few sv = rw q (taken w w₁ e n s h hn few sv)

-- ---- the parents in MOVED go to the end of a list: w₁ after the first loop, w₂ after the second

module _ (w w₁ w₂ : List ℕ) (e n m d : ℕ) (s : Sound w) (h : e < at w USED) (hn : n ≡ at w (COUNTS + e)) (n_few : n ≤ MAX_PARENTS) (m_few : m ≤ MAX_PARENTS)
    (ml : MovedLinks w m) (hd : d ≡ n + m - MAX_PARENTS) (a : Filled w w₁ e 0 (n - d) (λ i. link_at w e (d + i)))
    (b : Filled w₁ w₂ e (n - d) m (moved_at w₁)) where
  w₃ : List ℕ
  w₃ = set w₂ (COUNTS + e) (n - d + m)

  e-low₃ : e < ENTRIES
  e-low₃ = omega (arith, s.used)

  len₃ : length w₃ ≡ length w
  unfolding w₃
  len₃ = simp length-set (b.len ∙ a.len)

  apart₃ : (k : ℕ) → (k ≡ COUNTS + e → ⊥) → at w₃ k ≡ at w₂ k
  unfolding w₃
  apart₃ k z = get_or-set_other w₂ (COUNTS + e) k (n - d + m) 0 z

  count : at w₃ (COUNTS + e) ≡ n - d + m
  unfolding w₃
  count = get_or-set_same w₂ (COUNTS + e) (n - d + m) 0 (omega (arith, b.len, a.len, s.long, e-low₃))

  links₃ : (c i : ℕ) → c < ENTRIES → i < MAX_PARENTS → link_at w₃ c i ≡ link_at w₂ c i
  unfolding w₃
  links₃ c i q l = count_links w₂ e (n - d + m) c i e-low₃ q l

  -- The first parents come from the list's own end, the others from MOVED.
  front : (i : ℕ) → i < n - d → link_at w₃ e i ≡ link_at w e (d + i)
  front i l =
      let z : i ≡ 0 + i = omega arith in
      links₃ e i e-low₃ (omega arith) ∙ b.others e i e-low₃ (λ x y u. omega arith) ∙ ap (link_at w₁ e) z ∙ a.here i l

  back : (i : ℕ) → i < m → link_at w₃ e (n - d + i) ≡ moved_at w i
  back i l = links₃ e (n - d + i) e-low₃ (omega arith) ∙ b.here i l ∙ still_there w w₁ i (omega arith) a

  links : (i : ℕ) → i < n - d + m → Dec (i < n - d) → link_at w₃ e i < 2 * at w USED
  links i l (yes q) = rw (front i q) (s.links e (d + i) e-low₃ (omega arith))
  links i l (no q) =
      let x : n - d + (i - (n - d)) ≡ i = omega arith in
      let y : link_at w₃ e i ≡ moved_at w (i - (n - d)) = ap (link_at w₃ e) (sym x) ∙ back (i - (n - d)) (omega arith) in
      rw y (ml (i - (n - d)) (omega arith))

  one_list : RowOnly w w₃ e
  one_list = record {
    len = len₃;
    same = λ k x y z. apart₃ k z ∙ b.low k y ∙ a.low k y;
    others = λ c i q l z. links₃ c i q l ∙ b.others c i q (λ x y u. z x) ∙ a.others c i q (λ x y u. z x);
    high = λ k x. apart₃ k (omega (arith, e-low₃)) ∙ b.high k x ∙ a.high k x;
    few = omega (arith, count);
    links = λ i l. links i (rw count at l) (dec_lt i (n - d));
  }

  X : List (ℕ × Bool)
  X = tabulate n (λ i. parent_of (link_at w e i))

  Y : List (ℕ × Bool)
  Y = tabulate m (λ i. parent_of (moved_at w i))

  length_X : length X ≡ n
  unfolding X
  length_X = length_tabulate n (λ i. parent_of (link_at w e i))

  length_Y : length Y ≡ m
  unfolding Y
  length_Y = length_tabulate m (λ i. parent_of (moved_at w i))

  now : ℕ → ℕ × Bool
  now i = parent_of (link_at w₃ e i)

  list : tabulate (n - d + m) now ≡ drop d (X ++ Y)
  unfolding X Y now
  list =
      let l₂ : length (drop d (X ++ Y)) ≡ n - d + m = simp (length-drop, length-append, length_X, length_Y) (omega arith) in
      ext_get_or (0, false) _ _ (length_tabulate (n - d + m) now ∙ sym l₂)
      (λ i l. let q : i < n - d + m = rw length_tabulate at l in get_d_tabulate (n - d + m) now i (0, false) q ∙ go i q (dec_lt i (n - d)))
    where
      go : (i : ℕ) → i < n - d + m → Dec (i < n - d) → now i ≡ get_or (drop d (X ++ Y)) i (0, false)
      go i q (yes l) =
          let x : get_or (drop d (X ++ Y)) i (0, false) ≡ parent_of (link_at w e (d + i)) =
          get_or-drop d (X ++ Y) i (0, false) ∙ get_or-append X Y (0, false) (d + i) (omega (arith, length_X))
          ∙ get_d_tabulate n (λ j. parent_of (link_at w e j)) (d + i) (0, false) (omega arith) in
          ap parent_of (front i l) ∙ sym x
      go i q (no l) =
          let t : ℕ = i - (n - d) in
          let k : d + i ≡ length X + t = omega (arith, length_X) in
          let y : n - d + t ≡ i = omega arith in
          let x : get_or (drop d (X ++ Y)) i (0, false) ≡ parent_of (moved_at w t) =
          get_or-drop d (X ++ Y) i (0, false) ∙ ap (λ (z : ℕ). get_or (X ++ Y) z (0, false)) k ∙ get_or-append-add X Y t (0, false)
          ∙ get_d_tabulate m (λ j. parent_of (moved_at w j)) t (0, false) (omega arith) in
          ap now (sym y) ∙ ap parent_of (back t (omega arith)) ∙ sym x

  parents : parents_of w₃ e ≡ move_parents (moved_of w m) (parents_of w e)
  unfolding parents_of moved_of X Y now
  parents =
      let l : length (X ++ Y) - 100 ≡ d = simp (length-append, length_X, length_Y) (omega arith) in
      rw (count, ← hn, list, l)

  placed : Placed w w₃ e m
  placed = record {
    sound = row_sound w w₃ e s h one_list;
    used = row_used w w₃ e s h one_list;
    rows = row_rows w w₃ e s h one_list (move_parents (moved_of w m)) parents;
    keys = row_keys w w₃ e s h one_list;
    counts = omega (arith, row_counts w w₃ e s h one_list, count);
    kept = record { low = λ k l. apart₃ k (omega arith) ∙ b.low k (omega arith) ∙ a.low k (omega arith); high = one_list.high };
  }

-- At the place i of the entry.
pub place_list : (w w₁ w₂ : List ℕ) (e i n m d : ℕ) → Sound w → e < at w USED → i ≡ e → n ≡ at w (COUNTS + e) → n ≤ MAX_PARENTS → m ≤ MAX_PARENTS
    → MovedLinks w m → d ≡ n + m - MAX_PARENTS → Filled w w₁ e 0 (n - d) (λ j. link_at w e (d + j)) → Filled w₁ w₂ e (n - d) m (moved_at w₁)
    → Placed w (set w₂ (COUNTS + i) (n - d + m)) e m
unfolding w₃
place_list w w₁ w₂ e i n m d s h q hn n_few m_few ml hd a b = rw q (placed w w₁ w₂ e n m d s h hn n_few m_few ml hd a b)
