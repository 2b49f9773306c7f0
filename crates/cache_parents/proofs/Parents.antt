-- What the two ways of `add_parent` leave: a parent appended, or one overwritten. And what a store of a count leaves of the parents.
-- Assumes nothing.
use Prim.Native.Nat.{ℕ, ◌+◌, ◌*◌, ◌/◌, ◌%◌, ◌≤◌, ◌<◌}
use mathlib.Core.Path.{◌≡◌, sym, ap, ◌∙◌}
use mathlib.Core.Bool.{Bool, true, false, cond}
use mathlib.Core.List.{List, [], ◌∷◌, ◌++◌}
use native.Mathlib.Omega.{arith}
use native.Mathlib.Decide.{ℕ_discrete}
use lib.Dec.{ltb}
use lib.ListN.{length, set, length-set}
use lib.Seq.{get_or-set_same, get_or-set_other}
use borrow.Author.Tests.{lt-ltb, le-ltb}
use Rattle.words.specs.Words.{at, tabulate}
use Rattle.words.proofs.Words.{length_tabulate, tabulate_more, tabulate_set}
use Rattle.spec_session.specs.Cache.{add_parent}
use Rattle.work_layout.specs.Layout.{USED, COUNTS, ENTRIES, MAX_PARENTS}
use Rattle.work_layout.specs.Rows.{link_at, parent_of, parents_of, Sound}
use Rattle.work_layout.specs.Parents.{link_same, ParentSet}
use Rattle.cache_entries.specs.table.Effects.{ParentAdded}
use Rattle.cache_entries.proofs.table.Single.{RowOnly, row_used, row_sound, row_rows, row_keys, row_counts}

-- A store of a count leaves all parents.
pub count_links : (w : List ℕ) (e v d i : ℕ) → e < ENTRIES → d < ENTRIES → i < MAX_PARENTS → link_at (set w (COUNTS + e) v) d i ≡ link_at w d i
count_links w e v d i h q l = link_same w (set w (COUNTS + e) v) d i q l (λ k a b. get_or-set_other w (COUNTS + e) k v 0 (omega arith))

-- The number of a parent and a position is read as the two.
pub link_code : (p : ℕ) (t : Bool) → parent_of (p * 2 + cond t 1 0) ≡ (p, t)
link_code p true =
    let u : (p * 2 + 1) / 2 ≡ p = omega arith in
    let v : (p * 2 + 1) % 2 ≡ 1 = omega arith in
    rw (u, v)
link_code p false =
    let u : (p * 2 + 0) / 2 ≡ p = omega arith in
    let v : (p * 2 + 0) % 2 ≡ 0 = omega arith in
    rw (u, v)

-- It is one of an entry.
pub link_low : (p link n : ℕ) (t : Bool) → p < n → link ≡ p * 2 + cond t 1 0 → link < 2 * n
link_low p link n true h q = omega arith
link_low p link n false h q = omega arith

-- A full list: the slot that a parent overwrites.
full_list : (p : ℕ) (t : Bool) (ps : List (ℕ × Bool)) → ltb (length ps) 100 ≡ false → add_parent p t ps ≡ set ps ((p + cond t 1 0) % 100) (p, t)
full_list p true ps q = rw q
full_list p false ps q = rw q

-- A list with one parent more.
list_added : (w w' : List ℕ) (e p : ℕ) (t : Bool) → Sound w → e < at w USED → RowOnly w w' e → ((k : ℕ) → k < USED → at w' k ≡ at w k)
    → at w' (COUNTS + e) ≤ at w (COUNTS + e) + 1 → parents_of w' e ≡ add_parent p t (parents_of w e) → ParentAdded w w' e p t
list_added w w' e p t s h r low more q = record {
  sound = row_sound w w' e s h r;
  used = row_used w w' e s h r;
  rows = row_rows w w' e s h r (add_parent p t) q;
  keys = row_keys w w' e s h r;
  counts = omega (arith, row_counts w w' e s h r);
  kept = record { low = low; high = r.high };
}

-- w₁ has the number at place i.
module _ (w w₁ : List ℕ) (e p link n i : ℕ) (t : Bool) (s : Sound w) (h : e < at w USED) (hp : p < at w USED) (hl : link ≡ p * 2 + cond t 1 0)
    (hn : n ≡ at w (COUNTS + e)) (a : ParentSet w w₁ e i link) where
  e_low : e < ENTRIES
  e_low = omega (arith, s.used)

  code : parent_of link ≡ (p, t)
  code = ap parent_of hl ∙ link_code p t

  pushed_list : i ≡ n → n < MAX_PARENTS → ParentAdded w (set w₁ (COUNTS + e) (n + 1)) e p t
  unfolding parents_of
  pushed_list q l =
      list_added w w₂ e p t s h r (λ k x. get_or-set_other w₁ (COUNTS + e) k (n + 1) 0 (omega arith) ∙ a.low k (omega arith)) (omega (arith, count)) list
    where
      w₂ : List ℕ
      w₂ = set w₁ (COUNTS + e) (n + 1)

      count : at w₂ (COUNTS + e) ≡ n + 1
      count = get_or-set_same w₁ (COUNTS + e) (n + 1) 0 (omega (arith, a.len, s.long, e_low))

      link₂ : (d j : ℕ) → d < ENTRIES → j < MAX_PARENTS → link_at w₂ d j ≡ link_at w₁ d j
      link₂ d j x y = count_links w₁ e (n + 1) d j e_low x y

      old : (j : ℕ) → j < n → link_at w₂ e j ≡ link_at w e j
      old j y = link₂ e j e_low (omega arith) ∙ a.others e j e_low (λ x z. omega arith)

      last : link_at w₂ e n ≡ link
      last = link₂ e n e_low l ∙ ap (link_at w₁ e) (sym q) ∙ a.here

      links : (j : ℕ) → j < n + 1 → Dec (j ≡ n) → link_at w₂ e j < 2 * at w USED
      links j y (yes x) = rw (x, last) (link_low p link (at w USED) t hp hl)
      links j y (no x) = rw (old j (omega arith)) (s.links e j e_low (omega arith))

      r : RowOnly w w₂ e
      r = record {
        len = simp length-set a.len;
        same = λ k x y z. get_or-set_other w₁ (COUNTS + e) k (n + 1) 0 z ∙ a.low k y;
        others = λ d j x y z. link₂ d j x y ∙ a.others d j x (λ u v. z u);
        high = λ k x. get_or-set_other w₁ (COUNTS + e) k (n + 1) 0 (omega (arith, e_low)) ∙ a.high k x;
        few = omega (arith, count);
        links = λ j y. links j (rw count at y) (ℕ_discrete j n);
      }

      list : parents_of w₂ e ≡ add_parent p t (parents_of w e)
      list =
          let f : ℕ → ℕ × Bool = λ j. parent_of (link_at w e j) in
          let g : ℕ → ℕ × Bool = λ j. parent_of (link_at w₂ e j) in
          let more : tabulate (n + 1) g ≡ tabulate n f ++ (p, t) ∷ [] =
          tabulate_more n f g (λ j y. ap parent_of (old j y)) ∙ ap (λ (x : ℕ × Bool). tabulate n f ++ x ∷ []) (ap parent_of last ∙ code) in
          rw (count, more, ← hn, lt-ltb (length (tabulate n f)) 100 (rw (length_tabulate n f) l))

  pub replaced : i ≡ (p + cond t 1 0) % 100 → MAX_PARENTS ≤ n → ParentAdded w w₁ e p t
  unfolding parents_of
  replaced q l = list_added w w₁ e p t s h r (λ k x. a.low k (omega arith)) (omega (arith, count)) list
    where
      count : at w₁ (COUNTS + e) ≡ n
      count = a.low (COUNTS + e) (omega (arith, e_low)) ∙ sym hn

      few : n ≤ MAX_PARENTS
      few = omega (arith, s.counts e e_low)

      old : (j : ℕ) → (j ≡ i → ⊥) → link_at w₁ e j ≡ link_at w e j
      old j d = a.others e j e_low (λ x y. d y)

      links : (j : ℕ) → j < n → Dec (j ≡ i) → link_at w₁ e j < 2 * at w USED
      links j y (yes x) = rw (x, a.here) (link_low p link (at w USED) t hp hl)
      links j y (no x) = rw (old j x) (s.links e j e_low (omega arith))

      r : RowOnly w w₁ e
      r = record {
        len = a.len;
        same = λ k x y z. a.low k y;
        others = λ d j x y z. a.others d j x (λ u v. z u);
        high = a.high;
        few = omega (arith, count, few);
        links = λ j y. links j (rw count at y) (ℕ_discrete j i);
      }

      list : parents_of w₁ e ≡ add_parent p t (parents_of w e)
      list =
          let f : ℕ → ℕ × Bool = λ j. parent_of (link_at w e j) in
          let g : ℕ → ℕ × Bool = λ j. parent_of (link_at w₁ e j) in
          let ps : List (ℕ × Bool) = tabulate n f in
          let made : tabulate n g ≡ set ps i (p, t) =
          tabulate_set n f g i (omega arith) (λ j y d. ap parent_of (old j d)) ∙ ap (λ (x : ℕ × Bool). set ps i x) (ap parent_of a.here ∙ code) in
          let asked : add_parent p t ps ≡ set ps i (p, t) =
          full_list p t ps (le-ltb (length ps) 100 (rw (length_tabulate n f) l)) ∙ ap (λ (x : ℕ). set ps x (p, t)) (sym q) in
          rw (count, made, ← hn) (sym asked)

  -- At the place k of the entry.
  pub pushed : (k : ℕ) → k ≡ e → i ≡ n → n < MAX_PARENTS → ParentAdded w (set w₁ (COUNTS + k) (n + 1)) e p t
  pushed k q x l = rw q (pushed_list x l)
