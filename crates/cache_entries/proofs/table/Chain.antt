-- The chains of the table of entries: what they rest on, and that a search needs to look at one chain alone.
-- Assumes nothing.
use Rattle.std.specs.Prelude.{Some, None}
use Rattle.std.specs.Prelude as code
use Prim.Native.Nat.{ℕ, zero, suc, ◌+◌, ◌≤◌, ◌<◌}
use mathlib.Core.Path.{◌≡◌, refl, sym, ap, ◌∙◌}
use mathlib.Core.List.{List}
use mathlib.Core.Option.{none, some}
use native.Mathlib.Omega.{arith}
use Rattle.words.specs.Words.{at}
use Rattle.work_layout.specs.Layout.{USED, LEFT, RIGHT, NEXT, HEADS, PARENTS, ENTRIES}
use Rattle.work_layout.specs.Rows.{row_of, rows_of, slot_of, slot_at, prev, Chained, Distinct, Sound}
use Rattle.work_layout.specs.Prev.{prev_le, prev_same}
use Rattle.work_layout.proofs.Seek.{Seek, seek_first, seek_past, seek_here}
use Rattle.cache_entries.specs.table.Effects.{find_row, HasKey, option_of}
use Rattle.cache_entries.specs.Meaning.{entry_or_none}
use Rattle.work_layout.specs.declared.EntryIndex.{EntryIndex}
use Rattle.cache_entries.proofs.table.Rows.{find_none, find_some}

-- The chains, and that keys are distinct, rest on the words from LEFT to PARENTS, and on USED.
module _ (w w' : List ℕ) (same : (k : ℕ) → LEFT ≤ k → k < PARENTS → at w' k ≡ at w k) (u : at w' USED ≡ at w USED) (few : at w USED ≤ ENTRIES) where
  pub chained_kept : Chained w → Chained w'
  chained_kept ch =
      record {
        heads = λ s h. same (HEADS + s) (omega arith) (omega arith) ∙ ch.heads s h ∙ rw (u, prevs s (at w USED) (omega arith));
        nexts = λ e h. same (NEXT + e) (omega arith) (omega arith) ∙ ch.nexts e (omega arith) ∙ rw (slots e (omega arith), prevs (slot_at w e) e (omega arith));
      }
    where
      slots : (k : ℕ) → k < ENTRIES → slot_at w' k ≡ slot_at w k
      slots k h = rw (same (LEFT + k) (omega arith) (omega arith), same (RIGHT + k) (omega arith) (omega arith))

      prevs : (s n : ℕ) → n ≤ ENTRIES → prev (slot_at w') s n ≡ prev (slot_at w) s n
      prevs s n h = prev_same (slot_at w') (slot_at w) s n (λ k q. slots k (omega arith))

  pub distinct_kept : Distinct w → Distinct w'
  distinct_kept d = record { distinct = go }
    where
      left : (k : ℕ) → k < ENTRIES → at w' (LEFT + k) ≡ at w (LEFT + k)
      left k h = same (LEFT + k) (omega arith) (omega arith)

      right : (k : ℕ) → k < ENTRIES → at w' (RIGHT + k) ≡ at w (RIGHT + k)
      right k h = same (RIGHT + k) (omega arith) (omega arith)

      go : (i j : ℕ) → i < j → j < at w' USED → at w' (LEFT + i) ≡ at w' (LEFT + j) → at w' (RIGHT + i) ≡ at w' (RIGHT + j) → ⊥
      go i j l m a b =
          d.distinct i j l (omega arith) (omega (arith, left i (omega arith), left j (omega arith))) (omega (arith, right i (omega arith), right j (omega arith)))

-- A search at h: none of the entries from h on has the key.
abbrev pub Sought : (w : List ℕ) (l r s h : ℕ) → Type 0
Sought w l r s h = Seek (slot_at w) (λ k. HasKey w k l r) s (at w USED) h

module _ (w : List ℕ) (so : Sound w) (l r s : ℕ) (q : s ≡ slot_of l r) where
  slot : (k : ℕ) → HasKey w k l r → slot_at w k ≡ s
  slot k t = rw (t.0, t.1) (sym q)

  pub seek_start : Sought w l r s (at w (HEADS + s))
  seek_start = rw (so.chained.heads s (omega arith)) (seek_first slot)

  module _ (h e : ℕ) (k : Sought w l r s h) (is_suc : h ≡ suc e) where
    low : e < at w USED
    low = omega (arith, k.low)

    next : at w (NEXT + e) ≡ prev (slot_at w) s e
    next = so.chained.nexts e low ∙ ap (λ (x : ℕ). prev (slot_at w) x e) (seek_here e k is_suc)

    -- No earlier entry has the same key, so the last one is the first one.
    pub seek_found : HasKey w e l r → some e ≡ find_row l r (rows_of w)
    unfolding rows_of
    seek_found t =
        sym (find_some (at w USED) (row_of w) l r e low t.0 t.1 (λ i m a b. so.distinct.distinct i e m low (a ∙ sym t.0) (b ∙ sym t.1)))

    pub seek_less : at w (NEXT + e) < h
    seek_less = let p = prev_le (slot_at w) s e in omega (arith, next)

    pub seek_next : (HasKey w e l r → ⊥) → Sought w l r s (at w (NEXT + e))
    seek_next d = rw next (seek_past slot e k is_suc d)

pub seek_none : (w : List ℕ) (l r s h : ℕ) → Sought w l r s h → h ≡ 0 → none ≡ find_row l r (rows_of w)
unfolding rows_of
seek_none w l r s h k e = sym (find_none (at w USED) (row_of w) l r (λ i m a b. k.passed i (omega arith) m (a, b)))

-- The word that stands for an entry, or for none.
abbrev pub head_of : code.Option EntryIndex → ℕ
head_of (Some e) = suc e.0
head_of None = 0

pub head_is : (r : code.Option EntryIndex) (h : ℕ) → option_of r ≡ entry_or_none h → head_of r ≡ h
head_is (Some e) zero p = absurd (cc)
head_is (Some e) (suc h) p = let q : e.0 ≡ h = cc in ap suc q
head_is None zero p = refl
head_is None (suc h) p = absurd (cc)
