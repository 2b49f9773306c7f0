-- Laws of the stack: which words it depends on, what a push leaves, and that TOPS says where each entry stands highest.
-- Assumes nothing.
use mathlib.Core.Path.{◌≡◌, refl, sym, ap, ◌∙◌}
use mathlib.Core.List.{List, [], ◌∷◌}
use Prim.Native.Nat.{ℕ, zero, suc, ◌+◌, ◌≤◌, ◌<◌}
use native.Mathlib.Omega.{arith}
use native.Mathlib.Numerals.{add-one}
use native.Mathlib.Decide.{ℕ_discrete}
use lib.ListN.{length, set}
use Rattle.words.specs.Words.{at, WORK}
use Rattle.words.proofs.Words.{Store, stores, miss, hits}
use Rattle.work_layout.specs.Layout.{STACK, BELOW, TOPS, WRITTEN, ENTRIES, DEPTH}
use Rattle.work_layout.specs.Rows.{prev, stack_of, Tops}
use Rattle.cache_stack.specs.Effects.{Stacked, Pushed}
use Rattle.work_layout.specs.Prev.{prev_le, prev_same, prev_here, prev_past, prev_holds, prev_above}

-- What the search asks of TOPS.
pub stacked_tops : (w : List ℕ) (d : ℕ) → Stacked w d → Tops w d
stacked_tops w d s =
    record {
      deep = s.deep;
      tops = λ x h. rw (s.tops x h) (prev_le _ x d);
      holds = λ x h. rw (s.tops x h) (prev_holds (λ k. at w (STACK + k)) x d);
      above = λ x j h. rw (s.tops x h) (prev_above (λ k. at w (STACK + k)) x d j);
    }

-- An empty stack, where TOPS is all zero.
pub stacked_none : (w : List ℕ) → ((x : ℕ) → x < ENTRIES → at w (TOPS + x) ≡ 0) → Stacked w 0
unfolding prev
stacked_none w h = record { deep = omega arith; entries = λ i l. absurd (omega arith); tops = h; below = λ i l. absurd (omega arith) }

-- d entries are those of their d words.
pub stack_same : (w w' : List ℕ) (d : ℕ) → ((i : ℕ) → i < d → at w' (STACK + i) ≡ at w (STACK + i)) → stack_of w' d ≡ stack_of w d
unfolding stack_of
stack_same w w' zero h = refl
stack_same w w' (suc d) h = λ i. h d (omega arith) i ∷ stack_same w w' d (λ k l. h k (omega arith)) i

pub stack_more : (w : List ℕ) (d : ℕ) → stack_of w (d + 1) ≡ at w (STACK + d) ∷ stack_of w d
unfolding stack_of
stack_more w d = ap (stack_of w) (add-one d)

-- The stack depends on the words from STACK to WRITTEN alone.
pub stacked_same : (w w' : List ℕ) (d : ℕ) → Stacked w d → ((k : ℕ) → STACK ≤ k → k < WRITTEN → at w' k ≡ at w k) → Stacked w' d
stacked_same w w' d s h =
    record {
      deep = s.deep;
      entries = λ i l. rw (place i l) (s.entries i l);
      tops = λ x l. h (TOPS + x) (omega arith) (omega arith) ∙ s.tops x l ∙ prev_same _ _ x d (λ k m. sym (place k m));
      below = λ i l.
          h (BELOW + i) (omega (arith, s.deep)) (omega (arith, s.deep)) ∙ s.below i l
          ∙ prev_same _ _ (at w (STACK + i)) i (λ k m. sym (place k (omega arith)))
          ∙ ap (λ (x : ℕ). prev (λ k. at w' (STACK + k)) x i) (sym (place i l));
    }
  where
    place : (i : ℕ) → i < d → at w' (STACK + i) ≡ at w (STACK + i)
    place i l = h (STACK + i) (omega arith) (omega (arith, s.deep))

-- ---- push

module _ (w : List ℕ) (d e : ℕ) (long : WORK ≤ length w) (s : Stacked w d) (room : d < DEPTH) (small : e < ENTRIES) where
  push_stores : List Store
  push_stores =
      record { to = STACK + d; word = e } ∷ record { to = BELOW + d; word = at w (TOPS + e) } ∷ record { to = TOPS + e; word = d + 1 } ∷ []

  after_push : List ℕ
  after_push = stores w push_stores

  push_other : (k : ℕ) → (k ≡ STACK + d → ⊥) → (k ≡ BELOW + d → ⊥) → (k ≡ TOPS + e → ⊥) → at after_push k ≡ at w k
  unfolding after_push push_stores
  push_other k p q r = miss push_stores w k (p, (q, (r, tt)))

  push_top : at after_push (STACK + d) ≡ e
  unfolding after_push push_stores
  push_top = hits push_stores 0 w (omega arith) (omega arith) (omega arith)

  push_was : at after_push (BELOW + d) ≡ at w (TOPS + e)
  unfolding after_push push_stores
  push_was = hits push_stores 1 w (omega arith) (omega arith) (omega arith)

  push_is : at after_push (TOPS + e) ≡ d + 1
  unfolding after_push push_stores
  push_is = hits push_stores 2 w (omega arith) (omega arith) tt

  push_place : (i : ℕ) → i < d → at after_push (STACK + i) ≡ at w (STACK + i)
  push_place i l = push_other (STACK + i) (omega arith) (omega arith) (omega arith)

  push_tops : (x : ℕ) → x < ENTRIES → Dec (x ≡ e) → at after_push (TOPS + x) ≡ prev (λ k. at after_push (STACK + k)) x (d + 1)
  push_tops x l (yes q) = rw q (push_is ∙ sym (prev_here (λ k. at after_push (STACK + k)) e d push_top))
  push_tops x l (no q) =
      push_other (TOPS + x) (omega arith) (omega arith) (omega arith) ∙ s.tops x l ∙ prev_same _ _ x d (λ k m. sym (push_place k m))
      ∙ sym (prev_past (λ k. at after_push (STACK + k)) x d (λ r. q (sym r ∙ push_top)))

  push_below : (i : ℕ) → i < d + 1 → Dec (i ≡ d) → at after_push (BELOW + i) ≡ prev (λ k. at after_push (STACK + k)) (at after_push (STACK + i)) i
  push_below i l (yes q) =
      rw q (push_was ∙ s.tops e small ∙ prev_same _ _ e d (λ k m. sym (push_place k m)) ∙ ap (λ (x : ℕ). prev (λ k. at after_push (STACK + k)) x d) (sym push_top))
  push_below i l (no q) =
      push_other (BELOW + i) (omega arith) (omega arith) (omega arith) ∙ s.below i (omega arith)
      ∙ prev_same _ _ (at w (STACK + i)) i (λ k m. sym (push_place k (omega arith)))
      ∙ ap (λ (x : ℕ). prev (λ k. at after_push (STACK + k)) x i) (sym (push_place i (omega arith)))

  push_entries : (i : ℕ) → i < d + 1 → Dec (i ≡ d) → at after_push (STACK + i) < ENTRIES
  push_entries i l (yes q) = rw (q, push_top) small
  push_entries i l (no q) = rw (push_place i (omega arith)) (s.entries i (omega arith))

  pub pushed : Pushed w (set (set (set w (STACK + d) e) (BELOW + d) (at w (TOPS + e))) (TOPS + e) (d + 1)) d e
  unfolding after_push push_stores
  pushed =
      record {
        stacked = record {
          deep = omega arith;
          entries = λ i l. push_entries i l (ℕ_discrete i d);
          tops = λ x l. push_tops x l (ℕ_discrete x e);
          below = λ i l. push_below i l (ℕ_discrete i d);
        };
        stack = stack_more after_push d ∙ (λ i. push_top i ∷ stack_same w after_push d push_place i);
        top = push_top;
        places = push_place;
        only = record {
          low = λ k l. push_other k (omega arith) (omega arith) (omega arith);
          high = λ k l. push_other k (omega arith) (omega arith) (omega arith);
        };
      }
