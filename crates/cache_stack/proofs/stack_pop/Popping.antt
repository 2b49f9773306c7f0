-- Laws of the stack: what a pop leaves.
-- Assumes nothing.
use mathlib.Core.Path.{◌≡◌, sym, ap, ◌∙◌}
use mathlib.Core.List.{List, ◌∷◌}
use Prim.Native.Nat.{ℕ, ◌+◌, ◌-◌, ◌≤◌, ◌<◌}
use native.Mathlib.Omega.{arith}
use native.Mathlib.Decide.{ℕ_discrete}
use lib.ListN.{length, set}
use lib.Seq.{get_or-set_same, get_or-set_other}
use Rattle.words.specs.Words.{at, WORK}
use Rattle.work_layout.specs.Layout.{STACK, BELOW, TOPS, ENTRIES}
use Rattle.work_layout.specs.Rows.{prev, stack_of}
use Rattle.work_layout.specs.Prev.{prev_same, prev_past}
use Rattle.cache_stack.specs.Effects.{Stacked, Popped}
use Rattle.cache_stack.proofs.Stacks.{stack_same, stack_more}

module _ (w : List ℕ) (d x : ℕ) (long : WORK ≤ length w) (s : Stacked w d) (some_left : 0 < d) (is-top : x ≡ at w (STACK + (d - 1))) where
  pop_small : x < ENTRIES
  pop_small = rw is-top (s.entries (d - 1) (omega arith))

  after_pop : List ℕ
  after_pop = set w (TOPS + x) (at w (BELOW + (d - 1)))

  pop_other : (k : ℕ) → (k ≡ TOPS + x → ⊥) → at after_pop k ≡ at w k
  unfolding after_pop
  pop_other k p = get_or-set_other w (TOPS + x) k (at w (BELOW + (d - 1))) 0 p

  pop_top : at after_pop (TOPS + x) ≡ at w (BELOW + (d - 1))
  unfolding after_pop
  pop_top = get_or-set_same w (TOPS + x) (at w (BELOW + (d - 1))) 0 (omega (arith, pop_small))

  pop_place : (i : ℕ) → i < d → at after_pop (STACK + i) ≡ at w (STACK + i)
  pop_place i l = pop_other (STACK + i) (omega (arith, s.deep))

  pop_one : d ≡ d - 1 + 1
  pop_one = omega arith

  -- What TOPS says of an entry that is not the top.
  pop_past : (y : ℕ) → (y ≡ x → ⊥) → prev (λ k. at w (STACK + k)) y d ≡ prev (λ k. at w (STACK + k)) y (d - 1)
  pop_past y q =
      ap (prev (λ k. at w (STACK + k)) y) pop_one ∙ prev_past (λ k. at w (STACK + k)) y (d - 1) (λ r. q (sym r ∙ sym is-top))

  pop_tops : (y : ℕ) → y < ENTRIES → Dec (y ≡ x) → at after_pop (TOPS + y) ≡ prev (λ k. at after_pop (STACK + k)) y (d - 1)
  pop_tops y l (yes q) =
      rw q (pop_top ∙ s.below (d - 1) (omega arith) ∙ ap (λ (z : ℕ). prev (λ k. at w (STACK + k)) z (d - 1)) (sym is-top)
      ∙ prev_same _ _ x (d - 1) (λ k m. sym (pop_place k (omega arith))))
  pop_tops y l (no q) =
      pop_other (TOPS + y) (omega arith) ∙ s.tops y l ∙ pop_past y q ∙ prev_same _ _ y (d - 1) (λ k m. sym (pop_place k (omega arith)))

  pop_below : (i : ℕ) → i < d - 1 → at after_pop (BELOW + i) ≡ prev (λ k. at after_pop (STACK + k)) (at after_pop (STACK + i)) i
  pop_below i l =
      pop_other (BELOW + i) (omega (arith, s.deep)) ∙ s.below i (omega arith)
      ∙ prev_same _ _ (at w (STACK + i)) i (λ k m. sym (pop_place k (omega arith)))
      ∙ ap (λ (z : ℕ). prev (λ k. at after_pop (STACK + k)) z i) (sym (pop_place i (omega arith)))

  pub popped : Popped w (set w (TOPS + x) (at w (BELOW + (d - 1)))) d
  unfolding after_pop
  popped =
      record {
        stacked = record {
          deep = omega (arith, s.deep);
          entries = λ i l. rw (pop_place i (omega arith)) (s.entries i (omega arith));
          tops = λ y l. pop_tops y l (ℕ_discrete y x);
          below = pop_below;
        };
        stack = ap (stack_of w) pop_one ∙ stack_more w (d - 1)
            ∙ ap {B = List ℕ} (λ r. at w (STACK + (d - 1)) ∷ r) (sym (stack_same w after_pop (d - 1) (λ i l. pop_place i (omega arith))));
        places = λ i l. pop_place i (omega arith);
        only = record { low = λ k l. pop_other k (omega arith); high = λ k l. pop_other k (omega (arith, pop_small)) };
      }
