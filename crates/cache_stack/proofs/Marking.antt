-- Laws of a push, and a mark where the length is not below 4.
-- Assumes nothing.
use mathlib.Core.Path.{ap, ◌∙◌}
use mathlib.Core.Bool.{Bool, ◌||◌}
use mathlib.Core.List.{List}
use Prim.Native.Nat.{ℕ, ◌+◌, ◌≤◌, ◌<◌}
use native.Mathlib.Omega.{arith}
use lib.Dec.{eqb}
use borrow.Author.Tests.{lt-ltb, le-ltb}
use Rattle.work_layout.specs.Layout.{STACK, WRITTEN}
use Rattle.cache_stack.specs.marks.Effects.{Marked}
use Rattle.cache_stack.proofs.marks.Bits.{marked_same}
use Rattle.cache_stack.specs.Effects.{Pushed, PushedMarked}
use Rattle.cache_stack.proofs.Stacks.{stacked_same, stack_same}

module _ {w v : List ℕ} {d e len : ℕ} (p : Pushed w v d e) where
  pub push_only : len < 4 → PushedMarked w v d e len
  push_only h =
      record {
        stacked = p.stacked;
        stack = p.stack;
        marks = λ x l. rw (lt-ltb len 4 h) (marked_same w v x l (λ i m. p.only.high (WRITTEN + i) (omega arith)));
        low = p.only.low;
        high = λ k l. p.only.high k (omega arith);
      }

  module _ {w' : List ℕ} (m : Marked v w' e) where
    pub push_and_mark : 4 ≤ len → PushedMarked w w' d e len
    push_and_mark h =
        record {
          stacked = stacked_same v w' (d + 1) p.stacked (λ k l r. m.low k r);
          stack = stack_same v w' (d + 1) (λ i l. m.low (STACK + i) (omega (arith, p.stacked.deep))) ∙ p.stack;
          marks = λ x l.
              rw (le-ltb len 4 h) (m.marks x l ∙ ap (λ (b : Bool). eqb x e || b) (marked_same w v x l (λ i n. p.only.high (WRITTEN + i) (omega arith))));
          low = λ k l. m.low k (omega arith) ∙ p.only.low k l;
          high = λ k l. m.high k l ∙ p.only.high k (omega arith);
        }
