-- Laws of the copies of undo: what the copies of a save leave together.
-- Assumes nothing.
use mathlib.Core.Path.{◌∙◌}
use mathlib.Core.List.{List}
use Prim.Native.Nat.{ℕ, ◌+◌, ◌≤◌}
use native.Mathlib.Omega.{arith}
use Rattle.words.proofs.Copies.{Copied}
use Rattle.work_layout.specs.Layout.{OPEN, STACK, WRITTEN, DEPTH}
use Rattle.cache_undo.specs.undo_state.Effects.{copied_open, copied_stack, copied_marks, Saved}

-- The three copies of a save.
pub saved : {w u v w' : List ℕ} (k : ℕ) {opens d : ℕ} → opens ≤ 4096 → d ≤ DEPTH
    → Copied w u OPEN (copied_open k) opens → Copied u v STACK (copied_stack k) d → Copied v w' WRITTEN (copied_marks k) 96 → Saved w w' k opens d
saved k short deep a b c =
    record {
      open_pairs = λ i l. c.other (copied_open k + i) (λ q. omega arith) ∙ b.other (copied_open k + i) (λ q. omega arith) ∙ a.here i l;
      places = λ i l.
          c.other (copied_stack k + i) (λ q. omega arith) ∙ b.here i l ∙ a.other (STACK + i) (λ q. omega arith);
      marks = λ i l. c.here i l ∙ b.other (WRITTEN + i) (λ q. omega arith) ∙ a.other (WRITTEN + i) (λ q. omega arith);
      low = λ j l. c.other j (λ q. omega arith) ∙ b.other j (λ q. omega arith) ∙ a.other j (λ q. omega arith);
      high = λ j l. c.other j (λ q. omega arith) ∙ b.other j (λ q. omega arith) ∙ a.other j (λ q. omega arith);
    }
