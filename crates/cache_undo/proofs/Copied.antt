-- Laws of the copies of undo: what the copies of a restore leave together.
-- Assumes nothing.
use mathlib.Core.Path.{◌≡◌, ◌∙◌}
use mathlib.Core.List.{List}
use Prim.Native.Nat.{ℕ, ◌+◌, ◌≤◌}
use native.Mathlib.Omega.{arith}
use Rattle.words.specs.Words.{at}
use Rattle.words.proofs.Copies.{Copied}
use Rattle.work_layout.specs.Layout.{OPEN, STACK, WRITTEN, MOVED, COPIES}
use Rattle.cache_stack.proofs.Stacks.{stacked_same}
use Rattle.cache_undo.specs.undo_state.Effects.{copied_open, copied_stack, copied_marks}
use Rattle.cache_undo.specs.Effects.{PoppedAll, PushedAll, Restored}

-- The present stack goes, the copy's is pushed, and open pairs and marks are copied back.
module _ {w t u v w' : List ℕ} (k : ℕ) {opens d : ℕ} (short : opens ≤ 4096)
    (gone : PoppedAll w t) (back : PushedAll t u (copied_stack k) d)
    (pairs : Copied u v (copied_open k) OPEN opens) (bits : Copied v w' (copied_marks k) WRITTEN 96) where
  -- A word that no copy reaches.
  restore_kept : (j : ℕ) → (OPEN ≤ j → OPEN + opens ≤ j) → (WRITTEN ≤ j → MOVED ≤ j) → at w' j ≡ at u j
  restore_kept j p q = bits.other j (λ r. q r) ∙ pairs.other j p

  -- A copy's word is as it was before.
  restore_still : (j : ℕ) → COPIES ≤ j → at u j ≡ at w j
  restore_still j l = back.only.high j (omega arith) ∙ gone.only.high j (omega arith)

  pub restored : Restored w w' k opens d
  restored =
      record {
        stacked = stacked_same u w' d back.stacked (λ j l m. restore_kept j (λ q. omega arith) (λ q. omega arith));
        open_pairs = λ i l. bits.other (OPEN + i) (λ q. omega arith) ∙ pairs.here i l ∙ restore_still (copied_open k + i) (omega arith);
        places = λ i l.
            restore_kept (STACK + i) (λ q. omega arith) (λ q. omega (arith, back.stacked.deep)) ∙ back.places i l
            ∙ gone.only.high (copied_stack k + i) (omega arith);
        marks = λ i l. bits.here i l ∙ pairs.other (copied_marks k + i) (λ q. omega arith) ∙ restore_still (copied_marks k + i) (omega arith);
        low = λ j l. restore_kept j (λ q. omega arith) (λ q. omega arith) ∙ back.only.low j (omega arith) ∙ gone.only.low j (omega arith);
        later = λ j l m. restore_kept j (λ q. l) (λ q. omega arith) ∙ back.only.low j m ∙ gone.only.low j m;
        high = λ j l. restore_kept j (λ q. omega arith) (λ q. l) ∙ back.only.high j (omega arith) ∙ gone.only.high j (omega arith);
      }
