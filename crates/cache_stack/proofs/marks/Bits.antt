-- Laws of the marks: which words they depend on, and what a bit that is set leaves.
-- Assumes nothing.
use mathlib.Core.Path.{◌≡◌, sym, ap, ◌∙◌}
use mathlib.Core.Bool.{Bool, true, false, ◌||◌}
use mathlib.Core.List.{List}
use Prim.Native.Nat.{ℕ, ◌+◌, ◌/◌, ◌%◌, ◌^◌, ◌≤◌, ◌<◌}
use native.Mathlib.Omega.{arith}
use native.Mathlib.Decide.{ℕ_discrete}
use lib.Dec.{eqb}
use lib.ListN.{length, get_or, set}
use lib.Seq.{get_or-set_same, get_or-set_other}
use borrow.Author.Tests.{eq-eqb, ne_eqb}
use borrow.Rule.Slice.PartMut.{put_mid}
use Rattle.words.specs.Words.{at, part, WORK}
use Rattle.words.proofs.Words.{part_length, part_at, put_length, put_part, put_other}
use Rattle.path.specs.Bytes.{odd}
use Rattle.bitset.specs.BitSet.{bits_of}
use Rattle.bitset.specs.BitSetLaws.{bits_of_at, length_bits_of}
use Rattle.work_layout.specs.Layout.{WRITTEN, ENTRIES}
use Rattle.cache_stack.specs.marks.Effects.{marked_at, Marked}

-- A mark depends on the words from WRITTEN to MOVED alone.
pub marked_same : (w w' : List ℕ) (x : ℕ) → x < ENTRIES → ((i : ℕ) → i < 96 → at w' (WRITTEN + i) ≡ at w (WRITTEN + i)) → marked_at w' x ≡ marked_at w x
unfolding marked_at
marked_same w w' x l h = ap (λ (y : ℕ). odd (y / 2 ^ (x % 32))) (h (x / 32) (omega arith))

-- The mark is the bit of the lent part.
pub marked_part : (w : List ℕ) (x : ℕ) → WORK ≤ length w → x < ENTRIES → get_or (bits_of (part w WRITTEN 96)) x false ≡ marked_at w x
unfolding marked_at
marked_part w x long l =
    bits_of_at (part w WRITTEN 96) x (omega (arith, part_length w WRITTEN 96 (omega arith)))
    ∙ ap (λ (y : ℕ). odd (y / 2 ^ (x % 32))) (part_at w WRITTEN 96 (x / 32) (omega arith))

-- The part comes back with bit e set.
module _ (w r : List ℕ) (e : ℕ) (long : WORK ≤ length w) (small : e < ENTRIES) (len : length r ≡ 96)
    (bit : bits_of r ≡ set (bits_of (part w WRITTEN 96)) e true) where
  after_mark : List ℕ
  after_mark = put_mid WRITTEN 96 w r

  mark_fits : WRITTEN + 96 ≤ length w
  mark_fits = omega arith

  mark_bits : (x : ℕ) → x < ENTRIES → marked_at after_mark x ≡ get_or (set (bits_of (part w WRITTEN 96)) e true) x false
  unfolding after_mark
  mark_bits x l =
      sym (marked_part after_mark x (omega (arith, put_length WRITTEN 96 w r mark_fits len)) l)
      ∙ ap (λ (z : List ℕ). get_or (bits_of z) x false) (put_part WRITTEN 96 w r mark_fits len) ∙ ap (λ (z : List Bool). get_or z x false) bit

  mark_each : (x : ℕ) → x < ENTRIES → Dec (x ≡ e) → marked_at after_mark x ≡ (eqb x e || marked_at w x)
  mark_each x l (yes q) =
      mark_bits x l
      ∙ rw (eq-eqb x e q, q) (get_or-set_same (bits_of (part w WRITTEN 96)) e true false
      (omega (arith, length_bits_of (part w WRITTEN 96), part_length w WRITTEN 96 mark_fits)))
  mark_each x l (no q) =
      rw (ne_eqb x e q) (mark_bits x l ∙ get_or-set_other (bits_of (part w WRITTEN 96)) e x true false q ∙ marked_part w x long l)

  pub marked : Marked w (put_mid WRITTEN 96 w r) e
  unfolding after_mark
  marked =
      record {
        marks = λ x l. mark_each x l (ℕ_discrete x e);
        low = λ k l. put_other WRITTEN 96 w r mark_fits len k (λ j m q. omega arith);
        high = λ k l. put_other WRITTEN 96 w r mark_fits len k (λ j m q. omega arith);
      }
