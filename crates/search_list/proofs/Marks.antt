-- The entries seen are a bit set in the words from SEEN on.
-- Assumes nothing.
use mathlib.Core.Path.{◌≡◌, sym, ap, ◌∙◌}
use mathlib.Core.Bool.{Bool, true, false}
use mathlib.Core.List.{List}
use Prim.Native.Nat.{ℕ, ◌*◌, ◌/◌, ◌%◌, ◌^◌, ◌≤◌, ◌<◌}
use native.Mathlib.Omega.{arith}
use native.Mathlib.Nat.{zero-div}
use borrow.Rule.Slice.PartMut.{put_mid}
use lib.ListN.{length, get_or, set, replicate, get_or-replicate}
use lib.Seq.{get_or-set_same, get_or-set_other}
use Rattle.words.specs.Words.{at, part, WORK}
use Rattle.words.proofs.Words.{part_length, part_at, put_length, put_part, put_at, put_other}
use Rattle.path.specs.Bytes.{odd}
use Rattle.bitset.specs.BitSet.{bits_of}
use Rattle.bitset.specs.BitSetLaws.{bits_of_at, length_bits_of}
use Rattle.work_layout.specs.Layout.{USED, SEEN, ENTRIES}
use Rattle.search_list.specs.State.{seen_at}
use Rattle.search_list.specs.Steps.{Marked, Cleared}

pub seen_length : (w : List ℕ) → WORK ≤ length w → length (part w SEEN 96) ≡ 96
seen_length w long = part_length w SEEN 96 (omega arith)

pub seen_is : (w : List ℕ) → WORK ≤ length w → (e : ℕ) → e < ENTRIES → get_or (bits_of (part w SEEN 96)) e false ≡ seen_at w e
seen_is w long e h =
    bits_of_at (part w SEEN 96) e (omega (arith, seen_length w long)) ∙ ap (λ (x : ℕ). odd (x / 2 ^ (e % 32))) (part_at w SEEN 96 (e / 32) (omega arith))

-- The words came back as r.
module _ (w r : List ℕ) (long : WORK ≤ length w) (len : length r ≡ 96) where
  back : List ℕ
  back = put_mid SEEN 96 w r

  long_back : WORK ≤ length back
  unfolding back
  long_back = omega (arith, put_length SEEN 96 w r (omega arith) len)

  seen_back : (e : ℕ) → e < ENTRIES → seen_at back e ≡ get_or (bits_of r) e false
  unfolding back
  seen_back e h = sym (seen_is back long_back e h) ∙ ap (λ (l : List ℕ). get_or (bits_of l) e false) (put_part SEEN 96 w r (omega arith) len)

  pub marked : (e : ℕ) → e < ENTRIES → bits_of r ≡ set (bits_of (part w SEEN 96)) e true → Marked w (put_mid SEEN 96 w r) e
  unfolding back
  marked e h q = record {
    here =
        seen_back e h ∙ ap (λ (l : List Bool). get_or l e false) q
        ∙ get_or-set_same (bits_of (part w SEEN 96)) e true false (omega (arith, length_bits_of (part w SEEN 96), seen_length w long));
    other = λ k l d.
        seen_back k l ∙ ap (λ (l : List Bool). get_or l k false) q ∙ get_or-set_other (bits_of (part w SEEN 96)) e k true false d ∙ seen_is w long k l;
    low = λ k l. put_other SEEN 96 w r (omega arith) len k (λ j m e. omega arith);
    high = λ k l. put_other SEEN 96 w r (omega arith) len k (λ j m e. omega arith);
  }

-- The first n words came back as zeros.
pub cleared : (w r : List ℕ) (n : ℕ) → WORK ≤ length w → n ≤ 96 → at w USED ≤ 32 * n → length r ≡ n → r ≡ replicate n 0 → Cleared w (put_mid SEEN n w r)
cleared w r n long h u len q = record {
  none = λ x l.
      ap (λ (z : ℕ). odd (z / 2 ^ (x % 32)))
      (put_at SEEN n w r (omega arith) len (x / 32) (omega arith) ∙ ap (λ (z : List ℕ). at z (x / 32)) q ∙ get_or-replicate n (x / 32) 0 0 (omega arith))
      ∙ ap odd (zero-div (2 ^ (x % 32)));
  low = λ k l. put_other SEEN n w r (omega arith) len k (λ j m e. omega arith);
  high = λ k l. put_other SEEN n w r (omega arith) len k (λ j m e. omega arith);
}
