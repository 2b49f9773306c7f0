-- The bits of a path by its bytes: bit i is bit i % 8 of the byte i / 8 from the end.
-- Assumes nothing.
use Prim.Native.Nat.{ℕ, zero, suc, ◌+◌, ◌-◌, ◌*◌, ◌/◌, ◌%◌, ◌^◌, ◌≤◌, ◌<◌}
use mathlib.Core.Path.{◌≡◌, sym, ap, ◌∙◌}
use mathlib.Core.Bool.{Bool, false}
use mathlib.Core.List.{List, [], ◌∷◌, ◌++◌}
use mathlib.Core.Option.{Option, none, some, none-ne-some, some-injective}
use native.Mathlib.Omega.{arith}
use lib.ListN.{length, get_or, drop, length-append, length-drop, get_or-append}
use lib.Seq.{get_or-append-add}
use Rattle.words.specs.Choice.{by_lt}
use Rattle.words.specs.Lists.{Bytes, all_at}
use Rattle.path.specs.Bytes.{odd, low_bits, below_top, all_bits, read_path}
use Rattle.path.proofs.BytesLaws.{length_all_bits, length_low_bits, low_bits_at}
use Rattle.path.specs.Traverse.{msb_mask, zeros_in_front}
use Rattle.path.proofs.TraverseLaws.{Top, top_byte, mask_is, place_is, zeros_within, after_zeros, none_all_zeros, read_from}
use Rattle.path.specs.Answers.{counted}

-- ---- how many bits

pub counted_none : (bs : List ℕ) → length bs ≤ zeros_in_front bs → ◌≡◌ {A = Option ℕ} none (counted (read_path bs))
counted_none bs h = rw (none_all_zeros bs (omega (arith, zeros_within bs)))

-- The byte after the zeros in front, with the place of its most significant set bit.
pub first_top : (bs : List ℕ) → Bytes bs → zeros_in_front bs < length bs → Top 7 (get_or bs (zeros_in_front bs) 0)
first_top bs b h = top_byte (get_or bs (zeros_in_front bs) 0) (after_zeros bs h) (all_at (λ (n : ℕ). n < 256) bs 0 (zeros_in_front bs) b h)

-- The mask of that byte is not 0, and a power of two from the mask up, below twice the mask, is one from the byte down, above half of it.
pub some_mask : (bs : List ℕ) → Bytes bs → (z mask : ℕ) → z ≡ zeros_in_front bs → z < length bs → mask ≡ msb_mask (get_or bs z 0) → 0 < mask
some_mask bs b z mask e h m =
    let t = first_top bs b (omega arith) in
    omega (arith, rw e at m, t.mask, t.below)

pub mask_at : (bs : List ℕ) → Bytes bs → (z mask r : ℕ) → z ≡ zeros_in_front bs → z < length bs → mask ≡ msb_mask (get_or bs z 0) → 2 ^ r ≤ mask → mask < 2 * 2 ^ r
    → (2 ^ r ≤ get_or bs z 0) × (get_or bs z 0 < 2 * 2 ^ r)
mask_at bs b z mask r e h m from below =
    let t = first_top bs b (omega arith) in
    let place : r ≡ t.place = mask_is t r (omega (arith, rw e at m, from)) (omega (arith, rw e at m, below)) in
    rw (e, place) (t.from, t.below)

-- Eight bits for each byte after the first that is not 0, and those of that byte below its most significant set bit.
pub counted_bits : (bs : List ℕ) → Bytes bs → (z r : ℕ) → z ≡ zeros_in_front bs → z < length bs → 2 ^ r ≤ get_or bs z 0 → get_or bs z 0 < 2 * 2 ^ r
    → some (8 * (length bs - 1 - z) + r) ≡ counted (read_path bs)
counted_bits bs b z r e h from below =
    let here : zeros_in_front bs < length bs = omega arith in
    let t = first_top bs b here in
    let place : r ≡ t.place = place_is t r (rw e at from) (rw e at below) in
    let long : length (all_bits (drop (zeros_in_front bs + 1) bs) ++ below_top 7 (get_or bs (zeros_in_front bs) 0)) ≡ 8 * (length bs - 1 - z) + r =
    omega (
      arith,
      length-append (all_bits (drop (zeros_in_front bs + 1) bs)) (below_top 7 (get_or bs (zeros_in_front bs) 0)),
      length_all_bits (drop (zeros_in_front bs + 1) bs),
      length-drop (zeros_in_front bs + 1) bs,
      ap length t.bits,
      length_low_bits t.place (get_or bs (zeros_in_front bs) 0),
    ) in
    rw (read_from bs here) (ap {B = Option ℕ} some (sym long))

-- ---- bit i

all_bits_high : (b : ℕ) (bs : List ℕ) (i : ℕ) → 8 * length bs ≤ i → i < 8 * suc (length bs)
    → get_or (all_bits bs ++ low_bits 8 b) i false ≡ odd (get_or (b ∷ bs) (suc (length bs) - 1 - i / 8) 0 / 2 ^ (i % 8))
all_bits_high b bs i l h =
    ap (λ (n : ℕ). get_or (all_bits bs ++ low_bits 8 b) n false) split
    ∙ get_or-append-add (all_bits bs) (low_bits 8 b) (i % 8) false
    ∙ low_bits_at 8 b (i % 8) (omega arith)
    ∙ ap (λ (k : ℕ). odd (get_or (b ∷ bs) k 0 / 2 ^ (i % 8))) first
  where
    split : i ≡ length (all_bits bs) + i % 8
    split = omega (arith, length_all_bits bs)

    first : 0 ≡ suc (length bs) - 1 - i / 8
    first = omega arith

all_bits_low : (b : ℕ) (bs : List ℕ) (i : ℕ) → i < 8 * length bs → get_or (all_bits bs) i false ≡ odd (get_or bs (length bs - 1 - i / 8) 0 / 2 ^ (i % 8))
    → get_or (all_bits bs ++ low_bits 8 b) i false ≡ odd (get_or (b ∷ bs) (suc (length bs) - 1 - i / 8) 0 / 2 ^ (i % 8))
all_bits_low b bs i l e =
    get_or-append (all_bits bs) (low_bits 8 b) false i (omega (arith, length_all_bits bs))
    ∙ e
    ∙ ap (λ (k : ℕ). odd (get_or (b ∷ bs) k 0 / 2 ^ (i % 8))) next
  where
    next : suc (length bs - 1 - i / 8) ≡ suc (length bs) - 1 - i / 8
    next = omega arith

-- Bit i of bytes, from the last byte's lowest up.
pub all_bits_at : (bs : List ℕ) (i : ℕ) → i < 8 * length bs → get_or (all_bits bs) i false ≡ odd (get_or bs (length bs - 1 - i / 8) 0 / 2 ^ (i % 8))
unfolding all_bits
all_bits_at [] i h = absurd (omega arith)
all_bits_at (b ∷ bs) i h = by_lt i (8 * length bs) (λ l. all_bits_low b bs i l (all_bits_at bs i l)) (λ l. all_bits_high b bs i l h)

-- The bits of a path are the lowest ones of its bytes.
pub record Lowest (bs : List ℕ) (bits : List Bool) : Type 0 where
  pub short : length bits ≤ 8 * length bs
  pub same : (i : ℕ) → i < length bits → get_or bits i false ≡ get_or (all_bits bs) i false

lowest_first : (b : ℕ) (bs : List ℕ) → 0 < b → b < 256 → Lowest (b ∷ bs) (all_bits bs ++ below_top 7 b)
unfolding all_bits
lowest_first b bs p l =
    record {
      short = omega (arith, long, t.small);
      same = λ i h. by_lt i (length (all_bits bs))
          (λ s. get_or-append (all_bits bs) (below_top 7 b) false i s ∙ sym (get_or-append (all_bits bs) (low_bits 8 b) false i s))
          (λ s. high i s h);
    }
  where
    t : Top 7 b
    t = top_byte b p l

    long : length (all_bits bs ++ below_top 7 b) ≡ 8 * length bs + t.place
    long = omega (arith, length-append (all_bits bs) (below_top 7 b), length_all_bits bs, ap length t.bits, length_low_bits t.place b)

    seam : (i : ℕ) (ys : List Bool) → length (all_bits bs) ≤ i → get_or (all_bits bs ++ ys) i false ≡ get_or ys (i - length (all_bits bs)) false
    seam i ys s = ap (λ (n : ℕ). get_or (all_bits bs ++ ys) n false) split ∙ get_or-append-add (all_bits bs) ys (i - length (all_bits bs)) false
      where
        split : i ≡ length (all_bits bs) + (i - length (all_bits bs))
        split = omega arith

    high : (i : ℕ) → length (all_bits bs) ≤ i → i < length (all_bits bs ++ below_top 7 b) → get_or (all_bits bs ++ below_top 7 b) i false ≡ get_or (all_bits bs ++ low_bits 8 b) i false
    high i s h =
        seam i (below_top 7 b) s
        ∙ ap (λ (ys : List Bool). get_or ys (i - length (all_bits bs)) false) t.bits
        ∙ low_bits_at t.place b (i - length (all_bits bs)) (omega (arith, long, length_all_bits bs))
        ∙ sym (low_bits_at 8 b (i - length (all_bits bs)) (omega (arith, long, length_all_bits bs, t.small)))
        ∙ sym (seam i (low_bits 8 b) s)

pub lowest : (bs : List ℕ) (bits : List Bool) → Bytes bs → read_path bs ≡ some bits → Lowest bs bits
unfolding read_path all_bits
lowest [] bits b e = absurd (none-ne-some bits e)
lowest (zero ∷ bs) bits b e =
    let p : Lowest bs bits = lowest bs bits b.1 e in
    record {
      short = omega (arith, p.short);
      same = λ i l. p.same i l ∙ sym (get_or-append (all_bits bs) (low_bits 8 0) false i (omega (arith, length_all_bits bs, p.short)));
    }
lowest (suc x ∷ bs) bits b e =
    rw (← some-injective (all_bits bs ++ below_top 7 (suc x)) bits e) (lowest_first (suc x) bs (omega arith) b.0)

-- Bit i of a path.
pub bit_at : (bs : List ℕ) (i : ℕ) → Bytes bs → (bits : List Bool) → read_path bs ≡ some bits → i < length bits
    → odd (get_or bs (length bs - 1 - i / 8) 0 / 2 ^ (i % 8)) ≡ get_or bits i false
bit_at bs i b bits e l = sym ((lowest bs bits b e).same i l ∙ all_bits_at bs i (omega (arith, (lowest bs bits b e).short)))
