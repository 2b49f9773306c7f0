-- Laws of a bit set: which bit is whose.
-- Assumes nothing.
use Rattle.std.specs.Prelude.{ℕ, suc, ◌+◌, ◌*◌, ◌-◌, ◌/◌, ◌%◌, ◌^◌, ◌≤◌, ◌<◌, ◌≡◌, refl, false, List, [], ◌∷◌, ◌++◌, length, get_or}
use Rattle.std.proofs.Common.{ap, ◌∙◌, arith, length-append, get_or-append-add}
use Rattle.std.proofs.Math.ListN.{get_or-append}
use Rattle.words.specs.Choice.{by_lt}
use Rattle.path.specs.Bytes.{odd, low_bits}
use Rattle.path.proofs.BytesLaws.{length_low_bits, low_bits_at}
use Rattle.bitset.specs.BitSet.{bits_of}

pub length_bits_of : (ws : List ℕ) → length (bits_of ws) ≡ 32 * length ws
unfolding bits_of
length_bits_of [] = refl
length_bits_of (w ∷ ws) = omega (arith, length-append (low_bits 32 w) (bits_of ws), length_low_bits 32 w, length_bits_of ws)

pub bits_of_at : (ws : List ℕ) (i : ℕ) → i < 32 * length ws → get_or (bits_of ws) i false ≡ odd (get_or ws (i / 32) 0 / 2 ^ (i % 32))
unfolding bits_of
bits_of_at [] i h = absurd (omega arith)
bits_of_at (w ∷ ws) i h =
    by_lt i 32
    (λ l. let q : i / 32 ≡ 0 = omega arith in let s : i % 32 ≡ i = omega arith in
    rw (q, s) (get_or-append (low_bits 32 w) (bits_of ws) false i (omega (arith, length_low_bits 32 w)) ∙ low_bits_at 32 w i l))
    (λ l. next l (bits_of_at ws (i - 32) (omega arith)))
  where
    next : 32 ≤ i → get_or (bits_of ws) (i - 32) false ≡ odd (get_or ws ((i - 32) / 32) 0 / 2 ^ ((i - 32) % 32))
        → get_or (low_bits 32 w ++ bits_of ws) i false ≡ odd (get_or (w ∷ ws) (i / 32) 0 / 2 ^ (i % 32))
    next l e =
        let p : i ≡ length (low_bits 32 w) + (i - 32) = omega (arith, length_low_bits 32 w) in
        let q : i / 32 ≡ suc ((i - 32) / 32) = omega arith in
        let s : i % 32 ≡ (i - 32) % 32 = omega arith in
        rw (q, s) (ap (λ (n : ℕ). get_or (low_bits 32 w ++ bits_of ws) n false) p ∙ get_or-append-add (low_bits 32 w) (bits_of ws) (i - 32) false ∙ e)
