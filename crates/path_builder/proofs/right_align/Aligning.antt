-- Right-aligning a path's bytes in place: one byte, and all of them from the last down.
-- Assumes nothing.
use Prim.Native.Nat.{ℕ, suc, ◌+◌, ◌*◌, ◌-◌, ◌/◌, ◌%◌, ◌^◌, ◌≤◌, ◌<◌}
use mathlib.Core.Path.{◌≡◌, refl, sym, ap, ap₂, subst, ◌∙◌}
use mathlib.Core.Bool.{Bool}
use mathlib.Core.List.{List, [], ◌∷◌, ◌++◌, append_assoc, append-nil}
use native.Mathlib.Omega.{arith}
use native.Mathlib.Nat.{mul_comm, mul-mod_left}
use native.Mathlib.Numerals.{add-one}
use lib.ListN.{length, get_or, take, drop, set, length-set, drop_of_length-le}
use lib.Seq.{take-suc, take-nil, take-set-le, take-set-lt, drop-set-lt, drop-cons, length-take-le, take-take, get_or-set_same}
use lib.Pow.{mod-pow-add, shl-shr}
use Rattle.path.specs.Bytes.{value, octets, all_bits}
use Rattle.path.proofs.BytesLaws.{octets_suc, value_bound, value_shifted, drop_shifted, value_last}
use Rattle.path_builder.specs.Aligned.{Aligned}

-- ---- one byte

-- What comes from the byte before.
carried : ℕ → ℕ → ℕ
carried r y = y * 2 ^ (8 - r) % 2 ^ 8

carry : (r y : ℕ) → r < 8 → carried r y ≡ 2 ^ (8 - r) * (y % 2 ^ r)
unfolding carried
carry r y h =
    ap (λ (n : ℕ). y * 2 ^ (8 - r) % 2 ^ n) (sym whole) ∙ mod-pow-add (y * 2 ^ (8 - r)) r (8 - r)
    ∙ ap₂ {C = ℕ} (λ (q m : ℕ). q % 2 ^ r * 2 ^ (8 - r) + m) (shl-shr y (8 - r)) (mul-mod_left y (2 ^ (8 - r)))
    ∙ omega (arith, mul_comm (y % 2 ^ r) (2 ^ (8 - r)))
  where
    whole : r + (8 - r) ≡ 8
    whole = omega arith

module _ (s : List ℕ) (i r : ℕ) (within : i < length s) (h : r < 8) (small : get_or s i 0 < 256) where
  front : take (i + 1) s ≡ take i s ++ get_or s i 0 ∷ []
  front = ap (λ (n : ℕ). take n s) (add-one i) ∙ take-suc s i 0 within

  byte : value (take 8 (drop r (all_bits (take (i + 1) s)))) ≡ get_or s i 0 / 2 ^ r + 2 ^ (8 - r) * value (take r (all_bits (take i s)))
  byte = ap (λ (l : List ℕ). value (take 8 (drop r (all_bits l)))) front ∙ value_shifted r (take i s) (get_or s i 0) (omega arith) small

  pub shifted_first : i ≡ 0 → get_or s i 0 / 2 ^ r ≡ value (take 8 (drop r (all_bits (take (i + 1) s))))
  unfolding all_bits
  shifted_first e = sym (byte ∙ ap (λ (n : ℕ). get_or s i 0 / 2 ^ r + 2 ^ (8 - r) * n) none ∙ omega arith)
    where
      none : value (take r (all_bits (take i s))) ≡ 0
      none = ap (λ (n : ℕ). value (take r (all_bits (take n s)))) e ∙ ap value (take-nil r)

  module _ (d : i ≡ 0 → ⊥) where
    pub shifted_next : get_or s i 0 / 2 ^ r + get_or s (i - 1) 0 * 2 ^ (8 - r) % 2 ^ 8 ≡ value (take 8 (drop r (all_bits (take (i + 1) s))))
    unfolding carried
    shifted_next = sym (byte ∙ ap (λ (n : ℕ). get_or s i 0 / 2 ^ r + 2 ^ (8 - r) * n) last ∙ ap (λ (n : ℕ). get_or s i 0 / 2 ^ r + n) (sym (carry r (get_or s (i - 1) 0) h)))
      where
        one : i ≡ suc (i - 1)
        one = omega arith

        last : value (take r (all_bits (take i s))) ≡ get_or s (i - 1) 0 % 2 ^ r
        last =
            ap (λ (l : List ℕ). value (take r (all_bits l))) (ap (λ (n : ℕ). take n s) one ∙ take-suc s (i - 1) 0 (omega arith))
            ∙ value_last r (take (i - 1) s) (get_or s (i - 1) 0) (omega arith)

    pub shifted_fits : get_or s i 0 / 2 ^ r + get_or s (i - 1) 0 * 2 ^ (8 - r) % 2 ^ 8 < 2 ^ 8
    shifted_fits = rw shifted_next (value_bound 8 (drop r (all_bits (take (i + 1) s))))

-- ---- all of them

-- n bytes, of which j are still to be shifted
pub record Aligning (s₀ : List ℕ) (n r : ℕ) (s : List ℕ) (j : ℕ) : Type 0 where
  pub within : j ≤ n
  pub len : length s ≡ length s₀
  pub same : take j s ≡ take j s₀
  pub ahead : octets n (drop r (all_bits (take n s₀))) ≡ octets j (drop r (all_bits (take j s₀))) ++ drop j (take n s)
  pub rest : drop n s ≡ drop n s₀

module _ (s₀ : List ℕ) (n r : ℕ) (long : n ≤ length s₀) (h : r < 8) where
  pub align_start : Aligning s₀ n r s₀ n
  align_start = record {
    within = omega arith;
    len = refl;
    same = refl;
    ahead = sym (ap (λ (l : List ℕ). octets n (drop r (all_bits (take n s₀))) ++ l) (drop_of_length-le (take n s₀) {i = n} (omega (arith, length-take-le n s₀ long))) ∙ append-nil _);
    rest = refl;
  }

  step : (s : List ℕ) (i b : ℕ) → Aligning s₀ n r s (suc i) → b ≡ value (take 8 (drop r (all_bits (take (suc i) s)))) → Aligning s₀ n r (set s i b) i
  step s i b m e =
      record {
        within = omega (arith, m.within);
        len = length-set s i b ∙ m.len;
        same =
            take-set-le i s i b (omega arith)
            ∙ sym (take-take i (suc i) s (omega arith)) ∙ ap (take i) m.same ∙ take-take i (suc i) s₀ (omega arith);
        ahead =
            m.ahead
            ∙ ap (λ (l : List ℕ). l ++ drop (suc i) (take n s)) (octets_suc i bits ∙ ap₂ {C = List ℕ} (λ (u : List Bool) (v : ℕ). octets i u ++ v ∷ []) dropped (sym here))
            ∙ append_assoc (octets i (drop r (all_bits (take i s₀)))) (b ∷ []) (drop (suc i) (take n s))
            ∙ ap (λ (l : List ℕ). octets i (drop r (all_bits (take i s₀))) ++ l) (sym there);
        rest = drop-set-lt n s i b m.within ∙ m.rest;
      }
    where
      bits : List Bool
      bits = drop r (all_bits (take (suc i) s₀))

      here : b ≡ value (take 8 bits)
      here = e ∙ ap (λ (l : List ℕ). value (take 8 (drop r (all_bits l)))) m.same

      dropped : drop 8 bits ≡ drop r (all_bits (take i s₀))
      dropped =
          ap (λ (l : List ℕ). drop 8 (drop r (all_bits l))) (take-suc s₀ i 0 (omega (arith, m.within)))
          ∙ drop_shifted r (take i s₀) (get_or s₀ i 0) (omega arith)

      inside : i < length (take n s)
      inside = omega (arith, m.within, m.len, length-take-le n s (omega (arith, m.len)))

      there : drop i (take n (set s i b)) ≡ b ∷ drop (suc i) (take n s)
      there =
          ap (drop i) (take-set-lt n s i b m.within) ∙ drop-cons (set (take n s) i b) i 0 (rw length-set inside)
          ∙ ap₂ {C = List ℕ} (λ (x : ℕ) (l : List ℕ). x ∷ l) (get_or-set_same (take n s) i b 0 inside) (drop-set-lt (suc i) (take n s) i b (omega arith))

  pub align_more : (s : List ℕ) (j b : ℕ) → Aligning s₀ n r s j → 0 < j → b ≡ value (take 8 (drop r (all_bits (take (j - 1 + 1) s)))) → Aligning s₀ n r (set s (j - 1) b) (j - 1)
  align_more s j b m l e =
      let p : j ≡ suc (j - 1) = omega arith in
      step s (j - 1) b (subst (λ (k : ℕ). Aligning s₀ n r s k) p m)
      (e ∙ ap (λ (k : ℕ). value (take 8 (drop r (all_bits (take k s))))) (add-one (j - 1)))

  pub align_end : (s : List ℕ) (j : ℕ) → Aligning s₀ n r s j → j ≤ 0 → Aligned s₀ n r s
  unfolding octets
  align_end s j m l =
      let z : j ≡ 0 = omega arith in
      record { bytes = sym (m.ahead ∙ ap (λ (k : ℕ). octets k (drop r (all_bits (take k s₀))) ++ drop k (take n s)) z); rest = m.rest }
