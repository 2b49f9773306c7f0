-- One bit more in a path builder.
-- Assumes nothing.
use Prim.Native.Nat.{ℕ, suc, ◌+◌, ◌*◌, ◌-◌, ◌/◌, ◌%◌, ◌^◌, ◌≤◌, ◌<◌}
use mathlib.Core.Path.{◌≡◌, refl, sym, ap, ap₂, subst, ◌∙◌}
use mathlib.Core.Bool.{Bool, true, false}
use mathlib.Core.List.{List, [], ◌∷◌, ◌++◌}
use native.Mathlib.Omega.{arith}
use native.Mathlib.Nat.{pow-succ', mul_assoc, add-mul, mul-mod_left}
use native.Mathlib.Numerals.{add-one}
use native.Mathlib.Decide.{ℕ_discrete}
use borrow.Author.Tests.{eq-eqb, ne_eqb}
use lib.ListN.{length, get_or, take, drop, set, length-set}
use lib.Seq.{take-suc, take-suc-set, drop-set-lt}
use lib.Pow.{shl-shr, shl_lt, shr_lt, split}
use Rattle.words.specs.Lists.{Bytes, all_at}
use Rattle.path.specs.Bytes.{bit, value, low_bits, all_bits}
use Rattle.path.proofs.BytesLaws.{odd_value, half_value, shifted_split, value_last}
use Rattle.path_builder.specs.Put.{put, Put}
use Rattle.path_builder.specs.declared.PathBuilder.{PathBuilder}
use Rattle.path_builder.specs.Builder.{free, built, Sound, Fresh, Room, Pushed}
use Rattle.path_builder.specs.BuilderLaws.{length_built}

pub bit_small : (b : Bool) → bit b < 2
bit_small false = omega arith
bit_small true = omega arith

-- A byte x whose places up to k are free gets the bit b at place k.
module _ (k x : ℕ) (b : Bool) (h : k < 8) (small : x < 256) (clear : x % 2 ^ suc k ≡ 0) where
  put_split : x + bit b * 2 ^ k ≡ (bit b + 2 * (x / 2 ^ suc k)) * 2 ^ k
  put_split = omega (arith, split x (suc k), twice, clear, add-mul (bit b) (2 * (x / 2 ^ suc k)) (2 ^ k))
    where
      swap : (n : ℕ) → n * 2 ≡ 2 * n
      swap n = omega arith

      twice : x / 2 ^ suc k * 2 ^ suc k ≡ 2 * (x / 2 ^ suc k) * 2 ^ k
      twice = ap (λ (n : ℕ). x / 2 ^ suc k * n) (pow-succ' 2 k) ∙ sym (mul_assoc (x / 2 ^ suc k) 2 (2 ^ k)) ∙ ap (λ (n : ℕ). n * 2 ^ k) (swap (x / 2 ^ suc k))

  put_small : x + bit b * 2 ^ k < 256
  put_small = subst (λ (n : ℕ). n < 256) (sym put_split) (rw whole at (shl_lt (8 - k) k few))
    where
      whole : 8 - k + k ≡ 8
      whole = omega arith

      all : 7 - k + suc k ≡ 8
      all = omega arith

      half : x / 2 ^ suc k < 2 ^ (7 - k)
      half = shr_lt {n = x} (7 - k) (suc k) (rw all small)

      one : 8 - k ≡ suc (7 - k)
      one = omega arith

      few : bit b + 2 * (x / 2 ^ suc k) < 2 ^ (8 - k)
      few = omega (arith, ap (λ (n : ℕ). 2 ^ n) one, pow-succ' 2 (7 - k), half, bit_small b)

  put_clear : (x + bit b * 2 ^ k) % 2 ^ k ≡ 0
  put_clear = ap (λ (n : ℕ). n % 2 ^ k) put_split ∙ mul-mod_left (bit b + 2 * (x / 2 ^ suc k)) (2 ^ k)

  put_bits : (ys : List ℕ) → drop k (all_bits (ys ++ (x + bit b * 2 ^ k) ∷ [])) ≡ b ∷ drop (suc k) (all_bits (ys ++ x ∷ []))
  unfolding low_bits
  put_bits ys =
      shifted_split k ys (x + bit b * 2 ^ k) (omega arith)
      ∙ ap₂ {C = List Bool} (λ (n v : ℕ). low_bits n v ++ all_bits ys) one quot
      ∙ ap₂ {C = List Bool} (λ (c : Bool) (v : ℕ). c ∷ low_bits (8 - suc k) v ++ all_bits ys) (odd_value b (x / 2 ^ suc k)) (half_value b (x / 2 ^ suc k))
      ∙ ap (λ (l : List Bool). b ∷ l) (sym (shifted_split (suc k) ys x h))
    where
      one : 8 - k ≡ suc (8 - suc k)
      one = omega arith

      quot : (x + bit b * 2 ^ k) / 2 ^ k ≡ bit b + 2 * (x / 2 ^ suc k)
      quot = ap (λ (n : ℕ). n / 2 ^ k) put_split ∙ shl-shr (bit b + 2 * (x / 2 ^ suc k)) k

-- That byte stands at m, after the whole bytes.
module _ (s s' : List ℕ) (p p' : PathBuilder) (b : Bool) (m k x : ℕ) (h : k < 8) (small : x < 256) (clear : x % 2 ^ suc k ≡ 0) where
  pub grown : m < length s → length s' ≡ length s → 8 * suc m < 2 ^ 32
      → take (suc m) s' ≡ take m s ++ (x + bit b * 2 ^ k) ∷ [] → drop (suc m) s' ≡ drop (suc m) s
      → p'.in_use ≡ suc m → p'.bit_pos ≡ (k + 7) % 8 → built s p ≡ drop (suc k) (all_bits (take m s ++ x ∷ [])) → Pushed s p b s' p'
  unfolding built
  grown within len few front back used place was =
      let f : free p' ≡ k = omega arith in
      let t : take p'.in_use s' ≡ take m s ++ (x + bit b * 2 ^ k) ∷ [] = ap (λ (n : ℕ). take n s') used ∙ front in
      record {
        sound = record {
          counts = record { place = omega arith; begun = omega arith; few = omega arith };
          within = omega arith;
          unset = ap₂ {C = ℕ} (λ (n : ℕ) (l : List ℕ). value (take n (all_bits l))) f t ∙ value_last k (take m s) (x + bit b * 2 ^ k) (omega arith) ∙ put_clear k x b h small clear;
        };
        bits = ap₂ {C = List Bool} (λ (n : ℕ) (l : List ℕ). drop n (all_bits l)) f t ∙ put_bits k x b h small clear (take m s) ∙ ap (λ (l : List Bool). b ∷ l) (sym was);
        rest = ap (λ (n : ℕ). drop n s') used ∙ back ∙ ap (λ (n : ℕ). drop n s) (sym used);
      }

pub fresh : Fresh (record { in_use = 0; bit_pos = 7 })
unfolding built all_bits
fresh = record {
  sound = λ store. record { counts = record { place = omega arith; begun = omega arith; few = omega arith }; within = omega arith; unset = refl };
  none = λ store. refl;
}

module _ (s : List ℕ) (p : PathBuilder) (b : Bool) (sound : Sound s p) (room : Room s p) (bytes : Bytes s) where
  -- There is room for the byte that the next bit goes to.
  pub next_within : p.in_use + (p.bit_pos + 1) / 8 ≤ length s
  next_within = omega (arith, length_built s p sound, room.bytes, sound.counts.place, sound.within)

  -- ---- a new byte

  module _ (s' : List ℕ) (p' : PathBuilder) (place : p'.bit_pos ≡ (p.bit_pos + 7) % 8) where
    new_byte : p.bit_pos ≡ 7 → s' ≡ set s p.in_use (bit b * 2 ^ 7) → p'.in_use ≡ p.in_use + 1 → Pushed s p b s' p'
    unfolding built low_bits
    new_byte e stored used =
        let f : free p ≡ 0 = omega arith in
        let byte : bit b * 2 ^ 7 ≡ 0 + bit b * 2 ^ 7 = omega arith in
        let within : p.in_use < length s = omega (arith, next_within) in
        grown s s' p p' b p.in_use 7 0 (omega arith) (omega arith) refl
        within
        (ap length stored ∙ length-set s p.in_use (bit b * 2 ^ 7))
        (omega (arith, length_built s p sound, room.count))
        (ap (take (suc p.in_use)) stored ∙ take-suc-set s p.in_use (bit b * 2 ^ 7) within ∙ ap (λ (v : ℕ). take p.in_use s ++ v ∷ []) byte)
        (ap (drop (suc p.in_use)) stored ∙ drop-set-lt (suc p.in_use) s p.in_use (bit b * 2 ^ 7) (omega arith))
        (used ∙ add-one p.in_use)
        (place ∙ ap (λ (n : ℕ). (n + 7) % 8) e)
        (ap (λ (n : ℕ). drop n (all_bits (take p.in_use s))) f ∙ sym (shifted_split 8 (take p.in_use s) 0 (omega arith)))

  -- ---- a free place of the last byte
  module _ (d : p.bit_pos ≡ 7 → ⊥) where
    last_used : p.in_use ≡ suc (p.in_use - 1)
    last_used = omega (arith, sound.counts.begun, sound.counts.place)

    last_free : free p ≡ suc p.bit_pos
    last_free = omega (arith, sound.counts.place)

    last_front : take p.in_use s ≡ take (p.in_use - 1) s ++ get_or s (p.in_use - 1) 0 ∷ []
    last_front = ap (λ (n : ℕ). take n s) last_used ∙ take-suc s (p.in_use - 1) 0 (omega (arith, last_used, sound.within))

    last_small : get_or s (p.in_use - 1) 0 < 256
    last_small = all_at (λ (n : ℕ). n < 256) s 0 (p.in_use - 1) bytes (omega (arith, last_used, sound.within))

    last_clear : get_or s (p.in_use - 1) 0 % 2 ^ suc p.bit_pos ≡ 0
    last_clear =
        sym (value_last (suc p.bit_pos) (take (p.in_use - 1) s) (get_or s (p.in_use - 1) 0) sound.counts.place)
        ∙ ap₂ {C = ℕ} (λ (n : ℕ) (l : List ℕ). value (take n (all_bits l))) (sym last_free) (sym last_front) ∙ sound.unset

    -- The bit fits into the byte.
    pub last_fits : get_or s (p.in_use - 1) 0 + bit b * 2 ^ p.bit_pos < 256
    last_fits = put_small p.bit_pos (get_or s (p.in_use - 1) 0) b sound.counts.place last_small last_clear

    more_bits : (s' : List ℕ) (p' : PathBuilder) → p'.bit_pos ≡ (p.bit_pos + 7) % 8
        → s' ≡ set s (p.in_use - 1) (get_or s (p.in_use - 1) 0 + bit b * 2 ^ p.bit_pos) → p'.in_use ≡ p.in_use → Pushed s p b s' p'
    unfolding built
    more_bits s' p' place stored used =
        let v : ℕ = get_or s (p.in_use - 1) 0 + bit b * 2 ^ p.bit_pos in
        grown s s' p p' b (p.in_use - 1) p.bit_pos (get_or s (p.in_use - 1) 0)
        sound.counts.place last_small last_clear
        (omega (arith, last_used, sound.within))
        (ap length stored ∙ length-set s (p.in_use - 1) v)
        (omega (arith, last_used, sound.counts.few))
        (ap (take (suc (p.in_use - 1))) stored ∙ take-suc-set s (p.in_use - 1) v (omega (arith, last_used, sound.within)))
        (ap (drop (suc (p.in_use - 1))) stored ∙ drop-set-lt (suc (p.in_use - 1)) s (p.in_use - 1) v (omega arith))
        (used ∙ last_used)
        place
        (ap₂ {C = List Bool} (λ (n : ℕ) (l : List ℕ). drop n (all_bits l)) last_free last_front)

  -- ---- either of them

  pub pushed : (v : ℕ) → v ≡ bit b → (s' : List ℕ) (q : PathBuilder) → Put s p.in_use p.bit_pos v s' q
      → Pushed s p b s' q
  pushed v ev s' q h = go (ℕ_discrete p.bit_pos 7)
    where
      stored : s' ≡ put s p.in_use p.bit_pos (bit b)
      stored = h.stored ∙ ap (put s p.in_use p.bit_pos) ev

      go : Dec (p.bit_pos ≡ 7) → Pushed s p b s' q
      go (yes e) = new_byte s' _ h.place e (rw (eq-eqb p.bit_pos 7 e) at stored) (rw (eq-eqb p.bit_pos 7 e) at h.bytes)
      go (no d) = more_bits d s' _ h.place (rw (ne_eqb p.bit_pos 7 d) at stored) (rw (ne_eqb p.bit_pos 7 d) at h.bytes)
