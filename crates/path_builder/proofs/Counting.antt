-- What follows from a path builder's numbers: the finished path, and the bytes it is counted at.
-- Assumes nothing.
use Prim.Native.Nat.{ℕ, ◌+◌, ◌%◌, ◌<◌}
use mathlib.Core.Path.{◌≡◌, refl, sym, ap, ap₂, ◌∙◌}
use mathlib.Core.Bool.{Bool, ◌&&◌}
use mathlib.Core.List.{List}
use native.Mathlib.Omega.{arith}
use native.Mathlib.Decide.{ℕ_discrete}
use lib.Dec.{eqb, ltb, leb}
use borrow.Author.Tests.{eq-eqb, ne_eqb, lt-ltb}
use lib.ListN.{length, get_or, take, drop}
use lib.Seq.{get_or-take}
use Rattle.words.specs.Lists.{Bytes, all_take}
use Rattle.path.specs.Bytes.{octets, path_bytes, all_bits}
use Rattle.path.proofs.BytesLaws.{length_path_bytes, octets_all_bits}
use Rattle.path.specs.Measure.{counted_bytes, counted}
use Rattle.path.proofs.MeasureLaws.{only_one}
use Rattle.path_builder.specs.Aligned.{Aligned}
use Rattle.path_builder.specs.declared.PathBuilder.{PathBuilder}
use Rattle.path_builder.specs.Builder.{free, built, Sound, Finished}
use Rattle.path_builder.specs.BuilderLaws.{length_built, in_use_built, path_bytes_built}

module _ (s : List ℕ) (p : PathBuilder) (sound : Sound s p) (bytes : Bytes s) where
  -- ---- the finished path

  bytes_used : p.in_use ≡ length (path_bytes (built s p))
  bytes_used = in_use_built s p sound ∙ sym (length_path_bytes (built s p))

  full_bytes : p.bit_pos ≡ 7 → take p.in_use s ≡ path_bytes (built s p)
  unfolding built
  full_bytes e =
      let f : free p ≡ 0 = omega arith in
      sym (path_bytes_built s p sound ∙ ap (λ (n : ℕ). octets p.in_use (drop n (all_bits (take p.in_use s)))) f
      ∙ octets_all_bits p.in_use s sound.within (all_take (λ (n : ℕ). n < 256) p.in_use s bytes))

  pub done_full : p.bit_pos ≡ 7 → (n : ℕ) → n ≡ p.in_use → Finished s p s n
  done_full e n en = record { count = en ∙ bytes_used; bytes = ap (λ (k : ℕ). take k s) en ∙ full_bytes e; rest = refl }

  pub done_part : (p.bit_pos ≡ 7 → ⊥) → (n : ℕ) (s' : List ℕ) → n ≡ p.in_use → Aligned s n (p.bit_pos + 1) s' → Finished s p s' n
  unfolding built
  done_part d n s' en a =
      let f : p.bit_pos + 1 ≡ free p = omega (arith, sound.counts.place) in
      record {
        count = en ∙ bytes_used;
        bytes = a.bytes ∙ ap₂ {C = List ℕ} (λ (k g : ℕ). octets k (drop g (all_bits (take k s)))) en f ∙ sym (path_bytes_built s p sound);
        rest = a.rest;
      }

  -- ---- the bytes it is counted at

  full : Bool
  full = eqb (length (built s p) % 8) 0 && leb 80 (get_or (path_bytes (built s p)) 0 0)

  counted_built : counted (built s p) ≡ counted_bytes full p.in_use
  unfolding full
  counted_built = ap (counted_bytes full) (sym bytes_used)

  first_byte : p.bit_pos ≡ 7 → p.in_use ≡ 1 → get_or (path_bytes (built s p)) 0 0 ≡ get_or s 0 0
  first_byte e u = ap (λ (l : List ℕ). get_or l 0 0) (sym (full_bytes e)) ∙ get_or-take p.in_use s 0 0 (omega arith)

  -- One byte is full where the next bit goes to place 7; it is then the store's first.
  one_full : p.in_use ≡ 1 → Dec (p.bit_pos ≡ 7) → eqb p.bit_pos 7 && leb 80 (get_or s 0 0) ≡ full
  unfolding full
  one_full u (yes e) =
      rw (eq-eqb p.bit_pos 7 e, eq-eqb (length (built s p) % 8) 0 (omega (arith, length_built s p sound)))
      (ap (leb 80) (sym (first_byte e u)))
  one_full u (no d) =
      rw (ne_eqb p.bit_pos 7 d, ne_eqb (length (built s p) % 8) 0 (λ q. omega (arith, length_built s p sound, sound.counts.place)))

  -- The first byte is asked for where there is one.
  pub counted_same : counted_bytes (ltb 0 p.in_use && (eqb p.bit_pos 7 && leb 80 (get_or s 0 0))) p.in_use ≡ counted (built s p)
  counted_same = only_one (ltb 0 p.in_use && (eqb p.bit_pos 7 && leb 80 (get_or s 0 0))) full p.in_use one ∙ sym counted_built
    where
      one : p.in_use ≡ 1 → ltb 0 p.in_use && (eqb p.bit_pos 7 && leb 80 (get_or s 0 0)) ≡ full
      one u = rw (lt-ltb 0 p.in_use (omega arith)) (one_full u (ℕ_discrete p.bit_pos 7))
