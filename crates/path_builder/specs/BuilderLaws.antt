-- Laws of a path builder: its numbers and its bytes follow from its bits.
-- Assumes nothing.
use Rattle.std.specs.Prelude.{ℕ, ◌+◌, ◌*◌, ◌-◌, ◌/◌, ◌≡◌, List, length, take}
use Rattle.std.proofs.Common.{sym, ◌∙◌, arith, length-take-le}
use Rattle.std.proofs.Math.Path.{ap}
use Rattle.std.proofs.Math.ListN.{length-drop}
use Rattle.path.specs.Bytes.{octets, path_bytes, all_bits}
use Rattle.path.proofs.BytesLaws.{length_all_bits}
use Rattle.path_builder.specs.declared.PathBuilder.{PathBuilder}
use Rattle.path_builder.specs.Builder.{free, built, Sound}

module _ (store : List ℕ) (p : PathBuilder) (sound : Sound store p) where
  bits_in_use : length (all_bits (take p.in_use store)) ≡ 8 * p.in_use
  bits_in_use = length_all_bits (take p.in_use store) ∙ ap (λ (n : ℕ). 8 * n) (length-take-le p.in_use store sound.within)

  pub length_built : length (built store p) ≡ 8 * p.in_use - free p
  unfolding built
  length_built = length-drop (free p) (all_bits (take p.in_use store)) ∙ ap (λ (n : ℕ). n - free p) bits_in_use

  -- As many bytes are in use as hold the bits.
  pub in_use_built : p.in_use ≡ (length (built store p) + 7) / 8
  in_use_built = omega (arith, length_built, sound.counts.begun)

  pub path_bytes_built : path_bytes (built store p) ≡ octets p.in_use (built store p)
  unfolding path_bytes
  path_bytes_built = ap (λ (n : ℕ). octets n (built store p)) (sym in_use_built)
