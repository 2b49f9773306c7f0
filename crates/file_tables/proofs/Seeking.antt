-- The lookup of an atom's bytes in the chain of their slot: what is passed, and what is found.
-- Assumes nothing.
use Rattle.std.proofs.Common.{◌≡◌, ℕ, suc, ◌+◌, ◌-◌, ◌<◌, true, false, List, sym, ap, ◌∙◌, le_antisymm, arith}
use mathlib.Core.Bool.{false≢true}
use Rattle.words.specs.Choice.{by_lt}
use Rattle.words.specs.Lists.{same, same_refl, same_eq}
use Rattle.words.specs.Words.{at}
use Rattle.work_layout.specs.Layout.{ATOM_HEADS, ATOM_NEXT}
use Rattle.work_layout.specs.Rows.{prev}
use Rattle.work_layout.specs.Prev.{prev_le}
use Rattle.work_layout.proofs.Seek.{Seek, seek_first, seek_past, seek_here}
use Rattle.file_tables.specs.Listed.{slot_of}
use Rattle.file_tables.proofs.listed_atoms.Slots.{slot_low}
use Rattle.file_tables.specs.Chains.{first_of, chain_of, Loading}
use Rattle.file_tables.proofs.First.{first_of_le, first_of_bytes, first_of_equal, first_of_first}
use Rattle.file_tables.proofs.Chains.{chain_first, chain_is_first}

-- A lookup of atom i in chain s at h: no first atom from h on has its bytes.
abbrev pub Sought : (b : ℕ → List ℕ) → (i s h : ℕ) → Type 0
Sought b i s h = Seek (chain_of b) (λ j. (first_of b j ≡ j) × (b j ≡ b i)) s i h

module _ (b : ℕ → List ℕ) (w : List ℕ) (i s : ℕ) (L : Loading b w i) (hs : s ≡ slot_of (b i)) where
  s_low : s < 1024
  s_low = omega (arith, slot_low (b i))

  slot : (j : ℕ) → (first_of b j ≡ j) × (b j ≡ b i) → chain_of b j ≡ s
  slot j t = chain_first b j t.0 ∙ ap slot_of t.1 ∙ sym hs

  pub seek_start : (h : ℕ) → h ≡ at w (ATOM_HEADS + s) → Sought b i s h
  seek_start h q = rw (q ∙ L.heads s s_low) (seek_first slot)

  pub seek_none : (h : ℕ) → Sought b i s h → h ≡ 0 → i ≡ first_of b i
  seek_none h k z =
      by_lt (first_of b i) i (λ l. absurd (k.passed (first_of b i) (omega arith) l (first_of_first b i, first_of_bytes b i)))
      (λ l. le_antisymm l (first_of_le b i))

  module _ (h : ℕ) (k : Sought b i s h) (ne : h ≡ 0 → ⊥) where
    is_suc : h ≡ suc (h - 1)
    is_suc = omega arith

    here : chain_of b (h - 1) ≡ s
    here = seek_here (h - 1) k is_suc

    is_first : first_of b (h - 1) ≡ h - 1
    is_first = chain_is_first b (h - 1) s s_low here

    next : at w (ATOM_NEXT + (h - 1)) ≡ prev (chain_of b) s (h - 1)
    next =
        L.nexts (h - 1) (omega (arith, k.low)) is_first
        ∙ ap (λ (x : ℕ). prev (chain_of b) x (h - 1)) (sym (chain_first b (h - 1) is_first) ∙ here)

    pub seek_low : h - 1 < i
    seek_low = omega (arith, k.low)

    pub seek_found : same (b (h - 1)) (b i) ≡ true → h - 1 ≡ first_of b i
    seek_found e = sym is_first ∙ first_of_equal b (h - 1) i (same_eq (b (h - 1)) (b i) e)

    module _ (x : ℕ) (q : x ≡ at w (ATOM_NEXT + (h - 1))) where
      pub seek_less : x < h
      seek_less = let p = prev_le (chain_of b) s (h - 1) in omega (arith, q, next)

      pub seek_next : same (b (h - 1)) (b i) ≡ false → Sought b i s x
      seek_next d =
          rw (q ∙ next)
          (seek_past slot (h - 1) k is_suc (λ t. false≢true (sym d ∙ ap (λ (y : List ℕ). same y (b i)) t.1 ∙ same_refl (b i))))
