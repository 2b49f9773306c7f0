-- The steps to a head: whether a byte stands at the place, and which one, says what stands there.
-- Assumes nothing.
use Rattle.std.specs.Prelude.{ℕ, ◌+◌, ◌^◌, ◌≤◌, ◌<◌, ◌≡◌, length, List, Some, None, slice_get}
use Rattle.std.proofs.Common.{sym, ap, ◌∙◌, drop_of_length-le, drop-cons, arith}
use Rattle.std.proofs.lemmas.Option.{slice_get_within, get_or_from_slice_get, slice_get_cases}
use borrow.Author.Tests.{eq-eqb, ne_eqb}
use Rattle.words.specs.Choice.{cond_true, cond_false}
use Rattle.atom.specs.Parse.{Parse, parse_at}
use Rattle.read_cursor.specs.Heads.{end, pair, path, atom, begun, head_of, head_at}

module _ (input : List ℕ) (p : ℕ) where
  pub head_end : slice_get input p ≡ None → end ≡ head_at input p
  unfolding head_at
  head_end e =
      let h : length input ≤ p = grind (arith, slice_get_cases) in
      sym (ap (λ (l : List ℕ). head_of l input p) (drop_of_length-le input {i = p} h))

  module _ (b : ℕ) (there : slice_get input p ≡ Some b) where
    -- One byte more may be passed.
    pub mark_fits : length input < 2 ^ 64 → p + 1 < 2 ^ 64
    mark_fits h = omega (arith, slice_get_within input p b there)

    head_begun : begun b input p ≡ head_at input p
    unfolding head_at
    head_begun =
        sym (ap (λ (l : List ℕ). head_of l input p) (drop-cons input p 0 (slice_get_within input p b there))
        ∙ ap (λ (x : ℕ). begun x input p) (get_or_from_slice_get input p b 0 there))

    pub head_pair : b ≡ 0xff → pair ≡ head_at input p
    head_pair e = sym (cond_true _ _ _ (eq-eqb b 0xff e)) ∙ head_begun

    module _ (z : Parse) (other : b ≡ 0xff → ⊥) where
      pub head_path : b ≡ 0xfe → z ≡ parse_at input (p + 1) → path z ≡ head_at input p
      head_path e q = ap path q ∙ sym (cond_false _ _ _ (ne_eqb b 0xff other) ∙ cond_true _ _ _ (eq-eqb b 0xfe e)) ∙ head_begun

      pub head_atom : (b ≡ 0xfe → ⊥) → z ≡ parse_at input p → atom z ≡ head_at input p
      head_atom d q = ap atom q ∙ sym (cond_false _ _ _ (ne_eqb b 0xff other) ∙ cond_false _ _ _ (ne_eqb b 0xfe d)) ∙ head_begun

-- The five of them.
pub ruleset head_steps = (head_end, mark_fits, head_pair, head_path, head_atom)
