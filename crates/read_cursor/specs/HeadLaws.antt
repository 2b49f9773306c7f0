-- What a head says of the input: whether a byte stands at the place, which one, and what was parsed.
-- Assumes nothing.
use Rattle.std.specs.Prelude.{ℕ, ◌+◌, ◌≤◌, ◌<◌, ◌≡◌, refl, cond, eqb, length, get_or, Option}
use Rattle.std.proofs.Common.{sym, ap, ◌∙◌, drop_of_length-le, drop-cons, eqb-true}
use Rattle.std.proofs.Math.Path.{subst}
use mathlib.Core.List.{List}
use Rattle.std.proofs.lemmas.Bool.{eqb-false}
use Rattle.words.specs.Choice.{by_cond, by_lt}
use Rattle.atom.specs.Parse.{parse_at}
use Rattle.read_cursor.specs.declared.Head.{Head}
use Rattle.read_cursor.specs.Heads.{There, end, pair, path, atom, there_of, begun, head_of, head_at}

abbrev pub Says : List ℕ → ℕ → There → Type 0
Says input p end = length input ≤ p
Says input p pair = (p < length input) × (get_or input p 0 ≡ 0xff)
Says input p (path z) = (p < length input) × (get_or input p 0 ≡ 0xfe) × (z ≡ parse_at input (p + 1))
Says input p (atom z) = (p < length input) × (get_or input p 0 ≡ 0xff → ⊥) × (get_or input p 0 ≡ 0xfe → ⊥) × (z ≡ parse_at input p)

module _ (input : List ℕ) (p : ℕ) where
  begun_says : p < length input → Says input p (begun (get_or input p 0) input p)
  begun_says h =
      by_cond (Says input p) (eqb (get_or input p 0) 0xff) pair (cond (eqb (get_or input p 0) 0xfe) (path (parse_at input (p + 1))) (atom (parse_at input p)))
      (λ e. (h, eqb-true (get_or input p 0) 0xff e))
      (λ d. by_cond (Says input p) (eqb (get_or input p 0) 0xfe) (path (parse_at input (p + 1))) (atom (parse_at input p))
      (λ e. (h, eqb-true (get_or input p 0) 0xfe e, refl))
      (λ e. (h, eqb-false (get_or input p 0) 0xff d, eqb-false (get_or input p 0) 0xfe e, refl)))

  pub head_says : Says input p (head_at input p)
  unfolding head_at
  head_says =
      by_lt p (length input)
      (λ h. subst (λ (l : List ℕ). Says input p (head_of l input p)) (sym (drop-cons input p 0 h)) (begun_says h))
      (λ h. subst (λ (l : List ℕ). Says input p (head_of l input p)) (sym (drop_of_length-le input {i = p} h)) h)

  -- What the code's answer h, which is x, says.
  pub told : (h x : Option Head) → there_of h ≡ head_at input p → h ≡ x → Says input p (there_of x)
  told h x e g = subst (Says input p) (sym e ∙ ap there_of g) head_says
