-- The least distance from the top of the stack, by the tops.
-- Assumes nothing.
use mathlib.Core.Path.{◌≡◌, refl, sym, ap, subst, ◌∙◌}
use mathlib.Core.Bool.{cond}
use mathlib.Core.List.{List}
use mathlib.Core.Option.{some, map}
use Prim.Native.Nat.{ℕ, zero, suc, ◌+◌, ◌-◌, ◌≤◌, ◌<◌}
use native.Mathlib.Omega.{arith}
use native.Mathlib.Decide.{ℕ_discrete}
use lib.Dec.{eqb}
use borrow.Author.Tests.{eq-eqb, ne_eqb}
use Rattle.spec_search.specs.Search.{distance}
use Rattle.words.specs.Choice.{cond_true, cond_false}
use Rattle.words.specs.Words.{at}
use Rattle.work_layout.specs.Layout.{STACK, TOPS, ENTRIES}
use Rattle.work_layout.specs.Rows.{stack_of, Tops}
use Rattle.search_list.specs.Steps.{from_top}

nearer : (d t : ℕ) → t ≤ d → map suc (from_top d t) ≡ from_top (suc d) t
nearer d zero h = refl
nearer d (suc t) h = let q : suc (d - suc t) ≡ suc d - suc t = omega arith in ap some q

module _ (w : List ℕ) (x : ℕ) where
  -- x is at no place from t on, and it is at place t - 1 where t is not 0.
  go_down : (t d : ℕ) → t ≤ d → ((j : ℕ) → t ≤ j → j < d → at w (STACK + j) ≡ x → ⊥) → (0 < t → at w (STACK + (t - 1)) ≡ x)
      → distance x (stack_of w d) ≡ from_top d t
  unfolding stack_of
  go_down zero zero h a b = refl
  go_down (suc t) zero h a b = absurd (omega arith)
  go_down t (suc d) h a b = cases (ℕ_discrete t (suc d)) (λ l. go_down t d l (λ j p q. a j p (omega arith)) b)
    where
      cases : Dec (t ≡ suc d) → (t ≤ d → distance x (stack_of w d) ≡ from_top d t)
          → cond (eqb x (at w (STACK + d))) (some 0) (map suc (distance x (stack_of w d))) ≡ from_top (suc d) t
      cases (yes e) r =
          let q : at w (STACK + d) ≡ x = subst (λ (k : ℕ). at w (STACK + k) ≡ x) (omega arith) (b (omega arith)) in
          let z : 0 ≡ suc d - suc d = omega arith in
          cond_true _ _ _ (eq-eqb x (at w (STACK + d)) (sym q)) ∙ rw e (ap some z)
      cases (no e) r =
          cond_false _ _ _ (ne_eqb x (at w (STACK + d)) (λ q. a d (omega arith) (omega arith) (sym q))) ∙ ap (map suc) (r (omega arith))
          ∙ nearer d t (omega arith)

pub least : (w : List ℕ) (d x : ℕ) → Tops w d → x < ENTRIES → distance x (stack_of w d) ≡ from_top d (at w (TOPS + x))
least w d x t h = go_down w x (at w (TOPS + x)) d (t.tops x h) (λ j p q. t.above x j h p q) (t.holds x h)
