-- Lists of paths: what holds of every one, and how many bits they have.
-- Assumes nothing.
use Rattle.std.specs.Prelude.{ℕ, suc, ◌+◌, ◌≤◌, ◌<◌, ◌≡◌, refl, Bool, true, false, cond, List, [], ◌∷◌, ◌++◌, length}
use Rattle.std.proofs.Common.{ap, ◌∙◌, arith, lt-ltb, le-ltb}
use Rattle.words.specs.Choice.{by_lt, cond_true, cond_false}
use Rattle.words.specs.Lists.{All}
use Rattle.spec_search.specs.Search.{Trail, in_front, last_first, long}
use Rattle.spec_search.specs.Lists.{Longer, shorts, size}

module _ (P : Trail → Type 0) where
  all_in_front : (p : Trail) (ps : List Trail) → P p → All P ps → All P (in_front p ps)
  all_in_front p [] h k = (h, tt)
  all_in_front p (q ∷ qs) h k = (k.0, (h, k.1))

  pub all_last_first : (ps : List Trail) → All P ps → All P (last_first ps)
  all_last_first [] h = tt
  all_last_first (p ∷ ps) h = all_in_front p (last_first ps) h.0 (all_last_first ps h.1)

-- ---- lengths

module _ (L : ℕ) (p : Trail) (ps : List Trail) where
  pub shorts_short : size p ≤ L → shorts L (p ∷ ps) ≡ suc (shorts L ps)
  shorts_short h = cond_false _ _ _ (le-ltb _ _ h)

  pub shorts_long : L < size p → shorts L (p ∷ ps) ≡ shorts L ps
  shorts_long h = cond_true _ _ _ (lt-ltb _ _ h)

module _ (L : ℕ) where
  pub shorts_append : (xs ys : List Trail) → shorts L (xs ++ ys) ≡ shorts L xs + shorts L ys
  shorts_append [] ys = omega arith
  shorts_append (x ∷ xs) ys =
      by_lt L (size x)
      (λ h. rw (shorts_long L x (xs ++ ys) h, shorts_long L x xs h) (shorts_append xs ys))
      (λ h. omega (arith, shorts_short L x (xs ++ ys) h, shorts_short L x xs h, shorts_append xs ys))

  shorts_in_front : (p : Trail) (ps : List Trail) → shorts L (in_front p ps) ≡ shorts L (p ∷ ps)
  shorts_in_front p [] = refl
  shorts_in_front p (q ∷ qs) = go (long L p) (long L q)
    where
      go : (c d : Bool) → ◌≡◌ {A = ℕ} (cond d (cond c (shorts L qs) (suc (shorts L qs))) (suc (cond c (shorts L qs) (suc (shorts L qs)))))
          (cond c (cond d (shorts L qs) (suc (shorts L qs))) (suc (cond d (shorts L qs) (suc (shorts L qs)))))
      go true true = refl
      go true false = refl
      go false true = refl
      go false false = refl

  pub shorts_last_first : (ps : List Trail) → shorts L (last_first ps) ≡ shorts L ps
  shorts_last_first [] = refl
  shorts_last_first (p ∷ ps) = shorts_in_front p (last_first ps) ∙ ap (λ (k : ℕ). cond (long L p) k (suc k)) (shorts_last_first ps)

  pub shorts_all_long : (ps : List Trail) → All (Longer L) ps → shorts L ps ≡ 0
  shorts_all_long [] h = refl
  shorts_all_long (p ∷ ps) h = shorts_long L p ps h.0 ∙ shorts_all_long ps h.1

  pub long_of_no_shorts : (ps : List Trail) → shorts L ps ≤ 0 → All (Longer L) ps
  long_of_no_shorts [] h = tt
  long_of_no_shorts (p ∷ ps) h =
      by_lt L (size p)
      (λ k. (k, long_of_no_shorts ps (omega (arith, shorts_long L p ps k))))
      (λ k. absurd (omega (arith, shorts_short L p ps k)))

  pub shorts_le_length : (ps : List Trail) → shorts L ps ≤ length ps
  shorts_le_length [] = omega arith
  shorts_le_length (p ∷ ps) =
      by_lt L (size p) (λ h. omega (arith, shorts_long L p ps h, shorts_le_length ps)) (λ h. omega (arith, shorts_short L p ps h, shorts_le_length ps))
