-- Laws of the first atom with the same bytes: it is no later than the atom itself, it is its own first one, and later atoms do not change it.
-- Assumes nothing.
use Rattle.std.proofs.Common.{◌≡◌, ℕ, zero, suc, ◌+◌, ◌<◌, ◌≤◌, Bool, true, false, cond, List, [], ◌∷◌, length, get_or, sym, refl, ap, ◌∙◌, le_of_suc-le-suc, not-suc-le-zero, le_antisymm, arith}
use mathlib.Core.Bool.{false≢true}
use Rattle.words.specs.Choice.{by_lt}
use Rattle.words.specs.Lists.{same, same_refl, same_eq}
use Rattle.words.specs.Words.{tabulate}
use Rattle.words.proofs.Words.{length_tabulate, get_d_tabulate, tabulate_same}
use Rattle.cache_entries.specs.Meaning.{first_same}
use Rattle.file_tables.specs.Chains.{first_of}

-- ---- of a list

module _ (x : List ℕ) where
  pub first_le : (xs : List (List ℕ)) → first_same x xs ≤ length xs
  first_le [] = omega arith
  first_le (a ∷ xs) = go (same a x) (first_le xs)
    where
      go : (t : Bool) → first_same x xs ≤ length xs → cond t 0 (suc (first_same x xs)) ≤ suc (length xs)
      go true h = omega arith
      go false h = omega arith

  -- It has the bytes, where there is one.
  pub first_has : (xs : List (List ℕ)) → first_same x xs < length xs → get_or xs (first_same x xs) [] ≡ x
  first_has [] h = absurd (not-suc-le-zero h)
  first_has (a ∷ xs) h = go (same a x) refl h (first_has xs)
    where
      go : (t : Bool) → same a x ≡ t → cond t 0 (suc (first_same x xs)) < suc (length xs) → (first_same x xs < length xs → get_or xs (first_same x xs) [] ≡ x)
          → get_or (a ∷ xs) (cond t 0 (suc (first_same x xs))) [] ≡ x
      go true q l f = same_eq a x q
      go false q l f = f (le_of_suc-le-suc l)

  -- None before it has them.
  pub first_before : (xs : List (List ℕ)) (k : ℕ) → k < first_same x xs → get_or xs k [] ≡ x → ⊥
  first_before [] k h e = not-suc-le-zero h
  first_before (a ∷ xs) k h e = go (same a x) refl k h e (first_before xs)
    where
      go : (t : Bool) → same a x ≡ t → (k : ℕ) → k < cond t 0 (suc (first_same x xs)) → get_or (a ∷ xs) k [] ≡ x
          → ((j : ℕ) → j < first_same x xs → get_or xs j [] ≡ x → ⊥) → ⊥
      go true q k l p f = not-suc-le-zero l
      go false q zero l p f = false≢true (sym q ∙ ap (λ (y : List ℕ). same y x) p ∙ same_refl x)
      go false q (suc k) l p f = f k (le_of_suc-le-suc l) p

  pub first_is : (xs : List (List ℕ)) (j : ℕ) → j ≤ length xs → (j < length xs → get_or xs j [] ≡ x) → ((k : ℕ) → k < j → get_or xs k [] ≡ x → ⊥)
      → first_same x xs ≡ j
  first_is xs j l has none =
      by_lt (first_same x xs) j (λ m. absurd (none (first_same x xs) m (first_has xs (omega arith))))
      (λ m. by_lt j (first_same x xs) (λ n. absurd (first_before xs j n (has (omega (arith, first_le xs))))) (λ n. le_antisymm n m))

-- ---- of atoms by number

module _ (b : ℕ → List ℕ) where
  pub first_of_le : (k : ℕ) → first_of b k ≤ k
  unfolding first_of
  first_of_le k = let l = first_le (b k) (tabulate k b) in rw length_tabulate at l

  pub first_of_bytes : (k : ℕ) → b (first_of b k) ≡ b k
  unfolding first_of
  first_of_bytes k =
      by_lt (first_of b k) k
      (λ l. sym (get_d_tabulate k b (first_of b k) [] l) ∙ first_has (b k) (tabulate k b) (rw length_tabulate l))
      (λ l. ap b (le_antisymm (first_of_le k) l))

  -- Later atoms change nothing.
  pub first_among : (n k : ℕ) → k < n → first_same (b k) (tabulate n b) ≡ first_of b k
  unfolding first_of
  first_among n k l =
      sym (first_is (b k) (tabulate k b) r (rw length_tabulate low) (λ m. get_d_tabulate k b r [] (rw length_tabulate at m) ∙ has)
      (λ j m e. first_before (b k) (tabulate n b) j m (get_d_tabulate n b j [] (omega (arith, low)) ∙ sym (get_d_tabulate k b j [] (omega (arith, low))) ∙ e)))
    where
      r : ℕ
      r = first_same (b k) (tabulate n b)

      low : first_same (b k) (tabulate n b) ≤ k
      low = by_lt k (first_same (b k) (tabulate n b)) (λ m. absurd (first_before (b k) (tabulate n b) k m (get_d_tabulate n b k [] l))) (λ m. m)

      has : b (first_same (b k) (tabulate n b)) ≡ b k
      has = sym (get_d_tabulate n b (first_same (b k) (tabulate n b)) [] (omega (arith, low))) ∙ first_has (b k) (tabulate n b) (rw length_tabulate (omega (arith, low)))

  pub first_of_equal : (j k : ℕ) → b j ≡ b k → first_of b j ≡ first_of b k
  first_of_equal j k e =
      sym (first_among (j + k + 1) j (omega arith)) ∙ ap (λ (x : List ℕ). first_same x (tabulate (j + k + 1) b)) e ∙ first_among (j + k + 1) k (omega arith)

  pub first_of_first : (k : ℕ) → first_of b (first_of b k) ≡ first_of b k
  first_of_first k = first_of_equal (first_of b k) k (first_of_bytes k)

-- It rests on the atoms up to k.
pub first_of_same : (b b' : ℕ → List ℕ) (k : ℕ) → ((j : ℕ) → j < k + 1 → b' j ≡ b j) → first_of b' k ≡ first_of b k
unfolding first_of
first_of_same b b' k h = rw (h k (omega arith), tabulate_same k b b' (λ j l. h j (omega arith)))
