-- What holds of every member of a list; lists of bytes; whether two lists are the same.
-- Assumes nothing.
use Rattle.std.specs.Prelude.{ℕ, zero, suc, ◌<◌, ◌≡◌, refl, Bool, true, false, ◌&&◌, List, [], ◌∷◌, ◌++◌, eqb, length, get_or, take, drop}
use Rattle.std.proofs.lemmas.Bool.{false≢true}
use Rattle.std.proofs.Common.{arith, le_of_suc-le-suc, not-suc-le-zero, eq-eqb, eqb-true}

abbrev pub All {ℓ} : {A : Type ℓ} → (A → Type 0) → List A → Type 0
All P [] = Unit {0}
All P (x ∷ xs) = P x × All P xs

module _ {ℓ} {A : Type ℓ} (P : A → Type 0) where
  pub all_append : (xs ys : List A) → All P xs → All P ys → All P (xs ++ ys)
  all_append [] ys h k = k
  all_append (x ∷ xs) ys h k = (h.0, all_append xs ys h.1 k)

  pub all_each : ((x : A) → P x) → (xs : List A) → All P xs
  all_each f [] = tt
  all_each f (x ∷ xs) = (f x, all_each f xs)

  pub all_take : (n : ℕ) (xs : List A) → All P xs → All P (take n xs)
  all_take zero [] h = tt
  all_take (suc n) [] h = tt
  all_take zero (x ∷ xs) h = tt
  all_take (suc n) (x ∷ xs) h = (h.0, all_take n xs h.1)

  pub all_drop : (n : ℕ) (xs : List A) → All P xs → All P (drop n xs)
  all_drop zero [] h = tt
  all_drop (suc n) [] h = tt
  all_drop zero (x ∷ xs) h = h
  all_drop (suc n) (x ∷ xs) h = all_drop n xs h.1

  pub all_at : (xs : List A) (d : A) (i : ℕ) → All P xs → i < length xs → P (get_or xs i d)
  all_at [] d i h l = absurd (not-suc-le-zero l)
  all_at (x ∷ xs) d zero h l = h.0
  all_at (x ∷ xs) d (suc i) h l = all_at xs d i h.1 (le_of_suc-le-suc l)

  -- At a place past the end the default stands.
  pub all_or : (xs : List A) (d : A) (i : ℕ) → All P xs → P d → P (get_or xs i d)
  all_or [] d i h p = p
  all_or (x ∷ xs) d zero h p = h.0
  all_or (x ∷ xs) d (suc i) h p = all_or xs d i h.1 p

  pub all_of : (xs : List A) (d : A) → ((i : ℕ) → i < length xs → P (get_or xs i d)) → All P xs
  all_of [] d f = tt
  all_of (x ∷ xs) d f = (f 0 (omega arith), all_of xs d (λ i l. f (suc i) (omega arith)))

pub all_map {ℓ} : {A : Type ℓ} (P Q : A → Type 0) → ((x : A) → P x → Q x) → (xs : List A) → All P xs → All Q xs
all_map P Q f [] h = tt
all_map P Q f (x ∷ xs) h = (f x h.0, all_map P Q f xs h.1)

-- Every member is a byte.
abbrev pub Bytes : List ℕ → Type 0
Bytes = All (λ (n : ℕ). n < 256)

-- Whether two lists have the same members in the same order.
abbrev pub same : List ℕ → List ℕ → Bool
same [] [] = true
same [] (y ∷ ys) = false
same (x ∷ xs) [] = false
same (x ∷ xs) (y ∷ ys) = eqb x y && same xs ys

pub same_refl : (xs : List ℕ) → same xs xs ≡ true
same_refl [] = refl
same_refl (x ∷ xs) = rw (eq-eqb x x refl) (same_refl xs)

pub same_eq : (xs ys : List ℕ) → same xs ys ≡ true → xs ≡ ys
same_eq [] [] e = refl
same_eq [] (y ∷ ys) e = absurd (false≢true e)
same_eq (x ∷ xs) [] e = absurd (false≢true e)
same_eq (x ∷ xs) (y ∷ ys) e = go (eqb x y) refl e (λ r. same_eq xs ys r)
  where
    go : (b : Bool) → eqb x y ≡ b → (b && same xs ys) ≡ true → (same xs ys ≡ true → xs ≡ ys) → ◌≡◌ {A = List ℕ} (x ∷ xs) (y ∷ ys)
    go true q r f = let h : x ≡ y = eqb-true x y q in let t : xs ≡ ys = f r in rw (h, t)
    go false q r f = absurd (false≢true r)
