-- What is read out of a list of words.
use Rattle.std.specs.Prelude.{List, [], ◌∷◌, ℕ, zero, suc, get_or, take, drop}

abbrev pub at : List ℕ → ℕ → ℕ
at w i = get_or w i 0

-- n words from off on
unfoldable pub part {ℓ} : {A : Type ℓ} → List A → ℕ → ℕ → List A
part w off n = take n (drop off w)

-- f 0, f 1, .., n of them
unfoldable pub tabulate {ℓ} : {A : Type ℓ} → ℕ → (ℕ → A) → List A
tabulate zero f = []
tabulate (suc n) f = f 0 ∷ tabulate n (λ k. f (suc k))

-- The least length of work, in words, of both calls (01: question 1).
abbrev pub WORK : ℕ
WORK = 524288
