-- `has_mark` meets its contract: the first five bytes are compared.
-- Assumes nothing.
use Prim.Native.Nat.{ℕ}
use mathlib.Core.Path.{◌≡◌, refl, sym, ap₂, ◌∙◌}
use mathlib.Core.Bool.{Bool, true, false, ◌&&◌}
use mathlib.Core.List.{List, [], ◌∷◌}
use lib.Dec.{eqb}
use borrow.Author.Tests.{eq-eqb, eqb-true, eqb-false, ne_eqb}
use lib.ListN.{take}
use lib.Pointwise.{pointwise}
use Rattle.words.specs.BigEndian.{big_endian}
use Rattle.words.specs.Lists.{same}
use Rattle.spec_session.specs.File.{version_1, mark}
use Rattle.file_check.proofs.has_mark.Goals as goal

turned : (x y : ℕ) → eqb x y ≡ eqb y x
turned x y = go (eqb x y) refl
  where
    go : (b : Bool) → eqb x y ≡ b → b ≡ eqb y x
    go true e = sym (eq-eqb y x (sym (eqb-true x y e)))
    go false e = sym (ne_eqb y x (λ q. eqb-false x y e (sym q)))

compared : (xs ys : List ℕ) → pointwise eqb xs ys ≡ same ys xs
compared [] [] = refl
compared [] (y ∷ ys) = refl
compared (x ∷ xs) [] = refl
compared (x ∷ xs) (y ∷ ys) = ap₂ (λ (a b : Bool). a && b) (turned x y) (compared xs ys)

pub returns : goal.returns
unfolding big_endian
returns c = c.starts_with.ensures.value ∙ compared (mark version_1) (take 5 c.args.file.now)
