-- Rows of words as entries: what is done to a row is done to its entry, and each row is read from its words.
-- Assumes nothing.
use Prim.Native.Nat.{ℕ, zero, suc, ◌+◌, ◌<◌}
use mathlib.Core.Path.{◌≡◌, refl, sym, ap, ◌∙◌}
use mathlib.Core.Bool.{Bool}
use mathlib.Core.List.{List, [], ◌∷◌, ◌++◌, map}
use lib.ListN.{length, get_or, get_or-append}
use Rattle.words.specs.Words.{at}
use Rattle.words.proofs.Words.{length_tabulate, get_d_tabulate}
use Rattle.spec_session.specs.File.{File}
use Rattle.spec_session.specs.Cache.{Entry, adjust, parents_at, length_at}
use Rattle.work_layout.specs.Layout.{USED, LEFT, RIGHT}
use Rattle.work_layout.specs.Rows.{Row, row_of, rows_of, new_row, adjust_row, parents_of, length_of}
use Rattle.cache_entries.specs.Meaning.{entry_of}

-- A row that stands for none, where a list has no row.
abbrev pub no_row : Row
no_row = new_row 0 0 0

pub map_adjust : (f : File) (g : List (ℕ × Bool) → List (ℕ × Bool)) (e : ℕ) (xs : List Row)
    → map (entry_of f) (adjust_row e g xs) ≡ adjust e g (map (entry_of f) xs)
map_adjust f g e [] = refl
map_adjust f g zero (x ∷ xs) = refl
map_adjust f g (suc e) (x ∷ xs) = ap {B = List Entry} (λ r. entry_of f x ∷ r) (map_adjust f g e xs)

-- A change of parents keeps the keys.
pub key_adjust : (g : List (ℕ × Bool) → List (ℕ × Bool)) (e k : ℕ) (xs : List Row)
    → ((get_or (adjust_row e g xs) k no_row).left ≡ (get_or xs k no_row).left) × ((get_or (adjust_row e g xs) k no_row).right ≡ (get_or xs k no_row).right)
key_adjust g e k [] = (refl, refl)
key_adjust g zero zero (x ∷ xs) = (refl, refl)
key_adjust g zero (suc k) (x ∷ xs) = (refl, refl)
key_adjust g (suc e) zero (x ∷ xs) = (refl, refl)
key_adjust g (suc e) (suc k) (x ∷ xs) = key_adjust g e k xs

length_at_map : (f : File) (xs : List Row) (e : ℕ) → length_at e (map (entry_of f) xs) ≡ (get_or xs e no_row).len
length_at_map f [] e = refl
length_at_map f (x ∷ xs) zero = refl
length_at_map f (x ∷ xs) (suc e) = length_at_map f xs e

parents_at_map : (f : File) (xs : List Row) (e : ℕ) → parents_at e (map (entry_of f) xs) ≡ (get_or xs e no_row).parents
parents_at_map f [] e = refl
parents_at_map f (x ∷ xs) zero = refl
parents_at_map f (x ∷ xs) (suc e) = parents_at_map f xs e

-- ---- the rows of words

pub length_rows : (w : List ℕ) → length (rows_of w) ≡ at w USED
unfolding rows_of
length_rows w = length_tabulate (at w USED) (row_of w)

pub row_at : (w : List ℕ) (e : ℕ) → e < at w USED → get_or (rows_of w) e no_row ≡ row_of w e
unfolding rows_of
row_at w e h = get_d_tabulate (at w USED) (row_of w) e no_row h

pub left_at : (w : List ℕ) (xs : List Row) (e : ℕ) → rows_of w ≡ xs → e < at w USED → at w (LEFT + e) ≡ (get_or xs e no_row).left
left_at w xs e q h = ap (λ (x : Row). x.left) (sym (row_at w e h)) ∙ ap (λ (ys : List Row). (get_or ys e no_row).left) q

pub right_at : (w : List ℕ) (xs : List Row) (e : ℕ) → rows_of w ≡ xs → e < at w USED → at w (RIGHT + e) ≡ (get_or xs e no_row).right
right_at w xs e q h = ap (λ (x : Row). x.right) (sym (row_at w e h)) ∙ ap (λ (ys : List Row). (get_or ys e no_row).right) q

-- The length and the parents of an entry stand in its words.
pub length_of_rows : (f : File) (w : List ℕ) (e : ℕ) → e < at w USED → length_at e (map (entry_of f) (rows_of w)) ≡ length_of w e
length_of_rows f w e h = length_at_map f (rows_of w) e ∙ ap (λ (x : Row). x.len) (row_at w e h)

pub parents_of_rows : (f : File) (w : List ℕ) (e : ℕ) → e < at w USED → parents_at e (map (entry_of f) (rows_of w)) ≡ parents_of w e
parents_of_rows f w e h = parents_at_map f (rows_of w) e ∙ ap (λ (x : Row). x.parents) (row_at w e h)

-- A row at the end.
pub getD_end : (xs : List Row) (x : Row) → get_or (xs ++ x ∷ []) (length xs) no_row ≡ x
getD_end [] x = refl
getD_end (y ∷ xs) x = getD_end xs x

pub getD_before : (xs : List Row) (x : Row) (e : ℕ) → e < length xs → get_or (xs ++ x ∷ []) e no_row ≡ get_or xs e no_row
getD_before xs x e h = get_or-append xs (x ∷ []) no_row e h
