-- Laws of the entries as rows: one row changed, a row looked up by its key, the parents counted.
-- Assumes nothing.
use Prim.Native.Nat.{ℕ, zero, suc, ◌+◌, ◌*◌, ◌^◌, ◌<◌}
use mathlib.Core.Path.{◌≡◌, refl, ap, subst}
use mathlib.Core.Bool.{Bool, true, false, cond, ◌&&◌}
use mathlib.Core.List.{List, ◌∷◌}
use mathlib.Core.Option.{Option, none, some}
use native.Mathlib.Omega.{arith}
use native.Mathlib.Nat.{not-suc-le-zero}
use native.Mathlib.Decide.{ℕ_discrete}
use lib.Dec.{eqb}
use borrow.Author.Tests.{eq-eqb, eqb-true}
use Rattle.words.specs.Choice.{clash}
use Rattle.words.specs.Words.{at, tabulate}
use Rattle.words.proofs.Words.{tabulate_same}
use Rattle.spec_session.specs.Cache.{later}
use Rattle.work_layout.specs.Layout.{USED, COUNTS, LEFT, RIGHT, LOW, HIGH, MAX_PARENTS}
use Rattle.work_layout.specs.Counts.{counts_same}
use Rattle.work_layout.specs.Rows.{Sound, Row, link_at, parent_of, parents_of, row_of, with_parents, adjust_row, all_counts}
use Rattle.cache_entries.specs.Meaning.{entry_or_none}
use Rattle.cache_entries.specs.table.Effects.{find_row}

-- An entry rests on its own words.
pub row_same : (w w' : List ℕ) (k : ℕ) → Sound w → k < at w USED → at w' (LEFT + k) ≡ at w (LEFT + k)
    → at w' (RIGHT + k) ≡ at w (RIGHT + k) → at w' (LOW + k) ≡ at w (LOW + k) → at w' (HIGH + k) ≡ at w (HIGH + k) → at w' (COUNTS + k) ≡ at w (COUNTS + k)
    → ((i : ℕ) → i < MAX_PARENTS → link_at w' k i ≡ link_at w k i) → row_of w' k ≡ row_of w k
unfolding parents_of
row_same w w' k so h a b l m c q =
    let d = so.counts k (omega (arith, so.used)) in
    let ps : parents_of w' k ≡ parents_of w k =
    rw c (tabulate_same (at w (COUNTS + k)) (λ i. parent_of (link_at w k i)) (λ i. parent_of (link_at w' k i)) (λ i z. ap parent_of (q i (omega arith)))) in
    λ i. record { left = a i; right = b i; parents = ps i; len = l i + 2 ^ 32 * m i }

-- Two tables that differ in the parents of row e alone.
pub adjust_tabulate : (n e : ℕ) (g h : ℕ → Row) (f : List (ℕ × Bool) → List (ℕ × Bool)) → e < n → ((k : ℕ) → k < n → (k ≡ e → ⊥) → g k ≡ h k)
    → g e ≡ with_parents (f (h e).parents) (h e) → tabulate n g ≡ adjust_row e f (tabulate n h)
unfolding tabulate
adjust_tabulate zero e g h f l s q = absurd (not-suc-le-zero l)
adjust_tabulate (suc n) zero g h f l s q =
    let rest = tabulate_same n (λ k. h (suc k)) (λ k. g (suc k)) (λ k m. s (suc k) (omega arith) (omega arith)) in
    λ i. q i ∷ rest i
adjust_tabulate (suc n) (suc e) g h f l s q =
    let first = s 0 (omega arith) (omega arith) in
    let rest = adjust_tabulate n e (λ k. g (suc k)) (λ k. h (suc k)) f (omega arith) (λ k m d. s (suc k) (omega arith) (omega arith)) q in
    λ i. first i ∷ rest i

-- ---- the parents of all entries

-- Only the count of entry e is another.
pub counts_but : (w w' : List ℕ) (n e : ℕ) → e < n → ((k : ℕ) → k < n → (k ≡ e → ⊥) → at w' (COUNTS + k) ≡ at w (COUNTS + k))
    → all_counts w' n + at w (COUNTS + e) ≡ all_counts w n + at w' (COUNTS + e)
unfolding all_counts
counts_but w w' zero e l s = absurd (not-suc-le-zero l)
counts_but w w' (suc n) e l s = go (ℕ_discrete n e) (λ m. counts_but w w' n e m (λ k j d. s k (omega arith) d))
  where
    go : Dec (n ≡ e) → (e < n → all_counts w' n + at w (COUNTS + e) ≡ all_counts w n + at w' (COUNTS + e))
        → at w' (COUNTS + n) + all_counts w' n + at w (COUNTS + e) ≡ at w (COUNTS + n) + all_counts w n + at w' (COUNTS + e)
    go (yes q) f =
        let a : at w (COUNTS + n) ≡ at w (COUNTS + e) = ap (λ (x : ℕ). at w (COUNTS + x)) q in
        let b : at w' (COUNTS + n) ≡ at w' (COUNTS + e) = ap (λ (x : ℕ). at w' (COUNTS + x)) q in
        omega (arith, counts_same w w' n (λ k m. s k (omega arith) (omega arith)))
    go (no q) f = omega (arith, f (omega arith), s n (omega arith) q)

-- ---- a key looked up in a table

-- No row has the key l r.
abbrev pub Missing : (ℕ → Row) → (l r n : ℕ) → Type 0
Missing f l r n = (k : ℕ) → k < n → (f k).left ≡ l → (f k).right ≡ r → ⊥

both : (a b c d : ℕ) → (a ≡ b → c ≡ d → ⊥) → eqb a b && eqb c d ≡ false
both a b c d h = go (eqb a b) (eqb c d) refl refl
  where
    go : (x y : Bool) → eqb a b ≡ x → eqb c d ≡ y → x && y ≡ false
    go true true p q = absurd (h (eqb-true a b p) (eqb-true c d q))
    go true false p q = refl
    go false y p q = refl

pub find_none : (n : ℕ) (f : ℕ → Row) (l r : ℕ) → Missing f l r n → find_row l r (tabulate n f) ≡ none
unfolding tabulate
find_none zero f l r m = refl
find_none (suc n) f l r m =
    rw (both (f 0).left l (f 0).right r (m 0 (omega arith)), find_none n (λ k. f (suc k)) l r (λ k h. m (suc k) (omega arith)))

-- The first row with the key.
pub find_some : (n : ℕ) (f : ℕ → Row) (l r e : ℕ) → e < n → (f e).left ≡ l → (f e).right ≡ r → Missing f l r e → find_row l r (tabulate n f) ≡ some e
unfolding tabulate
find_some zero f l r e h a b m = absurd (not-suc-le-zero h)
find_some (suc n) f l r zero h a b m = rw (eq-eqb (f 0).left l a, eq-eqb (f 0).right r b)
find_some (suc n) f l r (suc e) h a b m =
    rw (both (f 0).left l (f 0).right r (m 0 (omega arith)), find_some n (λ k. f (suc k)) l r e (omega arith) a b (λ k q. m (suc k) (omega arith)))

-- What is found is there, and has the key.
pub find_at : (n : ℕ) (f : ℕ → Row) (l r e : ℕ) → find_row l r (tabulate n f) ≡ some e → (e < n) × ((f e).left ≡ l) × ((f e).right ≡ r)
unfolding tabulate
find_at zero f l r e q = clash cc
find_at (suc n) f l r e q =
    go (eqb (f 0).left l) (eqb (f 0).right r) (find_row l r (tabulate n (λ j. f (suc j)))) refl refl q (λ d. find_at n (λ j. f (suc j)) l r d)
  where
    Is : ℕ → Type 0
    Is d = (d < suc n) × ((f d).left ≡ l) × ((f d).right ≡ r)

    rest : (o : Option ℕ) → later o ≡ some e → ((d : ℕ) → o ≡ some d → (d < n) × ((f (suc d)).left ≡ l) × ((f (suc d)).right ≡ r)) → Is e
    rest none p g = clash cc
    rest (some d) p g = let y : suc d ≡ e = cc in let z = g d refl in subst Is y (omega arith, z.1, z.2)

    go : (a b : Bool) (o : Option ℕ) → eqb (f 0).left l ≡ a → eqb (f 0).right r ≡ b → cond (a && b) (some 0) (later o) ≡ some e
        → ((d : ℕ) → o ≡ some d → (d < n) × ((f (suc d)).left ≡ l) × ((f (suc d)).right ≡ r)) → Is e
    go true true o x y p g = let z : 0 ≡ e = cc in subst Is z (omega arith, eqb-true (f 0).left l x, eqb-true (f 0).right r y)
    go true false o x y p g = rest o p g
    go false b o x y p g = rest o p g

-- ---- a word that stands for an entry, as one more, or for none

pub word_some : (k e : ℕ) → some e ≡ entry_or_none k → k ≡ e + 1
word_some zero e q = clash cc
word_some (suc k) e q = let z : e ≡ k = cc in omega arith

pub word_none : (k : ℕ) → none ≡ entry_or_none k → k ≡ 0
word_none zero q = refl
word_none (suc k) q = clash cc
