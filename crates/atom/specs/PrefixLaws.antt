-- Laws of the prefix: the table's rule, once over the widths; the shortest width is the one whose least size is not above the size and that holds it.
-- Assumes nothing.
use Rattle.std.specs.Prelude.{ℕ, zero, suc, ◌+◌, ◌-◌, ◌^◌, ◌≤◌, ◌<◌, ◌≡◌, refl, Bool, true, false, cond, List, [], ◌∷◌, ltb, length, get_or}
use Rattle.std.proofs.Common.{sym, ap, ◌∙◌, arith, add-one, pow_mono, lt-ltb, le-ltb}
use Rattle.std.proofs.Math.Option.{none, some, none-ne-some, some-injective}
use Rattle.words.specs.Choice.{by_lt, cond_true, cond_false, clash}
use Rattle.words.specs.Words.{tabulate}
use Rattle.words.proofs.Words.{get_d_tabulate}
use Rattle.atom.specs.Prefix.{size_bits, least, first_width, width, mark, single, prefix_width}

-- ---- tables by prefix width

-- A table of a rule f over the widths from 1 on has f w at the place of w.
pub table_at : (f : ℕ → ℕ) (n : ℕ) (table : List ℕ) → tabulate n (λ k. f (suc k)) ≡ table → (w : ℕ) → 1 ≤ w → w ≤ n → get_or table (w - 1) 0 ≡ f w
table_at f n table e w h k =
    let back : suc (w - 1) ≡ w = omega arith in
    rw (← e) (get_d_tabulate n (λ k. f (suc k)) (w - 1) 0 (omega arith) ∙ ap f back)

-- The least sizes of the widths 1 to 5.
pub least_sizes : tabulate 5 (λ k. least (suc k)) ≡ 0 ∷ 64 ∷ 8192 ∷ 1048576 ∷ 134217728 ∷ []
unfolding tabulate
least_sizes = refl

-- The leading ones of the widths 1 to 5.
pub marks : tabulate 5 (λ k. mark (suc k)) ≡ 0x80 ∷ 0xc000 ∷ 0xe00000 ∷ 0xf0000000 ∷ 0xf800000000 ∷ []
unfolding tabulate
marks = refl

-- ---- the shortest width

-- A width carries from where the one before ends.
pub least_next : (w : ℕ) → 1 ≤ w → least (w + 1) ≡ 2 ^ size_bits w
least_next zero h = absurd (omega arith)
least_next (suc w) h = ap least (add-one (suc w))

first_here : (n w size : ℕ) → size < 2 ^ size_bits w → first_width (suc n) w size ≡ some w
unfolding first_width
first_here n w size h = cond_true _ _ _ (lt-ltb _ _ h)

first_on : (n w size : ℕ) → 2 ^ size_bits w ≤ size → first_width (suc n) w size ≡ first_width n (suc w) size
unfolding first_width
first_on n w size h = cond_false _ _ _ (le-ltb _ _ h)

first_none : (w size : ℕ) → first_width 0 w size ≡ none
unfolding first_width
first_none w size = refl

pub width_here : (w size : ℕ) → w ≤ 5 → size < 2 ^ size_bits w → first_width (6 - w) w size ≡ some w
width_here w size h k = let e : 6 - w ≡ suc (5 - w) = omega arith in rw e (first_here (5 - w) w size k)

pub width_on : (w size : ℕ) → w < 5 → 2 ^ size_bits w ≤ size → first_width (6 - w) w size ≡ first_width (6 - (w + 1)) (w + 1) size
width_on w size h k =
    let e : 6 - w ≡ suc (5 - w) = omega arith in
    let f : 6 - (w + 1) ≡ 5 - w = omega arith in
    rw (e, f, add-one w) (first_on (5 - w) w size k)

-- What a width found says of the size.
pub record Carries (w size : ℕ) : Type 0 where
  pub one : 1 ≤ w
  pub five : w ≤ 5
  pub from : least w ≤ size
  pub below : size < 2 ^ size_bits w

found : (n w size r : ℕ) → 1 ≤ w → w + n ≤ 6 → least w ≤ size → first_width n w size ≡ some r → Carries r size
found zero w size r h k l e = absurd (none-ne-some r (sym (first_none w size) ∙ e))
found (suc n) w size r h k l e =
    by_lt size (2 ^ size_bits w)
    (λ q. let s : w ≡ r = some-injective w r (sym (first_here n w size q) ∙ e) in rw (← s) (record { one = h; five = omega arith; from = l; below = q }))
    (λ q. found n (suc w) size r (omega arith) (omega arith) (next q) (sym (first_on n w size q) ∙ e))
  where
    next : 2 ^ size_bits w ≤ size → least (suc w) ≤ size
    next q = let s : least (suc w) ≡ 2 ^ size_bits w = ap least (sym (add-one w)) ∙ least_next w h in omega arith

pub width_carries : (size w : ℕ) → width size ≡ some w → Carries w size
width_carries size w e = found 5 1 size w (omega arith) (omega arith) (omega arith) e

bits_up : (v w : ℕ) → 1 ≤ v → v < w → 2 ^ size_bits v ≤ least w
bits_up v zero h k = absurd (omega arith)
bits_up v (suc zero) h k = absurd (omega arith)
bits_up v (suc (suc w)) h k = pow_mono (omega arith)

-- No width carries a size that a lesser one holds.
pub carries_most : (v w size : ℕ) → 1 ≤ v → Carries w size → size < 2 ^ size_bits v → w ≤ v
carries_most v w size h c k = by_lt v w (λ q. absurd (omega (arith, c.from, bits_up v w h q))) (λ q. q)

search : (n v w size : ℕ) → 1 ≤ v → v ≤ w → w < v + n → Carries w size → first_width n v size ≡ some w
search zero v w size h k l c = absurd (omega arith)
search (suc n) v w size h k l c =
    by_lt v w
    (λ q. let u : 2 ^ size_bits v ≤ least w = bits_up v w h q in first_on n v size (omega (arith, c.from)) ∙ search n (suc v) w size (omega arith) (omega arith) (omega arith) c)
    (λ q. let s : w ≡ v = omega arith in rw s (first_here n v size (rw s at c.below)))

-- The width is the one that carries the size.
pub carries_width : (size w : ℕ) → Carries w size → width size ≡ some w
carries_width size w c = search 5 1 w size (omega arith) c.one (omega (arith, c.five)) c

-- A size that a prefix holds has at most 34 bits, and any such size has a width.
pub carries_limit : (size w : ℕ) → Carries w size → size < 2 ^ 34
carries_limit size w c = let m : 2 ^ size_bits w ≤ 2 ^ 34 = pow_mono {i = size_bits w} {j = 34} (omega (arith, c.five)) in omega (arith, c.below)

none_on : (n w size : ℕ) → w + n ≤ 6 → 2 ^ 34 ≤ size → first_width n w size ≡ none
none_on zero w size k h = first_none w size
none_on (suc n) w size k h = let m : 2 ^ size_bits w ≤ 2 ^ 34 = pow_mono {i = size_bits w} {j = 34} (omega arith) in first_on n w size (omega arith) ∙ none_on n (suc w) size (omega arith) h

pub width_none : (size : ℕ) → 2 ^ 34 ≤ size → width size ≡ none
width_none size h = none_on 5 1 size (omega arith) h

none_size : (n w size : ℕ) → w + suc n ≡ 6 → first_width (suc n) w size ≡ none → 2 ^ 34 ≤ size
none_size zero w size k e =
    by_lt size (2 ^ size_bits w) (λ q. absurd (none-ne-some w (sym e ∙ first_here 0 w size q))) (λ q. let five : w ≡ 5 = omega arith in rw five at q)
none_size (suc n) w size k e =
    by_lt size (2 ^ size_bits w) (λ q. absurd (none-ne-some w (sym e ∙ first_here (suc n) w size q)))
    (λ q. none_size n (suc w) size (omega arith) (sym (first_on (suc n) w size q) ∙ e))

-- Every size below 2^34 has a width.
pub width_some : (size : ℕ) → size < 2 ^ 34 → width size ≡ none → ⊥
width_some size h e = omega (arith, none_size 4 1 size (omega arith) e)

-- ---- an atom's width

pub single_one : (atom : List ℕ) → length atom ≡ 1 → single atom ≡ ltb (get_or atom 0 0) 0x80
single_one [] e = absurd (omega arith)
single_one (b ∷ []) e = refl
single_one (b ∷ c ∷ bs) e = absurd (omega arith)

pub single_other : (atom : List ℕ) → (length atom ≡ 1 → ⊥) → single atom ≡ false
single_other [] h = refl
single_other (b ∷ []) h = absurd (h refl)
single_other (b ∷ c ∷ bs) h = refl

pub single_length : (atom : List ℕ) → single atom ≡ true → length atom ≡ 1
single_length [] e = clash cc
single_length (b ∷ []) e = refl
single_length (b ∷ c ∷ bs) e = clash cc

-- The width of an atom's prefix is at most 5, and its size has at most 34 bits.
pub record Prefixed (atom : List ℕ) (w : ℕ) : Type 0 where
  pub five : w ≤ 5
  pub limit : length atom < 2 ^ 34

pub prefixed : (atom : List ℕ) (w : ℕ) → prefix_width atom ≡ some w → Prefixed atom w
unfolding prefix_width
prefixed atom w e = go (single atom) refl e
  where
    go : (b : Bool) → single atom ≡ b → cond b (some 0) (width (length atom)) ≡ some w → Prefixed atom w
    go true s q =
        let z : 0 ≡ w = some-injective 0 w q in
        record { five = omega arith; limit = omega (arith, single_length atom s) }
    go false s q = let c : Carries w (length atom) = width_carries (length atom) w q in record { five = c.five; limit = carries_limit (length atom) w c }
