-- Laws of the reader's two stacks in work: which words they depend on, how many values there are, and what the stores of a push leave.
-- Assumes nothing.
use Prim.Native.Nat.{ℕ, zero, suc, ◌+◌, ◌-◌, ◌*◌, ◌≤◌, ◌<◌}
use mathlib.Core.Path.{◌≡◌, refl, ap, ◌∙◌}
use mathlib.Core.List.{List, [], ◌∷◌}
use native.Mathlib.Omega.{arith}
use native.Mathlib.Numerals.{add-one}
use lib.ListN.{length, drop, set, length-set}
use Rattle.words.specs.Words.{at}
use Rattle.words.proofs.Words.{Store, stores, miss, hit}
use Rattle.spec_reading.specs.Format.{ParseOp, SExp, Cons}
use Rattle.spec_reading.specs.Store.{Value}
use Rattle.read_store.specs.Layout.{OPS, VALUES, op_of, ops_of, cached_list, value_at, values_of, PushedValue, PushedPair}

-- n operations keep where the words from OPS on keep
pub ops_same : (w w' : List ℕ) (n : ℕ) → ((k : ℕ) → k < OPS + n → at w' k ≡ at w k) → ops_of w' n ≡ ops_of w n
unfolding ops_of
ops_same w w' zero h = refl
ops_same w w' (suc n) h = λ i. op_of (h (OPS + n) (omega arith) i) ∷ ops_same w w' n (λ k l. h k (omega arith)) i

-- n values keep where their words keep
pub values_same : (w w' : List ℕ) (n : ℕ) → ((k : ℕ) → VALUES ≤ k → k < VALUES + 2 * n → at w' k ≡ at w k) → values_of w' n ≡ values_of w n
unfolding values_of
values_same w w' zero h = refl
values_same w w' (suc n) h =
    λ i.
    record { node = h (VALUES + 2 * n) (omega arith) (omega arith) i; list = cached_list (h (VALUES + 2 * n + 1) (omega arith) (omega arith) i) }
    ∷ values_same w w' n (λ k l m. h k l (omega arith)) i

-- one operation, or value, more
pub ops_more : (w : List ℕ) (n : ℕ) → ops_of w (n + 1) ≡ op_of (at w (OPS + n)) ∷ ops_of w n
unfolding ops_of
ops_more w n = ap (ops_of w) (add-one n)

pub values_more : (w : List ℕ) (n : ℕ) → values_of w (n + 1) ≡ value_at w n ∷ values_of w n
unfolding values_of
values_more w n = ap (values_of w) (add-one n)

-- the two topmost of n values
pub values_two : (w : List ℕ) (n : ℕ) → 2 ≤ n → values_of w n ≡ value_at w (n - 1) ∷ value_at w (n - 2) ∷ values_of w (n - 2)
values_two w n h =
    let e : n ≡ n - 1 + 1 = omega arith in
    let f : n - 1 ≡ n - 2 + 1 = omega arith in
    ap (values_of w) e ∙ values_more w (n - 1)
    ∙ ap {B = List Value} (λ vs. value_at w (n - 1) ∷ vs) (ap (values_of w) f ∙ values_more w (n - 2))

-- As many values as are counted.
pub length_values : (w : List ℕ) (n : ℕ) → length (values_of w n) ≡ n
unfolding values_of
length_values w zero = refl
length_values w (suc n) = ap suc (length_values w n)

-- The values without the k topmost ones.
pub drop_values : (w : List ℕ) (n k : ℕ) → k ≤ n → drop k (values_of w n) ≡ values_of w (n - k)
unfolding values_of
drop_values w n zero h = ap (values_of w) less
  where
    less : n ≡ n - 0
    less = omega arith
drop_values w zero (suc k) h = absurd (omega arith)
drop_values w (suc n) (suc k) h = drop_values w n k (omega arith) ∙ ap (values_of w) less
  where
    less : n - k ≡ suc n - suc k
    less = omega arith

-- ---- pushes

module _ (w : List ℕ) (n v : ℕ) (room : VALUES + 2 * n + 1 < length w) where
  value_stores : List Store
  value_stores = record { to = VALUES + 2 * n; word = v } ∷ record { to = VALUES + 2 * n + 1; word = 0 } ∷ []

  value_pushed : List ℕ
  value_pushed = stores w value_stores

  value_miss : (k : ℕ) → (k ≡ VALUES + 2 * n → ⊥) → (k ≡ VALUES + 2 * n + 1 → ⊥) → at value_pushed k ≡ at w k
  unfolding value_pushed value_stores
  value_miss k p q = miss value_stores w k (p, (q, tt))

  value_below : (m : ℕ) → m ≤ n → values_of value_pushed m ≡ values_of w m
  value_below m l = values_same w value_pushed m (λ k p q. value_miss k (λ e. omega arith) (λ e. omega arith))

  value_node : at value_pushed (VALUES + 2 * n) ≡ v
  unfolding value_pushed value_stores
  value_node =
      hit (record { to = VALUES + 2 * n + 1; word = 0 } ∷ []) w (VALUES + 2 * n) v (omega arith) ((λ e. omega arith), tt)

  value_list : at value_pushed (VALUES + 2 * n + 1) ≡ 0
  unfolding value_pushed value_stores
  value_list =
      let l : VALUES + 2 * n + 1 < length (set w (VALUES + 2 * n) v) = simp length-set (omega arith) in
      hit [] (set w (VALUES + 2 * n) v) (VALUES + 2 * n + 1) 0 l tt

  pub pushed_value : PushedValue w (set (set w (VALUES + 2 * n) v) (VALUES + 2 * n + 1) 0) n v
  unfolding value_pushed value_stores
  pushed_value =
      record {
        values = values_more value_pushed n ∙ (λ i. record { node = value_node i; list = cached_list (value_list i) } ∷ value_below n (omega arith) i);
        below = value_below;
        ops = λ m l. ops_same w value_pushed m (λ k p. value_miss k (λ e. omega arith) (λ e. omega arith));
      }

module _ (w : List ℕ) (n : ℕ) (room : n + 2 ≤ VALUES) (long : VALUES ≤ length w) where
  pair_stores : List Store
  pair_stores = record { to = OPS + n; word = 1 } ∷ record { to = OPS + n + 1; word = 0 } ∷ []

  pair_pushed : List ℕ
  pair_pushed = stores w pair_stores

  pair_miss : (k : ℕ) → (k ≡ OPS + n → ⊥) → (k ≡ OPS + n + 1 → ⊥) → at pair_pushed k ≡ at w k
  unfolding pair_pushed pair_stores
  pair_miss k p q = miss pair_stores w k (p, (q, tt))

  pair_join : at pair_pushed (OPS + n) ≡ 1
  unfolding pair_pushed pair_stores
  pair_join = hit (record { to = OPS + n + 1; word = 0 } ∷ []) w (OPS + n) 1 (omega arith) ((λ e. omega arith), tt)

  pair_read : at pair_pushed (OPS + n + 1) ≡ 0
  unfolding pair_pushed pair_stores
  pair_read =
      let l : OPS + n + 1 < length (set w (OPS + n) 1) = simp length-set (omega arith) in
      hit [] (set w (OPS + n) 1) (OPS + n + 1) 0 l tt

  pair_ops : ops_of pair_pushed (n + 2) ≡ SExp ∷ Cons ∷ ops_of w n
  pair_ops =
      let e : n + 2 ≡ n + 1 + 1 = omega arith in
      let f : OPS + (n + 1) ≡ OPS + n + 1 = omega arith in
      ap (ops_of pair_pushed) e ∙ ops_more pair_pushed (n + 1) ∙ ap {B = List ParseOp} (λ o. op_of o ∷ ops_of pair_pushed (n + 1)) (ap (at pair_pushed) f ∙ pair_read)
      ∙ ap {B = List ParseOp} (λ os. SExp ∷ os)
      (ops_more pair_pushed n ∙ (λ i. op_of (pair_join i) ∷ ops_same w pair_pushed n (λ k p. pair_miss k (λ q. omega arith) (λ q. omega arith)) i))

  pub pushed_pair : PushedPair w (set (set w (OPS + n) 1) (OPS + n + 1) 0) n
  unfolding pair_pushed pair_stores
  pushed_pair =
      record { ops = pair_ops; values = λ m. values_same w pair_pushed m (λ k p q. pair_miss k (λ e. omega arith) (λ e. omega arith)) }
