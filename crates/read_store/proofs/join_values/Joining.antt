-- Laws of a join: two values become the pair of them.
-- Assumes nothing.
use Prim.Native.Nat.{ℕ, ◌+◌, ◌-◌, ◌*◌, ◌≤◌}
use mathlib.Core.Path.{◌≡◌, sym, ap, ◌∙◌}
use mathlib.Core.List.{List, [], ◌∷◌, ◌++◌}
use mathlib.Core.Option.{none}
use native.Mathlib.Omega.{arith}
use lib.ListN.{length, take, drop}
use lib.Seq.{paste}
use Rattle.allocator.specs.Handle.{handle_of, pair}
use Rattle.spec_reading.specs.Store.{Store, Stored, Value, new_pair, push_made, join_values}
use Rattle.read_store.proofs.Stored.{take_two, drop_two, half}
use Rattle.read_store.specs.Layout.{value_at, values_of, PushedValue}
use Rattle.read_store.proofs.reader_stacks.Stacks.{values_two}
use Rattle.read_store.specs.Joined.{Joined}

-- what `join_values` makes of two values or more
pub joins : (w : List ℕ) (n : ℕ) → 2 ≤ n → (s : Store)
    → join_values (values_of w n) s ≡ push_made (new_pair (value_at w (n - 2)).node (value_at w (n - 1)).node s) (values_of w (n - 2))
joins w n two s = ap (λ (vs : List Value). join_values vs s) (values_two w n two)

module _ (w p : List ℕ) (n used node : ℕ) (w' p' : List ℕ) (two : 2 ≤ n) (room : 2 * used + 2 ≤ length p) (is : node ≡ handle_of (pair used))
    (appended : p' ≡ paste p (2 * used) ((value_at w (n - 2)).node ∷ (value_at w (n - 1)).node ∷ []) 2) (push : PushedValue w w' (n - 2) node) where
  pub joined : Joined w p n used w' p'
  joined =
      let e : n - 1 ≡ n - 2 + 1 = omega arith in
      record {
        values_are =
            λ s q.
            ap (values_of w') e ∙ push.values
            ∙ (λ i. record { node = (is ∙ ap (λ (k : ℕ). handle_of (pair k)) (sym (half p s.pairs used (omega arith) q))) i; list = none } ∷ values_of w (n - 2))
            ∙ sym (ap (λ (x : Stored). x.values) (joins w n two s));
        pairs_are =
            λ s q.
            ap (take (2 * (used + 1))) appended ∙ take_two p used (value_at w (n - 2)).node (value_at w (n - 1)).node room
            ∙ (λ i. sym q i ++ (value_at w (n - 2)).node ∷ (value_at w (n - 1)).node ∷ []) ∙ sym (ap (λ (x : Stored). x.store.pairs) (joins w n two s));
        pairs_rest = ap (drop (2 * (used + 1))) appended ∙ drop_two p used (value_at w (n - 2)).node (value_at w (n - 1)).node room;
        ops = push.ops;
      }
