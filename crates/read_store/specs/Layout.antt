-- The reader's stacks in work: what the words stand for, and what each function leaves.
use Rattle.std.specs.Prelude.{ℕ, zero, suc, ◌+◌, ◌*◌, ◌≤◌, ◌≡◌, List, [], ◌∷◌}
use Rattle.std.proofs.Math.Option.{Option, none, some}
use Rattle.words.specs.Words.{at}
use Rattle.spec_reading.specs.Format.{ParseOp, SExp, Cons}
use Rattle.spec_reading.specs.Store.{Value}

abbrev pub OPS : ℕ
OPS = 0

abbrev pub VALUES : ℕ
VALUES = 131072

abbrev pub op_of : ℕ → ParseOp
op_of zero = SExp
op_of (suc n) = Cons

-- n operations, the last one first
unfoldable pub ops_of : List ℕ → ℕ → List ParseOp
ops_of w zero = []
ops_of w (suc n) = op_of (at w (OPS + n)) ∷ ops_of w n

abbrev pub cached_list : ℕ → Option ℕ
cached_list zero = none
cached_list (suc h) = some h

-- value n, counted from the bottom
abbrev pub value_at : List ℕ → ℕ → Value
value_at w n = record { node = at w (VALUES + 2 * n); list = cached_list (at w (VALUES + 2 * n + 1)) }

-- n values, the last one first
unfoldable pub values_of : List ℕ → ℕ → List Value
values_of w zero = []
values_of w (suc n) = value_at w n ∷ values_of w n

-- A value is on top; the operations and the values below are as they were.
pub record PushedValue (w w' : List ℕ) (n node : ℕ) : Type 0 where
  pub values : values_of w' (n + 1) ≡ record { node = node; list = none } ∷ values_of w n
  pub below : (m : ℕ) → m ≤ n → values_of w' m ≡ values_of w m
  pub ops : (m : ℕ) → m ≤ VALUES → ops_of w' m ≡ ops_of w m

-- To read a tree and to join two are on top; the values are as they were.
pub record PushedPair (w w' : List ℕ) (n : ℕ) : Type 0 where
  pub ops : ops_of w' (n + 2) ≡ SExp ∷ Cons ∷ ops_of w n
  pub values : (m : ℕ) → values_of w' m ≡ values_of w m
