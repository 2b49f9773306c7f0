-- A bit put into a path's store.
-- Assumes nothing.
use Rattle.std.specs.Prelude.{ℕ, ◌+◌, ◌*◌, ◌-◌, ◌%◌, ◌^◌, ◌≡◌, cond, List, eqb, get_or, set}
use Rattle.path_builder.specs.declared.PathBuilder.{PathBuilder}

-- The bit b is at place k: of a new byte after n bytes where k is 7, and otherwise of the last of them, to which it is added.
abbrev pub put : List ℕ → ℕ → ℕ → ℕ → List ℕ
put store n k b = cond (eqb k 7) (set store n (b * 2 ^ 7)) (set store (n - 1) (get_or store (n - 1) 0 + b * 2 ^ k))

-- The bytes that are then in use.
abbrev pub used : ℕ → ℕ → ℕ
used n k = cond (eqb k 7) (n + 1) n

-- The bit b was put after n bytes at place k, and p is where the next one goes.
pub record Put (store : List ℕ) (n k b : ℕ) (store' : List ℕ) (p : PathBuilder) : Type 0 where
  pub stored : store' ≡ put store n k b
  pub bytes : p.in_use ≡ used n k
  pub place : p.bit_pos ≡ (k + 7) % 8
