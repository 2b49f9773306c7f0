-- The bits of a path that was found, as a path builder gets and holds them.
-- Assumes nothing.
use Rattle.std.specs.Prelude.{ℕ, zero, suc, ◌*◌, ◌/◌, ◌≤◌, ◌≡◌, Bool, false, List, ◌∷◌, length}
use Rattle.path.specs.Bytes.{odd}
use Rattle.path_builder.specs.declared.PathBuilder.{PathBuilder}
use Rattle.path_builder.specs.Builder.{built, Sound}
use Rattle.search_list.specs.State.{trues, node_bits, Chain}
use Rattle.search_bytes.specs.declared.node_bits.TakenBits.{TakenBits}

-- Bits with n of a number's pushed after them, the lowest first.
abbrev pub with_number : (n v : ℕ) → List Bool → List Bool
with_number zero v bits = bits
with_number (suc n) v bits = with_number n (v / 2) (odd v ∷ bits)

-- Node a has the bits of an earlier node, and then n that were taken.
pub record Taken (w : List ℕ) (a n : ℕ) (t : TakenBits) : Type 0 where
  pub chain : Chain w t.before
  pub bits_are : node_bits w a ≡ with_number n t.number (node_bits w t.before)

-- Bits with x of the stack pushed after them: a 0, and then each a 1.
abbrev pub with_stack : (x : ℕ) → List Bool → List Bool
with_stack zero bits = bits
with_stack (suc x) bits = trues x (false ∷ bits)

-- The builder holds these bits.
pub record Holds (store : List ℕ) (p : PathBuilder) (bits : List Bool) : Type 0 where
  pub sound : Sound store p
  pub bits_are : built store p ≡ bits

-- There is room for n bits, and they can be counted.
pub record Fits (store : List ℕ) (n : ℕ) : Type 0 where
  pub room : n ≤ 8 * length store
  pub count : n ≤ 8192
