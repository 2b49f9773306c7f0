-- The bits that a path builder holds.
-- Assumes nothing.
use Rattle.std.specs.Prelude.{ℕ, ◌+◌, ◌*◌, ◌%◌, ◌^◌, ◌≤◌, ◌<◌, ◌≡◌, Bool, true, false, List, [], ◌∷◌, length, take, drop}
use Rattle.path.specs.Bytes.{value, all_bits, path_bytes}
use Rattle.path_builder.specs.declared.ChildPos.{ChildPos}
use Rattle.path_builder.specs.declared.ChildPos.TheVariants.{Left, Right}
use Rattle.path_builder.specs.declared.PathBuilder.{PathBuilder}

-- A step to the right is a 1.
abbrev pub right : ChildPos → Bool
right Left = false
right Right = true

-- How many places of the last byte are free. The next bit goes to the highest of them, or to place 7 of a new byte.
abbrev pub free : PathBuilder → ℕ
free p = (p.bit_pos + 1) % 8

-- The bits, the latest pushed first: those of the bytes in use, less the free places.
unfoldable pub built : List ℕ → PathBuilder → List Bool
built store p = drop (free p) (all_bits (take p.in_use store))

-- A builder's own numbers: bits can be counted in 32 bits, and with no byte there is no free place.
pub record Counts (p : PathBuilder) : Type 0 where
  pub place : p.bit_pos < 8
  pub begun : free p ≤ 8 * p.in_use
  pub few : 8 * p.in_use < 2 ^ 32

-- A builder with its store: the free places are 0. Nothing is said of the bytes after those in use.
pub record Sound (store : List ℕ) (p : PathBuilder) : Type 0 where
  pub counts : Counts p
  pub within : p.in_use ≤ length store
  pub unset : value (take (free p) (all_bits (take p.in_use store))) ≡ 0

-- A new builder has no bits, whatever its store.
pub record Fresh (p : PathBuilder) : Type 0 where
  pub sound : (store : List ℕ) → Sound store p
  pub none : (store : List ℕ) → built store p ≡ []

-- There is room for one bit more, and it can be counted.
pub record Room (store : List ℕ) (p : PathBuilder) : Type 0 where
  pub bytes : length (built store p) < 8 * length store
  pub count : length (built store p) + 8 < 2 ^ 32

-- The bit b was pushed. The bytes after those in use are as they were.
pub record Pushed (store : List ℕ) (p : PathBuilder) (b : Bool) (store' : List ℕ) (p' : PathBuilder) : Type 0 where
  pub sound : Sound store' p'
  pub bits : built store' p' ≡ b ∷ built store p
  pub rest : drop p'.in_use store' ≡ drop p'.in_use store

-- The first n bytes are the path's, and those after them are as they were.
pub record Finished (store : List ℕ) (p : PathBuilder) (store' : List ℕ) (n : ℕ) : Type 0 where
  pub count : n ≡ length (path_bytes (built store p))
  pub bytes : take n store' ≡ path_bytes (built store p)
  pub rest : drop n store' ≡ drop n store
