-- Laws of question 1.
-- Assumes nothing.
use Prim.Native.Nat.{ℕ, ◌≤◌, ◌<◌}
use mathlib.Core.Path.{◌≡◌}
use mathlib.Core.Bool.{false}
use mathlib.Core.List.{List}
use borrow.Author.Tests.{le-leb, lt-leb}
use lib.Dec.{leb}
use lib.ListN.{length}
use Rattle.words.specs.Words.{WORK}
use Rattle.spec_reading.specs.Call.{long_enough}
use Rattle.read_answer.specs.Answer.{slices}

-- Question 1 slice by slice: the first that is too short answers it, or the last one does.
pub short_work : (w p a b : List ℕ) → length w < WORK → false ≡ long_enough (slices w p a b)
short_work w p a b h = simp (lt-leb WORK (length w) h)

pub short_pairs : (w p a b : List ℕ) → WORK ≤ length w → length p < 262144 → false ≡ long_enough (slices w p a b)
short_pairs w p a b h k = simp (le-leb WORK (length w) h, lt-leb 262144 (length p) k)

pub short_atoms : (w p a b : List ℕ) → WORK ≤ length w → 262144 ≤ length p → length a < 131072 → false ≡ long_enough (slices w p a b)
short_atoms w p a b h k l = simp (le-leb WORK (length w) h, le-leb 262144 (length p) k, lt-leb 131072 (length a) l)

pub long_bytes : (w p a b : List ℕ) → WORK ≤ length w → 262144 ≤ length p → 131072 ≤ length a → leb 65536 (length b) ≡ long_enough (slices w p a b)
long_bytes w p a b h k l = simp (le-leb WORK (length w) h, le-leb 262144 (length p) k, le-leb 131072 (length a) l)
