-- The size, or the output's length where that is less: so many bytes are there, and reading them gives what reading the first `size` gives.
-- Assumes nothing.
use Prim.Native.Nat.{ℕ, min}
use mathlib.Core.Path.{◌≡◌, sym, ap, ◌∙◌}
use mathlib.Core.List.{List}
use native.Mathlib.Omega.{arith}
use lib.ListN.{length, take}
use lib.Seq.{length-take-le}
use Rattle.words.proofs.Words.{take_lesser}
use Rattle.spec_reading.specs.Call as read

-- The count of bytes that are lent.
pub lesser_many : (m n : ℕ) (l : List ℕ) → m ≡ min n (length l) → m ≡ length (take m l)
lesser_many m n l e = sym (length-take-le m l (omega arith))

-- What the reading call gives of the lesser count of bytes is what it gives of the size.
pub first_read : (m n : ℕ) (o : List ℕ) → m ≡ min n (length o) → (lent : read.Slices) (r : read.Result) → r ≡ read.reading (take m o) lent
    → r ≡ read.reading (take n o) lent
first_read m n o e lent r is = is ∙ ap (λ (x : List ℕ). read.reading x lent) (take_lesser m n o e)
