-- The bytes of a listed atom lie within the file; the slot of an atom's bytes.
use Rattle.std.specs.Prelude.{ℕ, ◌+◌, ◌%◌, ◌^◌, ◌≤◌, List, [], ◌∷◌, length}
use Rattle.work_layout.specs.Rows.{start_of, end_of}

-- The bytes of listed atom i lie within the file.
abbrev pub Inside : (file w : List ℕ) → ℕ → Type 0
Inside file w i = (start_of w i ≤ end_of w i) × (end_of w i ≤ length file)

-- A sum over bytes that wraps at 32 bits: each turn doubles it and adds the next byte.
unfoldable pub wrapped_sum : ℕ → List ℕ → ℕ
wrapped_sum s [] = s
wrapped_sum s (x ∷ xs) = wrapped_sum (((s + s) % 2 ^ 32 + x) % 2 ^ 32) xs

-- The slot at which the lookup of these bytes starts.
unfoldable pub slot_of : List ℕ → ℕ
slot_of bytes = wrapped_sum 0 bytes % 1021
