-- The width of the prefix of a path's atom, from the number of its bits. The last bit of the list is set, so that the first byte holds it.
-- Assumes nothing.
use Prim.Native.Nat.{ℕ, ◌+◌, ◌/◌, ◌^◌, ◌≤◌, ◌<◌}
use mathlib.Core.Path.{◌≡◌, ap, ◌∙◌}
use mathlib.Core.Bool.{Bool, true, false}
use mathlib.Core.List.{List, [], ◌∷◌, ◌++◌}
use mathlib.Core.Option.{some}
use native.Mathlib.Omega.{arith}
use lib.ListN.{length, length-append}
use borrow.Author.Tests.{lt-ltb, le-ltb}
use Rattle.words.specs.Choice.{by_lt}
use Rattle.atom.specs.Prefix.{single, width, prefix_width}
use Rattle.atom.specs.PrefixLaws.{single_other}
use Rattle.atom.specs.WriteLaws.{width_of_single, width_of_sized}
use Rattle.path.specs.Bytes.{value, path_bytes}
use Rattle.path.proofs.BytesLaws.{length_path_bytes, value_append, value_below, one_octet}

one_byte : (bs : List Bool) → length bs < 8 → path_bytes (bs ++ true ∷ []) ≡ value (bs ++ true ∷ []) ∷ []
one_byte bs h = one_octet (bs ++ true ∷ []) (omega (arith, length-append bs (true ∷ []))) (omega (arith, length-append bs (true ∷ [])))

-- At most seven bits stand for themselves.
pub short_width : (bs : List Bool) → length (bs ++ true ∷ []) < 8 → prefix_width (path_bytes (bs ++ true ∷ [])) ≡ some 0
short_width bs h =
    width_of_single (path_bytes (bs ++ true ∷ []))
    (ap single (one_byte bs (omega (arith, length-append bs (true ∷ []))))
    ∙ lt-ltb (value (bs ++ true ∷ [])) 0x80 (value_below 7 (bs ++ true ∷ []) (omega arith)))

-- Eight bits and more do not.
long_single : (bs : List Bool) → 8 ≤ length (bs ++ true ∷ []) → single (path_bytes (bs ++ true ∷ [])) ≡ false
long_single bs h = by_lt (length bs) 8 full (λ l. single_other (path_bytes (bs ++ true ∷ [])) (λ e. omega (arith, e, l, length_path_bytes (bs ++ true ∷ []), length-append bs (true ∷ []))))
  where
    full : length bs < 8 → single (path_bytes (bs ++ true ∷ [])) ≡ false
    full l =
        let seven : length bs ≡ 7 = omega (arith, length-append bs (true ∷ [])) in
        let large : 2 ^ length bs ≤ value (bs ++ true ∷ []) = omega (arith, value_append bs (true ∷ [])) in
        let there : 2 ^ 7 ≤ value (bs ++ true ∷ []) = rw seven at large in
        ap single (one_byte bs l) ∙ le-ltb (value (bs ++ true ∷ [])) 0x80 (omega arith)

pub long_width : (bs : List Bool) (w : ℕ) → 8 ≤ length (bs ++ true ∷ []) → width ((length (bs ++ true ∷ []) + 7) / 8) ≡ some w → prefix_width (path_bytes (bs ++ true ∷ [])) ≡ some w
long_width bs w h e = width_of_sized (path_bytes (bs ++ true ∷ [])) (long_single bs h) w (ap width (length_path_bytes (bs ++ true ∷ [])) ∙ e)
