-- Laws of the parser's code: what it makes of a prefix is the definition's.
-- Assumes nothing.
use Prim.Native.Nat.{ℕ, ◌+◌, ◌-◌, ◌≤◌, ◌<◌}
use mathlib.Core.Path.{◌≡◌, sym, ap, ◌∙◌}
use mathlib.Core.Bool.{cond}
use mathlib.Core.List.{List, []}
use mathlib.Core.Logic.{inl, inr}
use denote.Ref.{Bor}
use Rattle.std.specs.Prelude.{Option, None, Some, unwrap_or}
use Rattle.std.specs.Slice.{IsGetRangeResult}
use native.Mathlib.Omega.{arith}
use native.Mathlib.Nat.{add_assoc}
use lib.Dec.{ltb}
use lib.ListN.{length, get_or, drop, length-drop}
use borrow.Author.Tests.{lt-ltb, le-ltb}
use Rattle.words.specs.Choice.{cond_true, cond_false, by_lt}
use Rattle.atom.specs.Parse.{ones, Size, sized, bad_size, decode_size, whole, moved_by, parse_at, blob, refused, blob_of}
use Rattle.atom.specs.ParseLaws.{at_prefixed, accepted, blob_backward, blob_beyond, blob_there}

-- The part of the input from `start` up to `end`, by the slice's `get`.
pub part_got : (input : List ℕ) (start end : ℕ) (r : Option (Bor (List ℕ))) (none : Bor (List ℕ)) → IsGetRangeResult input start end r → none.now ≡ []
    → (unwrap_or r none).now ≡ blob_of input (blob start end)
part_got input start end None none (inl h, k) e = e ∙ sym (blob_backward input start end h)
part_got input start end None none (inr h, k) e = e ∙ by_lt end start (λ b. sym (blob_backward input start end b)) (λ b. sym (blob_beyond input start end b h))
part_got input start end (Some x) none (h, k) e = h.2 ∙ sym (blob_there input start end h.0 h.1)

-- the ways out of `parse_atom` after a prefix
module _ (input : List ℕ) (p : ℕ) (h : p < length input) (big : 0x80 ≤ get_or input p 0) where
  pub parsed_refused : (n : ℕ) → decode_size (drop p input) ≡ bad_size n → refused n ≡ parse_at input p
  parsed_refused n e = sym (at_prefixed input p h big ∙ ap (λ (z : Size). moved_by p (whole z (length input - p))) e)

  module _ (w n : ℕ) (e : decode_size (drop p input) ≡ sized w n) where
    pub parsed_there : p + w ≤ length input
    parsed_there =
        let a = accepted (ones 8 (get_or (drop p input) 0 0)) (drop p input) w n e in
        omega (arith, a.there, a.offset_is, length-drop p input)

    pub parsed_sized : cond (ltb (length input) (p + w + n)) (refused 14) (blob (p + w) (p + w + n)) ≡ parse_at input p
    parsed_sized = sym (at_prefixed input p h big ∙ ap (λ (z : Size). moved_by p (whole z (length input - p))) e ∙ by_lt (length input) (p + w + n) short long)
      where
        Same : Type 0
        Same =
            moved_by p (cond (ltb (length input - p) (w + n)) (refused 14) (blob w (w + n)))
            ≡ cond (ltb (length input) (p + w + n)) (refused 14) (blob (p + w) (p + w + n))

        short : length input < p + w + n → Same
        short q = ap (moved_by p) (cond_true _ _ _ (lt-ltb (length input - p) (w + n) (omega arith))) ∙ sym (cond_true _ _ _ (lt-ltb (length input) (p + w + n) q))

        long : p + w + n ≤ length input → Same
        long q =
            ap (moved_by p) (cond_false _ _ _ (le-ltb (length input - p) (w + n) (omega arith)))
            ∙ ap (blob (p + w)) (sym (add_assoc p w n)) ∙ sym (cond_false _ _ _ (le-ltb (length input) (p + w + n) q))
