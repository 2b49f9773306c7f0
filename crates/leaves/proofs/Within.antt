-- What a write has made lies within the output.
use Prim.Native.Nat.{ℕ, ◌+◌, ◌≤◌}
use mathlib.Core.Path.{◌≡◌, refl, sym, ap, ◌∙◌}
use mathlib.Core.Bool.{Bool, true, false}
use mathlib.Core.List.{List}
use mathlib.Core.Option.{Option, none, some}
use native.Mathlib.Omega.{arith}
use borrow.Author.Tests.{ltb-true, ltb-false}
use lib.Dec.{ltb}
use lib.ListN.{length}
use Rattle.words.specs.Choice.{clash}
use Rattle.atom.specs.Write.{Written, next, full, too_long, put}
use Rattle.atom.specs.WriteLaws.{put_none, put_full, put_room}
use Rattle.atom_encode.specs.Answers.{written}
use Rattle.atom_encode.specs.declared.write_atom.Written as code
use Rattle.atom_encode.specs.declared.write_atom.WriteError.{WriteError}
use Rattle.std.specs.Prelude.{Result, Ok}

-- A write that answers where the next byte goes has kept within the output.
pub put_within : (out : List ℕ) (p : ℕ) (bytes : Option (List ℕ)) (n : ℕ) → (put out p bytes).answer ≡ next n → n ≤ length out
put_within out p none n e =
    let a : too_long ≡ next n = sym (ap (λ (w : Written). w.answer) (put_none out p)) ∙ e in
    clash cc
put_within out p (some bytes) n e = go (ltb (length out) (p + length bytes)) refl
  where
    go : (b : Bool) → ltb (length out) (p + length bytes) ≡ b → n ≤ length out
    go true q =
        let a : full ≡ next n = sym (ap (λ (w : Written). w.answer) (put_full out p bytes (ltb-true _ _ q))) ∙ e in
        clash cc
    go false q =
        let a : next (p + length bytes) ≡ next n = sym (ap (λ (w : Written). w.answer) (put_room out p bytes (ltb-false _ _ q))) ∙ e in
        let z : p + length bytes ≡ n = cc in
        let w : p + length bytes ≤ length out = ltb-false _ _ q in
        omega arith

-- The same of the code's answer.
pub written_within : (out out' : List ℕ) (p : ℕ) (bytes : Option (List ℕ)) (r : Result code.Written WriteError) (w : code.Written) → r ≡ Ok w
    → written r out' ≡ put out p bytes → length out' ≡ length out → w.next ≤ length out'
written_within out out' p bytes r w e q l =
    omega (arith, put_within out p bytes w.next (ap (λ (x : Written). x.answer) (sym q ∙ ap (λ (x : Result code.Written WriteError). written x out') e)))
