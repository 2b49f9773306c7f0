-- An item put into the output: one byte, or an atom.
-- Assumes nothing.
use Prim.Native.Nat.{ℕ, suc, ◌+◌, ◌^◌, ◌≤◌, ◌<◌}
use mathlib.Core.Path.{◌≡◌, refl, sym, ap, ◌∙◌}
use mathlib.Core.List.{List, [], ◌∷◌, ◌++◌}
use mathlib.Core.Option.{Option, some}
use mathlib.Core.Bool.{Bool, true, false, not, true≢false, false≢true}
use native.Mathlib.Omega.{arith}
use native.Mathlib.Numerals.{add-one}
use lib.Dec.{leb}
use borrow.Author.Tests.{leb-true, leb-false, not-true, not-false}
use lib.ListN.{length, take, drop, set}
use lib.Seq.{paste, set_split, append_snoc}
use Rattle.spec_session.proofs.Formed.{encoded}
use Rattle.words.specs.Choice.{by_lt, clash}
use Rattle.atom.specs.Prefix.{encode}
use Rattle.atom.specs.Write.{next, full, too_long, Written, put}
use Rattle.atom.specs.WriteLaws.{put_full, put_room}
use Rattle.spec_session.specs.Items.{bytes_or_none}
use Rattle.std.specs.Prelude.{Result, Ok, Err, MatchResult, is_ok}
use Rattle.atom_encode.specs.Answers as answers
use Rattle.atom_encode.specs.declared.write_atom.WriteError.{WriteError}
use Rattle.atom_encode.specs.declared.write_atom.WriteError.TheVariants.{Full, TooLong}

-- One byte stored is one byte pasted.
pub set_paste : (out : List ℕ) (p b : ℕ) → p < length out → set out p b ≡ paste out p (b ∷ []) 1
set_paste out p b h =
    set_split out p b h ∙ sym (append_snoc (take p out) b (drop (suc p) out))
    ∙ ap (λ (k : ℕ). take p out ++ (b ∷ []) ++ drop k out) (sym (add-one p))

-- What the test of the room says.
pub no_room : (room count : ℕ) (b : Bool) → b ≡ leb count room → not b ≡ true → room < count
no_room room count b e n = leb-false count room (sym e ∙ not-true b n)

pub has_room : (room count : ℕ) (b : Bool) → b ≡ leb count room → not b ≡ false → count ≤ room
has_room room count b e n = leb-true count room (sym e ∙ not-false b n)

-- A pair's mark.
pub put_byte : (out : List ℕ) (p b : ℕ) → p < length out → record { answer = next (p + 1); output = set out p b } ≡ put out p (some (b ∷ []))
put_byte out p b h =
    ap (λ (o : List ℕ). record { answer = next (p + 1); output = o }) (set_paste out p b h) ∙ sym (put_room out p (b ∷ []) (omega arith))

-- ---- an atom

-- An atom whose size has at most 34 bits has bytes.
pub encode_there : (atom : List ℕ) → length atom < 2 ^ 34 → encode atom ≡ some (bytes_or_none (encode atom))
encode_there atom h = let e = encoded atom h in e.1 ∙ ap {B = Option (List ℕ)} (λ (o : Option (List ℕ)). some (bytes_or_none o)) (sym e.1)

-- An answer is one of three.
not_full : {X : Type 0} → too_long ≡ full → X
not_full e = clash cc

not_next : {X : Type 0} (p : ℕ) → too_long ≡ next p → X
not_next p e = clash cc

module _ (out : List ℕ) (p : ℕ) (atom : List ℕ) (h : length atom < 2 ^ 34) where
  -- What a write of the atom came to is what a write of the item comes to.
  pub put_atom : (x : Written) → x ≡ put out p (encode atom) → x ≡ put out p (some (bytes_or_none (encode atom)))
  put_atom x e = e ∙ ap (put out p) (encode_there atom h)

  -- A prefix holds its size, so no write finds it too long.
  pub put_atom_there : {X : Type 0} (out' : List ℕ) → record { answer = too_long; output = out' } ≡ put out p (encode atom) → X
  put_atom_there out' e =
      by_lt (length out) (p + length bytes)
      (λ l. not_full (ap (λ (x : Written). x.answer) (put_atom _ e ∙ put_full out p bytes l)))
      (λ l. not_next (p + length bytes) (ap (λ (x : Written). x.answer) (put_atom _ e ∙ put_room out p bytes l)))
    where
      bytes : List ℕ
      bytes = bytes_or_none (encode atom)

  -- Where the write was refused, the item does not fit.
  pub put_refused : (e : WriteError) (out' : List ℕ) → answers.written (Err e) out' ≡ put out p (encode atom)
      → record { answer = full; output = out' } ≡ put out p (some (bytes_or_none (encode atom)))
  put_refused Full out' q = put_atom _ q
  put_refused TooLong out' q = put_atom_there out' q

-- ---- a result, from what `map_err` made of it

module _ {T E D : Type 0} (r : Result T E) (m : Result T D) (same : is_ok m ≡ is_ok r) where
  pub mapped_ok : (x : T) (Q : E → Type 0) → MatchResult r (λ y. m ≡ Ok y) Q → m ≡ Ok x → r ≡ Ok x
  mapped_ok x Q h q = go r same h
    where
      go : (r : Result T E) → is_ok m ≡ is_ok r → MatchResult r (λ y. m ≡ Ok y) Q → r ≡ Ok x
      go (Ok y) s h = cc
      go (Err e) s h = absurd (true≢false (sym (ap is_ok q) ∙ s))

  pub mapped_err : (d : D) → m ≡ Err d → (e : E) × (r ≡ Err e)
  mapped_err d q = go r same
    where
      go : (r : Result T E) → is_ok m ≡ is_ok r → (e : E) × (r ≡ Err e)
      go (Ok y) s = absurd (false≢true (sym (ap is_ok q) ∙ s))
      go (Err e) s = (e, refl)
