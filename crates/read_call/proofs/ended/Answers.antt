-- `read_call::ended` tells what was read, or refuses, and clears as the definition says.
-- Assumes nothing.
use Prim.Native.Nat.{ℕ}
use mathlib.Core.Path.{◌≡◌, sym, ap, subst, ◌∙◌}
use mathlib.Core.List.{List}
use Rattle.std.specs.Prelude.{Result}
use Rattle.spec_reading.specs.Call as call
use Rattle.read_answer.specs.Answer.{slices}
use Rattle.read_item.specs.declared.settle.Reader.{Reader}
use Rattle.read_item.specs.declared.read_error.ReadError.{ReadError}
use Rattle.read_call.specs.Outcome.{Counted, ended}
use Rattle.read_call.proofs.ended.Goals as goal

-- What a known outcome leaves is what the outcome leaves.
told : (w p a b : List ℕ) (o o' : Result Reader ReadError) (x : call.Result) → o ≡ o' → x ≡ ended o' (slices w p a b) → x ≡ ended o (slices w p a b)
told w p a b o o' x e h = h ∙ ap (λ (y : Result Reader ReadError). ended y (slices w p a b)) (sym e)

pub answer-a-requires : goal.answer-a-requires
answer-a-requires c = subst (λ (o : Result Reader ReadError). Counted c.args.work.now o) c.in-Ok.is c.requires

pub returns-in-Ok : goal.returns-in-Ok
returns-in-Ok c =
    let s = c.args in
    let z = c.clear.ensures 0 (λ y e. e) in
    told s.work.now s.pairs.now s.atoms.now s.bytes.now _ _ _ c.in-Ok.is
    (λ i. record { answer = c.answer-a.ensures i; slices = slices (z i) s.pairs.now s.atoms.now s.bytes.now })

pub returns-in-Err : goal.returns-in-Err
returns-in-Err c =
    let s = c.args in
    let z = c.clear_all.ensures in
    let n = c.refusal.ensures ∙ ap call.refusal c.from.ensures in
    told s.work.now s.pairs.now s.atoms.now s.bytes.now _ _ _ c.in-Err.is
    (λ i. record { answer = n i; slices = slices (z.0 i) (z.1 i) (z.2 i) (z.3 i) })
