-- `path::traverse_path::first_non_zero` meets its contract.
-- Assumes nothing.
use Prim.Native.Nat.{ℕ}
use mathlib.Core.Logic.{◌≢◌}
use mathlib.Core.Path.{◌≡◌, ◌∙◌}
use borrow.Author.Rules.{rules}
use borrow.Author.Tests.{tests}
use Rattle.std.proofs.lemmas.Iterator.{IsFirst-from_position, YieldsList-from_slice}
use Rattle.path.proofs.TraverseLaws.{zeros_found}
use Rattle.path.proofs.traverse_path.first_non_zero.Goals as goal

pub returns : goal.returns
returns c =
    let buf = c.args.buf.now in
    c.unwrap_or.ensures
    ∙ zeros_found buf c.position.result
    (IsFirst-from_position _ _ _ (λ (x : ℕ). x ≢ 0) (λ (x : ℕ). x ≡ 0) c.position.ensures.ran (YieldsList-from_slice buf cc) (λ x q k. search (rules, tests)) (λ x q k. search (rules, tests)))
