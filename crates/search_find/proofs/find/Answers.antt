-- `search_find::find` meets its contract: a pair, nil, and then another atom.
-- Assumes nothing.
use Prim.Native.Nat.{ℕ}
use mathlib.Core.Path.{◌≡◌, sym, subst}
use mathlib.Core.Bool.{true, false}
use lib.Dec.{eqb}
use borrow.Author.Tests.{ne_eqb}
use Rattle.words.specs.Choice.{clash}
use Rattle.allocator.specs.Handle.{nil, is_pair, node_of, handle_of}
use Rattle.search_find.proofs.Finding.{finds_nil}
use Rattle.search_find.proofs.find.Goals as goal

-- A pair is not nil.
no-nil : (h : ℕ) → is_pair (node_of h) ≡ true → eqb h (handle_of nil) ≡ false
unfolding handle_of node_of
no-nil h p = ne_eqb h (handle_of nil) (λ q. let r : is_pair (node_of (handle_of nil)) ≡ true = subst (λ (x : ℕ). is_pair (node_of x) ≡ true) q p in clash cc)

pub returns-then-is_pair : goal.returns-then-is_pair
returns-then-is_pair c = c.find_marked.ensures _ (no-nil _ (sym c.if-is_pair.ensures))

pub returns-then-same : goal.returns-then-same
unfolding handle_of
returns-then-same c = finds_nil (sym c.if-same.ensures)

pub returns : goal.returns
unfolding handle_of
returns c = c.find_marked-2.ensures _ (sym c.if-same.ensures)
