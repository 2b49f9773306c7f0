-- The premises of demand 3. Of the added trees: each holds the sentinel at one place at most, a shared pair counting wherever it is seen; and no pair above the
-- sentinel in one of them occurs in a later one. Of the steps: no `02`, and the last one taken is no `04`.
use Rattle.std.specs.Prelude.{ℕ, ◌+◌, ◌≤◌, ◌≡◌, ◌⊎◌, ◌≢◌, List, [], ◌∷◌}
use Rattle.std.proofs.Math.Option.{Option, none, some}
use Rattle.spec_reading.specs.Tree.{Tree, place, atom, cons}
use Rattle.spec_session.specs.File.{Step, add, restore, forget, quote, take_quote}
use Rattle.spec_session.specs.Unfold.{Unfolded, hole, leaf, node, tree_of}

-- The open places of a tree.
abbrev pub opens : Tree → ℕ
opens place = 1
opens (atom bytes) = 0
opens (cons l r) = opens l + opens r

-- 01: a pair, known by its handle, occurs in a tree when unfolding enters it.
abbrev pub In : ℕ → Unfolded → Type 0
In h hole = ⊥
In h (leaf g bytes) = ⊥
In h (node g l r) = (h ≡ g) ⊎ (In h l ⊎ In h r)

-- 01: it is above the sentinel when an open place lies below it.
abbrev pub Above : ℕ → Unfolded → Type 0
Above h hole = ⊥
Above h (leaf g bytes) = ⊥
Above h (node g l r) = ((h ≡ g) × (opens (cons (tree_of l) (tree_of r)) ≢ 0)) ⊎ (Above h l ⊎ Above h r)

-- None of these handles occurs in any of the trees.
abbrev pub Shut : (ℕ → Type 0) → List Unfolded → Type 0
Shut D [] = Unit {0}
Shut D (t ∷ ts) = ((h : ℕ) → D h → In h t → ⊥) × Shut D ts

-- Each tree has at most one open place, and no pair above it occurs in a later tree.
abbrev pub Apart : List Unfolded → Type 0
Apart [] = Unit {0}
Apart (t ∷ ts) = (opens (tree_of t) ≤ 1) × Shut (λ h. Above h t) ts × Apart ts

-- ---- steps

-- Any step but a `02`.
abbrev pub NoRestore : Step → Type 0
NoRestore (add h) = Unit {0}
NoRestore (restore n) = ⊥
NoRestore (forget n) = Unit {0}
NoRestore (quote h) = Unit {0}
NoRestore take_quote = Unit {0}

-- Any step but a `04`, whose word is not the session's.
abbrev pub NoQuote : Step → Type 0
NoQuote (add h) = Unit {0}
NoQuote (restore n) = Unit {0}
NoQuote (forget n) = Unit {0}
NoQuote (quote h) = ⊥
NoQuote take_quote = Unit {0}

-- Any step but a `02` or a `03`.
abbrev pub NoUndo : Step → Type 0
NoUndo (add h) = Unit {0}
NoUndo (restore n) = ⊥
NoUndo (forget n) = ⊥
NoUndo (quote h) = Unit {0}
NoUndo take_quote = Unit {0}

-- The number of a run whose session is finished, from the step that comes next.
abbrev pub number_after_finish : Option Step → ℕ
number_after_finish none = 0
number_after_finish (some (add h)) = 9
number_after_finish (some (restore n)) = 11
number_after_finish (some (forget n)) = 11
number_after_finish (some (quote h)) = 9
number_after_finish (some take_quote) = 17

-- Of a step, if there is one.
abbrev pub IfAny : (Step → Type 0) → Option Step → Type 0
IfAny P none = Unit {0}
IfAny P (some x) = P x
