-- What each function on the stack leaves, and which words are as they were.
use Rattle.std.specs.Prelude.{ℕ, ◌+◌, ◌-◌, ◌≤◌, ◌<◌, ◌≡◌, cond, ◌||◌, List, ◌∷◌, ltb, eqb}
use Rattle.words.specs.Words.{at}
use Rattle.work_layout.specs.Layout.{STACK, BELOW, TOPS, WRITTEN, MOVED, ENTRIES, DEPTH}
use Rattle.work_layout.specs.Rows.{prev, stack_of}
use Rattle.cache_stack.specs.marks.Effects.{marked_at}

-- ---- the stack

-- A stack of d entries: TOPS has one more than the highest place of each entry, or 0; BELOW has for each place what TOPS was before it was pushed.
pub record Stacked (w : List ℕ) (d : ℕ) : Type 0 where
  pub deep : d ≤ DEPTH
  pub entries : (i : ℕ) → i < d → at w (STACK + i) < ENTRIES
  pub tops : (x : ℕ) → x < ENTRIES → at w (TOPS + x) ≡ prev (λ k. at w (STACK + k)) x d
  pub below : (i : ℕ) → i < d → at w (BELOW + i) ≡ prev (λ k. at w (STACK + k)) (at w (STACK + i)) i

-- Nothing but the words of the stack is touched: STACK, BELOW and TOPS lie one after the other.
pub record StackOnly (w w' : List ℕ) : Type 0 where
  pub low : (k : ℕ) → k < STACK → at w' k ≡ at w k
  pub high : (k : ℕ) → WRITTEN ≤ k → at w' k ≡ at w k

-- Entry e goes on top of d entries.
pub record Pushed (w w' : List ℕ) (d e : ℕ) : Type 0 where
  pub stacked : Stacked w' (d + 1)
  pub stack : stack_of w' (d + 1) ≡ e ∷ stack_of w d
  pub top : at w' (STACK + d) ≡ e
  pub places : (i : ℕ) → i < d → at w' (STACK + i) ≡ at w (STACK + i)
  pub only : StackOnly w w'

-- The top of d entries goes.
pub record Popped (w w' : List ℕ) (d : ℕ) : Type 0 where
  pub stacked : Stacked w' (d - 1)
  pub stack : stack_of w d ≡ at w (STACK + (d - 1)) ∷ stack_of w' (d - 1)
  pub places : (i : ℕ) → i < d - 1 → at w' (STACK + i) ≡ at w (STACK + i)
  pub only : StackOnly w w'

-- The two topmost of d entries go.
pub record PoppedTwo (w w' : List ℕ) (d : ℕ) : Type 0 where
  pub stacked : Stacked w' (d - 2)
  pub stack : stack_of w d ≡ at w (STACK + (d - 1)) ∷ at w (STACK + (d - 2)) ∷ stack_of w' (d - 2)
  pub only : StackOnly w w'

-- ---- the stack and the marks

-- Entry e of length len goes on top of d entries, and is marked where its length is not below 4.
pub record PushedMarked (w w' : List ℕ) (d e len : ℕ) : Type 0 where
  pub stacked : Stacked w' (d + 1)
  pub stack : stack_of w' (d + 1) ≡ e ∷ stack_of w d
  pub marks : (x : ℕ) → x < ENTRIES → marked_at w' x ≡ cond (ltb len 4) (marked_at w x) (eqb x e || marked_at w x)
  pub low : (k : ℕ) → k < STACK → at w' k ≡ at w k
  pub high : (k : ℕ) → MOVED ≤ k → at w' k ≡ at w k
