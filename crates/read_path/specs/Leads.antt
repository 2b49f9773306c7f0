-- What a path leads to from the stack in work: where it starts, and what is left.
use Rattle.std.specs.Prelude.{ℕ, ◌+◌, ◌*◌, ◌≤◌, ◌<◌, ◌≡◌, Bool, List, take, drop, Result, Ok, Err}
use Rattle.std.proofs.Math.Option.{Option, none, some}
use Rattle.words.specs.Words.{at}
use Rattle.allocator.specs.Handle.{node_of, handle_of, nil}
use Rattle.spec_reading.specs.Store.{Store, Value, Led, lead}
use Rattle.read_store.specs.Layout.{VALUES, values_of}
use Rattle.read_path.specs.Answers.{Within}
use Rattle.read_path.specs.declared.path_walk.PathIntoAtom.{PathIntoAtom}
use Rattle.read_path.specs.Lists.{HaveLists, ListRoom}
use Rattle.read_path.specs.declared.stack_list.Built.{Built}

-- What a path leads to; a path with no set bit is nil.
abbrev pub led : Option (List Bool) → List Value → Store → Led
led none vs s = record { node = some (handle_of nil); stored = record { values = vs; store = s } }
led (some bits) vs s = lead bits vs s

-- The stack and the pairs that a walk starts from.
pub record Walkable (w p : List ℕ) (values listed used ghosts : ℕ) : Type 0 where
  pub room : ListRoom w p values listed used ghosts
  pub listed_few : listed ≤ values
  pub nodes : (k : ℕ) → k < values → Within used (node_of (at w (VALUES + 2 * k)))
  pub there : (k : ℕ) → k < 2 * used → Within used (node_of (at p k))

-- The node and the counts are those of the definition, and so are the stack and the pairs; the rest is as it was.
pub record Leads (w p : List ℕ) (values used : ℕ) (l : Led) (w' p' : List ℕ) (b : Built) : Type 0 where
  pub node_is : l.node ≡ some b.node.0
  pub values_are : values_of w' values ≡ l.stored.values
  pub pairs_are : take (2 * b.counts.pairs) p' ≡ l.stored.store.pairs
  pub ghosts_are : b.counts.ghosts ≡ l.stored.store.ghosts
  pub pairs_rest : drop (2 * b.counts.pairs) p' ≡ drop (2 * b.counts.pairs) p
  pub low : (k : ℕ) → k < VALUES → at w' k ≡ at w k
  pub lists : HaveLists w' b.counts.listed values

abbrev pub LeadsTo : List ℕ → List ℕ → ℕ → ℕ → Led → List ℕ → List ℕ → Result Built PathIntoAtom → Type 0
LeadsTo w p values used l w' p' (Ok b) = Leads w p values used l w' p' b
LeadsTo w p values used l w' p' (Err into) = l.node ≡ none

-- Each pair that was made was a ghost pair.
abbrev pub SameTotal : (used ghosts : ℕ) → Result Built PathIntoAtom → Type 0
SameTotal used ghosts (Ok b) = (used ≤ b.counts.pairs) × (b.counts.pairs + b.counts.ghosts ≡ used + ghosts)
SameTotal used ghosts (Err into) = Unit {0}
