-- The incremental serializer of incremental.rs, over items: what an add writes up to the next open place, and a session of adds.
use Rattle.std.specs.Prelude.{List, [], ◌∷◌, ◌++◌, Bool, cond, ℕ, zero, suc, ltb}
use Rattle.std.proofs.Math.Option.{Option, none, some}
use Rattle.spec_session.specs.Unfold.{Unfolded, hole, leaf, node}
use Rattle.spec_session.specs.Cache.{Cache, atom_key, find_key, lookup, length_at, fresh, update}
use Rattle.spec_session.specs.Items.{Item, cons_item, atom_item, reference_item}

-- What is left to write, top first: a subtree to parse, or the end of a pair, by its handle.
-- (The Rust has two stacks: write_stack holds the subtrees, read_op_stack Parse and Cons in this order.)
pub data Todo : Type 0 where
  parse : Unfolded → Todo
  close : ℕ → Todo

-- The stack's entries, top first; the entries marked written; the items written.
pub record Written : Type 0 where
  pub stack : List ℕ
  pub marked : List ℕ
  pub items : List Item

pub data Outcome : Type 0 where
  -- All of the subtree is written.
  done : Written → Outcome
  -- At the open place, with this left to write after it.
  stopped : List Todo → Written → Outcome
  refused : ℕ → Written → Outcome

abbrev pub and_then : Outcome → (Written → Outcome) → Outcome
and_then (done w) f = f w
and_then (stopped k w) f = stopped k w
and_then (refused n w) f = refused n w

abbrev pub or_zero : Option ℕ → ℕ
or_zero none = 0
or_zero (some e) = e

abbrev pub atom_entry : Cache → List ℕ → ℕ
atom_entry c bs = or_zero (find_key (atom_key bs) c.entries)

abbrev pub pair_entry : Cache → ℕ → ℕ
pair_entry c h = or_zero (lookup h c.mapped)

-- An entry goes on the stack, and is marked written where its length is at least 4.
abbrev pub push : Cache → ℕ → Written → Written
push c e w = record { stack = e ∷ w.stack; marked = cond (ltb (length_at e c.entries) 4) w.marked (e ∷ w.marked); items = w.items }

-- The two topmost entries go, as in `pop2_and_cons` of tree_cache.rs.
abbrev pub pop2 : List ℕ → List ℕ
pop2 [] = []
pop2 (b ∷ []) = []
pop2 (b ∷ a ∷ s) = s

abbrev pub close_up : Cache → ℕ → Written → Written
close_up c h w = push c (pair_entry c h) (record { stack = pop2 w.stack; marked = w.marked; items = w.items })

abbrev pub choose : Option (List Bool) → (List Bool → Outcome) → Outcome → Outcome
choose (some path) refer full = refer path
choose none refer full = full

abbrev pub put_if : ℕ → Item → Written → Outcome
put_if zero i w = done (record { stack = w.stack; marked = w.marked; items = w.items ++ i ∷ [] })
put_if (suc n) i w = refused (suc n) w

-- The search for a path to an entry, from cache, marked entries, stack, handle and entry; and the question that turns an item down,
-- from what is left to write, the items written and the item: 0, or 12 or 13.
module _ (find : Cache → List ℕ → List ℕ → ℕ → ℕ → Option (List Bool)) (room : List Todo → List Item → Item → ℕ) where
  abbrev pub put : List Todo → Item → Written → Outcome
  put k i w = put_if (room k w.items i) i w

  -- One item that stands for a whole subtree, of entry e.
  abbrev pub put_whole : Cache → List Todo → ℕ → Item → Written → Outcome
  put_whole c k e i w = and_then (put k i w) (λ v. done (push c e v))

  -- A subtree, with k left to write after it.
  unfoldable pub write : Cache → Unfolded → List Todo → Written → Outcome
  write c hole k w = stopped k w
  write c (leaf h bs) k w =
      let full = put_whole c k (atom_entry c bs) (atom_item bs) w in
      choose (find c w.marked w.stack h (atom_entry c bs)) (λ path. put_whole c k (atom_entry c bs) (reference_item path) w) full
  write c (node h l r) k w =
      let full =
      and_then (put k cons_item w) (λ w₁.
      and_then (write c l (parse r ∷ close h ∷ k) w₁) (λ w₂.
      and_then (write c r (close h ∷ k) w₂) (λ w₃. done (close_up c h w₃)))) in
      choose (find c w.marked w.stack h (pair_entry c h)) (λ path. put_whole c k (pair_entry c h) (reference_item path) w) full

  -- All that is left to write.
  unfoldable pub resume : Cache → List Todo → Written → Outcome
  resume c [] w = done w
  resume c (parse u ∷ k) w = and_then (write c u k w) (λ v. resume c k v)
  resume c (close h ∷ k) w = resume c k (close_up c h w)

-- ---- the session

-- `waiting` is what is left to write after the open place, and none once the session is finished.
pub record Session : Type 0 where
  pub cache : Cache
  pub waiting : Option (List Todo)
  pub written : Written

abbrev pub start : Session
start = record { cache = fresh; waiting = some []; written = record { stack = []; marked = []; items = [] } }

pub data Added : Type 0 where
  added : Session → Added
  turned_down : ℕ → Session → Added

-- A refused add keeps the whole items written.
abbrev pub settle : Session → Cache → Outcome → Added
settle s c (done w) = added (record { cache = c; waiting = none; written = w })
settle s c (stopped k w) = added (record { cache = c; waiting = some k; written = w })
settle s c (refused n w) = turned_down n (record { cache = c; waiting = s.waiting; written = w })

module _ (find : Cache → List ℕ → List ℕ → ℕ → ℕ → Option (List Bool)) (room : List Todo → List Item → Item → ℕ) where
  abbrev pub add_at : Unfolded → Session → Option (List Todo) → Added
  add_at t s none = turned_down 9 s
  add_at t s (some k) = settle s (update t s.cache) (resume find room (update t s.cache) (parse t ∷ k) s.written)

  abbrev pub add_tree : Unfolded → Session → Added
  add_tree t s = add_at t s s.waiting

  abbrev pub onward : Added → (Session → Added) → Added
  onward (added s) f = f s
  onward (turned_down n s) f = turned_down n s

  abbrev pub add_all : List Unfolded → Session → Added
  add_all [] s = added s
  add_all (t ∷ ts) s = onward (add_tree t s) (add_all ts)
