-- What every item of a session is: an atom of an added tree, or a reference whose path is at most 1,025 bits longer than the items are many.
-- Assumes nothing.
use Rattle.std.specs.Prelude.{ℕ, zero, suc, ◌+◌, ◌≤◌, ◌≡◌, Bool, length}
use Rattle.std.proofs.Math.Path.{refl}
use Rattle.std.proofs.Common.{sym, subst, arith, length-append}
use mathlib.Core.List.{List, [], ◌∷◌, ◌++◌}
use Rattle.std.proofs.Math.Option.{Option, none, some}
use Rattle.words.specs.Choice.{clash}
use Rattle.words.specs.Lists.{All, all_append, all_map}
use Rattle.spec_session.specs.Unfold.{Unfolded, hole, leaf, node}
use Rattle.spec_session.specs.Cache.{Cache, update}
use Rattle.spec_session.specs.Items.{Item, cons_item, atom_item, reference_item}
use Rattle.spec_session.specs.Writer.{Todo, parse, close, Written, Outcome, done, stopped, refused, and_then, atom_entry, pair_entry, push}
use Rattle.spec_session.specs.Writer.{pop2, close_up, choose, put_if, put, put_whole, write, resume, Session, start, Added, added, turned_down}
use Rattle.spec_session.specs.Writer.{settle, add_at, add_tree, onward, add_all}

-- A path that is found has at most 1,025 bits more than the stack has values.
abbrev pub Near : (Cache → List ℕ → List ℕ → ℕ → ℕ → Option (List Bool)) → Type 0
Near find =
    (c : Cache) (marked stack : List ℕ) (h e : ℕ) (path : List Bool) → find c marked stack h e ≡ some path → length path ≤ 1024 + length stack

-- P is what atoms are, and Q what the items are together.
module _ (P : List ℕ → Type 0) where
  -- P holds of each atom's bytes.
  abbrev pub Leaves : Unfolded → Type 0
  Leaves hole = Unit {0}
  Leaves (leaf h bytes) = P bytes
  Leaves (node h l r) = Leaves l × Leaves r

  abbrev TodoLeaves : Todo → Type 0
  TodoLeaves (parse u) = Leaves u
  TodoLeaves (close h) = Unit {0}

  abbrev pub WaitingLeaves : Option (List Todo) → Type 0
  WaitingLeaves none = Unit {0}
  WaitingLeaves (some k) = All TodoLeaves k

  -- Of an item among n.
  abbrev pub Fine : ℕ → Item → Type 0
  Fine n cons_item = Unit {0}
  Fine n (atom_item bytes) = P bytes
  Fine n (reference_item path) = length path ≤ 1025 + n

  more : (n m : ℕ) → n ≤ m → (i : Item) → Fine n i → Fine m i
  more n m h cons_item f = tt
  more n m h (atom_item bytes) f = f
  more n m h (reference_item path) f = omega arith

  pub record Kept (Q : List Item → Type 0) (w : Written) : Type 0 where
    pub low : length w.stack ≤ 1 + length w.items
    pub fine : All (Fine (length w.items)) w.items
    pub held : Q w.items

  module _ (Q : List Item → Type 0) where
    abbrev KeptBy : Outcome → Type 0
    KeptBy (done w) = Kept Q w
    KeptBy (stopped k w) = Kept Q w × All TodoLeaves k
    KeptBy (refused n w) = Kept Q w

    abbrev pub KeptAdded : Added → Type 0
    KeptAdded (added s) = Kept Q s.written × WaitingLeaves s.waiting
    KeptAdded (turned_down n s) = Kept Q s.written

    kept_then : (o : Outcome) (f : Written → Outcome) → KeptBy o → ((w : Written) → Kept Q w → KeptBy (f w)) → KeptBy (and_then o f)
    kept_then (done w) f h g = g w h
    kept_then (stopped k w) f h g = h
    kept_then (refused n w) f h g = h

    -- One item more.
    kept_more : (w : Written) (i : Item) → Kept Q w → Fine (length w.items) i → Q (w.items ++ i ∷ [])
        → Kept Q (record { stack = w.stack; marked = w.marked; items = w.items ++ i ∷ [] })
    kept_more w i h f q =
        let l : length (w.items ++ i ∷ []) ≡ suc (length w.items) = simp length-append (omega arith) in
        record {
          low = omega (arith, h.low, l);
          fine =
              subst (λ (n : ℕ). All (Fine n) (w.items ++ i ∷ [])) (sym l)
              (all_append (Fine (suc (length w.items))) w.items (i ∷ [])
              (all_map (Fine (length w.items)) (Fine (suc (length w.items))) (more (length w.items) (suc (length w.items)) (omega arith)) w.items h.fine)
              (more (length w.items) (suc (length w.items)) (omega arith) i f, tt));
          held = q;
        }

    popped : (s : List ℕ) (n : ℕ) → length s ≤ 1 + n → suc (length (pop2 s)) ≤ 1 + n
    popped [] n h = omega arith
    popped (b ∷ []) n h = omega arith
    popped (b ∷ a ∷ s) n h = omega arith

    kept_close : (c : Cache) (g : ℕ) (w : Written) → Kept Q w → Kept Q (close_up c g w)
    kept_close c g w h = record { low = popped w.stack (length w.items) h.low; fine = h.fine; held = h.held }

    module _ (find : Cache → List ℕ → List ℕ → ℕ → ℕ → Option (List Bool)) (room : List Todo → List Item → Item → ℕ) (near : Near find)
        (holds : (k : List Todo) (items : List Item) (i : Item) → Q items → room k items i ≡ 0 → Q (items ++ i ∷ [])) where
      kept_put : (k : List Todo) (n : ℕ) (i : Item) (w : Written) → room k w.items i ≡ n → Kept Q w → Fine (length w.items) i → KeptBy (put_if n i w)
      kept_put k zero i w r h f = kept_more w i h f (holds k w.items i h.held r)
      kept_put k (suc n) i w r h f = h

      kept_whole : (c : Cache) (k : List Todo) (e : ℕ) (i : Item) (w : Written) → Kept Q w → Fine (length w.items) i → KeptBy (put_whole find room c k e i w)
      kept_whole c k e i w h f = go (room k w.items i) refl
        where
          go : (n : ℕ) → room k w.items i ≡ n → KeptBy (and_then (put_if n i w) (λ v. done (push c e v)))
          go zero r =
              let l : length (w.items ++ i ∷ []) ≡ suc (length w.items) = simp length-append (omega arith) in
              record { low = omega (arith, h.low, l); fine = (kept_more w i h f (holds k w.items i h.held r)).fine; held = holds k w.items i h.held r }
          go (suc n) r = h

      kept_choose : (c : Cache) (k : List Todo) (g e : ℕ) (w : Written) (full : Outcome) → Kept Q w → KeptBy full → (o : Option (List Bool))
          → find c w.marked w.stack g e ≡ o → KeptBy (choose o (λ path. put_whole find room c k e (reference_item path) w) full)
      kept_choose c k g e w full h f none q = f
      kept_choose c k g e w full h f (some path) q =
          kept_whole c k e (reference_item path) w h (omega (arith, h.low, near c w.marked w.stack g e path q))

      kept_write : (c : Cache) (u : Unfolded) (k : List Todo) (w : Written) → Leaves u → All TodoLeaves k → Kept Q w → KeptBy (write find room c u k w)
      unfolding write
      kept_write c hole k w u t h = (h, t)
      kept_write c (leaf g bytes) k w u t h =
          kept_choose c k g (atom_entry c bytes) w (put_whole find room c k (atom_entry c bytes) (atom_item bytes) w) h
          (kept_whole c k (atom_entry c bytes) (atom_item bytes) w h u)
          (find c w.marked w.stack g (atom_entry c bytes)) refl
      kept_write c (node g l r) k w u t h =
          kept_choose c k g (pair_entry c g) w
          (and_then (put find room k cons_item w) (λ w₁.
          and_then (write find room c l (parse r ∷ close g ∷ k) w₁) (λ w₂.
          and_then (write find room c r (close g ∷ k) w₂) (λ w₃. done (close_up c g w₃)))))
          h
          (kept_then (put find room k cons_item w) _ (kept_put k (room k w.items cons_item) cons_item w refl h tt) (λ w₁ h₁.
          kept_then (write find room c l (parse r ∷ close g ∷ k) w₁) _ (kept_write c l (parse r ∷ close g ∷ k) w₁ u.0 (u.1, (tt, t)) h₁) (λ w₂ h₂.
          kept_then (write find room c r (close g ∷ k) w₂) _ (kept_write c r (close g ∷ k) w₂ u.1 (tt, t) h₂) (λ w₃ h₃. kept_close c g w₃ h₃))))
          (find c w.marked w.stack g (pair_entry c g)) refl

      kept_resume : (c : Cache) (k : List Todo) (w : Written) → All TodoLeaves k → Kept Q w → KeptBy (resume find room c k w)
      unfolding resume
      kept_resume c [] w t h = h
      kept_resume c (parse u ∷ k) w t h =
          kept_then (write find room c u k w) (λ v. resume find room c k v) (kept_write c u k w t.0 t.1 h) (λ v g. kept_resume c k v t.1 g)
      kept_resume c (close g ∷ k) w t h = kept_resume c k (close_up c g w) t.1 (kept_close c g w h)

      kept_settle : (s : Session) (c : Cache) (o : Outcome) → KeptBy o → KeptAdded (settle s c o)
      kept_settle s c (done w) h = (h, tt)
      kept_settle s c (stopped k w) h = h
      kept_settle s c (refused n w) h = h

      pub kept_add : (t : Unfolded) (s : Session) (o : Option (List Todo)) → Leaves t → Kept Q s.written → WaitingLeaves o → KeptAdded (add_at find room t s o)
      kept_add t s none l h k = h
      kept_add t s (some k) l h f =
          kept_settle s (update t s.cache) (resume find room (update t s.cache) (parse t ∷ k) s.written)
          (kept_resume (update t s.cache) (parse t ∷ k) s.written (l, f) h)

      kept_onward : (a : Added) (f : Session → Added) → KeptAdded a → ((s : Session) → Kept Q s.written → WaitingLeaves s.waiting → KeptAdded (f s))
          → KeptAdded (onward find room a f)
      kept_onward (added s) f h g = g s h.0 h.1
      kept_onward (turned_down n s) f h g = h

      kept_all : (ts : List Unfolded) (s : Session) → All Leaves ts → Kept Q s.written → WaitingLeaves s.waiting → KeptAdded (add_all find room ts s)
      kept_all [] s l h f = (h, f)
      kept_all (t ∷ ts) s l h f =
          kept_onward (add_tree find room t s) (add_all find room ts) (kept_add t s s.waiting l.0 h f) (λ r g k. kept_all ts r l.1 g k)

      of_added : (a : Added) (q : Session) → a ≡ added q → KeptAdded a → Kept Q q.written
      of_added (added s) q e h = let alike : s ≡ q = cc in subst (λ (x : Session). Kept Q x.written) alike h.0
      of_added (turned_down n s) q e h = clash cc

      -- Of a session of adds from a fresh one.
      pub session_kept : (ts : List Unfolded) (q : Session) → All Leaves ts → Q [] → add_all find room ts start ≡ added q → Kept Q q.written
      session_kept ts q l z e = of_added (add_all find room ts start) q e (kept_all ts start l (record { low = omega arith; fine = tt; held = z }) tt)
