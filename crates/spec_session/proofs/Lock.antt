-- Writer and reader in lock step: the reader's stack holds the trees of the writer's, and what is left to write builds one tree throughout.
use Rattle.std.specs.Prelude.{◌≡◌, Bool}
use Rattle.std.proofs.Math.Path.{refl, ap}
use Rattle.std.proofs.Common.{sym, ◌∙◌, arith}
use mathlib.Core.List.{List, [], ◌∷◌, ◌++◌, map}
use Rattle.std.proofs.Math.Option.{Option, none, some, bind}
use Prim.Native.Nat.{ℕ, zero, suc, ◌≤◌}
use Rattle.words.specs.Choice.{clash}
use Rattle.spec_reading.specs.Tree.{Tree, place, atom, cons, pick, follow, as_list}
use Rattle.spec_session.specs.Unfold.{Unfolded, hole, leaf, node, tree_of}
use Rattle.spec_session.specs.Cache.{Parent, Entry, Cache, parents_at, length_at}
use Rattle.spec_session.specs.Items.{cons_item, atom_item, reference_item, Item, Op, want, make, Reading, collapse, step_read, feed, item_size, ItemNoLonger, NoLongerFrom, NoLonger}
use Rattle.spec_session.specs.Writer.{Todo, parse, close, Written, Outcome, done, stopped, refused, and_then, atom_entry, pair_entry, push}
use Rattle.spec_session.specs.Writer.{pop2, close_up, choose, put_if, put, put_whole, write, resume}
use Rattle.spec_session.specs.Trees.{nth}
use Rattle.spec_session.proofs.Cached.{LinkOK, LinksOK, Good, good_len}
use Rattle.spec_session.proofs.Enter.{PairAt, Agree}

-- ## What is asked of the search

-- Each parent link is true of the trees tr.
abbrev pub Linked : List Entry → (ℕ → Tree) → Type 0
Linked es tr = (x i : ℕ) (p : Parent) → nth (parents_at x es) i ≡ some p → (l : Tree) × (r : Tree) × (tr p.0 ≡ cons l r) × (pick p.1 l r ≡ tr x)

-- A path that is found leads to the tree of the entry that it was searched for.
abbrev pub Sound : (Cache → List ℕ → List ℕ → ℕ → ℕ → Option (List Bool)) → Type 0
Sound find =
    (c : Cache) (marked stack : List ℕ) (h e : ℕ) (path : List Bool) (tr : ℕ → Tree) → Linked c.entries tr
    → find c marked stack h e ≡ some path → follow path (as_list (map tr stack)) ≡ some (tr e)

-- A path that is found takes, as an item, at most the entry's length.
abbrev pub Short : (Cache → List ℕ → List ℕ → ℕ → ℕ → Option (List Bool)) → Type 0
Short find =
    (c : Cache) (marked stack : List ℕ) (h e : ℕ) (path : List Bool) (tr : ℕ → Tree) → Linked c.entries tr
    → find c marked stack h e ≡ some path → item_size (reference_item path) ≤ length_at e c.entries

abbrev pub or_gap : Option Tree → Tree
or_gap none = place
or_gap (some v) = v

abbrev pub value_of : List Tree → ℕ → Tree
value_of T e = or_gap (nth T e)

links_nth : (T : List Tree) (v : Tree) (ps : List Parent) (i : ℕ) (p : Parent) → LinksOK T v ps → nth ps i ≡ some p → LinkOK T v p
links_nth T v [] i p h q = clash cc
links_nth T v (x ∷ ps) zero p h q = let alike : x ≡ p = cc in rw alike at h.0
links_nth T v (x ∷ ps) (suc i) p h q = links_nth T v ps i p h.1 q

good_link : (T : List Tree) (es : List Entry) (vs : List Tree) (x i : ℕ) (p : Parent) → Good T es vs → nth (parents_at x es) i ≡ some p
    → (v : Tree) × (nth vs x ≡ some v) × LinkOK T v p
good_link T [] [] x i p g q = clash cc
good_link T [] (v ∷ vs) x i p g q = absurd g
good_link T (e ∷ es) [] x i p g q = absurd g
good_link T (e ∷ es) (v ∷ vs) zero i p g q = (v, refl, links_nth T v e.parents i p g.1 q)
good_link T (e ∷ es) (v ∷ vs) (suc x) i p g q = good_link T es vs x i p g.2 q

pub good_linked : (T : List Tree) (es : List Entry) → Good T es T → Linked es (value_of T)
good_linked T es g x i p q =
    let a = good_link T es T x i p g q in
    (a.2.0, a.2.1, ap or_gap a.2.2, a.2.3 ∙ sym (ap or_gap a.1))

-- ## The relation

abbrev pub forget : List Todo → List Op
forget [] = []
forget (parse u ∷ k) = want ∷ forget k
forget (close h ∷ k) = make ∷ forget k

-- The stack in the end.
abbrev pub build : List Todo → List Tree → List Tree
build [] vs = vs
build (parse u ∷ k) vs = build k (tree_of u ∷ vs)
build (close h ∷ k) [] = build k []
build (close h ∷ k) (b ∷ []) = build k (b ∷ [])
build (close h ∷ k) (b ∷ a ∷ vs) = build k (cons a b ∷ vs)

abbrev pub Stands : List Tree → List ℕ → List Tree → Type 0
Stands T [] [] = Unit {0}
Stands T [] (v ∷ vs) = ⊥
Stands T (e ∷ es) [] = ⊥
Stands T (e ∷ es) (v ∷ vs) = (nth T e ≡ some v) × Stands T es vs

-- Each subtree that is left agrees with the cache, and each pair that is open will be what its entry stands for.
abbrev pub Plan : Cache → List Tree → List Todo → List Tree → Type 0
Plan c T [] vs = Unit {0}
Plan c T (parse u ∷ k) vs = Agree c T u × Plan c T k (tree_of u ∷ vs)
Plan c T (close h ∷ k) [] = ⊥
Plan c T (close h ∷ k) (b ∷ []) = ⊥
Plan c T (close h ∷ k) (b ∷ a ∷ vs) = PairAt c T h (cons a b) × Plan c T k (cons a b ∷ vs)

pub record Lock (c : Cache) (T : List Tree) (goal : Tree) (k : List Todo) (w : Written) : Type 0 where
  pub vals : List Tree
  pub stands : Stands T w.stack vals
  pub reads : feed w.items (want ∷ [], []) ≡ some (collapse (forget k) vals)
  pub plan : Plan c T k vals
  pub builds : build k vals ≡ goal ∷ []
  pub no_longer : NoLonger w.items

abbrev pub Wrote : Cache → List Tree → Tree → List Todo → Outcome → Type 0
Wrote c T goal k (done w) = Lock c T goal k w
Wrote c T goal k (stopped k' w) = Lock c T goal (parse hole ∷ k') w
Wrote c T goal k (refused n w) = Unit {0}

-- ## Steps

bind_some : {A : Type 0} (o : Option A) → bind o (λ a. some a) ≡ o
unfolding bind
bind_some none = refl
bind_some (some a) = refl

feed_end : (xs : List Item) (i : Item) (r : Reading) → feed (xs ++ i ∷ []) r ≡ bind (feed xs r) (λ q. step_read i q.0 q.1)
unfolding bind
feed_end [] i r = bind_some (step_read i r.0 r.1)
feed_end (x ∷ xs) i r = go (step_read x r.0 r.1) (feed_end xs i)
  where
    go : (o : Option Reading) → ((q : Reading) → feed (xs ++ i ∷ []) q ≡ bind (feed xs q) (λ q. step_read i q.0 q.1))
        → bind o (feed (xs ++ i ∷ [])) ≡ bind (bind o (feed xs)) (λ q. step_read i q.0 q.1)
    go none ih = refl
    go (some q) ih = ih q

thrifty_end : (xs : List Item) (i : Item) (o : Option Reading) (q : Reading) → bind o (feed xs) ≡ some q → NoLongerFrom xs o → ItemNoLonger i q.1
    → NoLongerFrom (xs ++ i ∷ []) o
unfolding bind
thrifty_end [] i none q e t h = tt
thrifty_end [] i (some r) q e t h = let alike : r ≡ q = cc in (rw alike h, tt)
thrifty_end (x ∷ xs) i none q e t h = tt
thrifty_end (x ∷ xs) i (some r) q e t h = (t.0, thrifty_end xs i (step_read x r.0 r.1) q e t.1 h)

stands_map : (T : List Tree) (es : List ℕ) (vs : List Tree) → Stands T es vs → map (value_of T) es ≡ vs
stands_map T [] [] s = refl
stands_map T [] (v ∷ vs) s = absurd s
stands_map T (e ∷ es) [] s = absurd s
stands_map T (e ∷ es) (v ∷ vs) s = rw (s.0, stands_map T es vs s.1)

module _ (find : Cache → List ℕ → List ℕ → ℕ → ℕ → Option (List Bool)) (room : List Todo → List Item → Item → ℕ) (sound : Sound find) (short : Short find)
    (c : Cache) (T : List Tree) (good : Good T c.entries T) (goal : Tree) where
  and_then_ok : (k k' : List Todo) (o : Outcome) (f : Written → Outcome) → Wrote c T goal k o
      → ((w : Written) → Lock c T goal k w → Wrote c T goal k' (f w)) → Wrote c T goal k' (and_then o f)
  and_then_ok k k' (done w) f h g = g w h
  and_then_ok k k' (stopped j w) f h g = h
  and_then_ok k k' (refused n w) f h g = tt

  -- One item for a whole subtree.
  put_whole_ok : (u : Unfolded) (k : List Todo) (w : Written) (e : ℕ) (i : Item) (L : Lock c T goal (parse u ∷ k) w) → nth T e ≡ some (tree_of u)
      → step_read i (want ∷ forget k) L.vals ≡ some (collapse (forget k) (tree_of u ∷ L.vals)) → ItemNoLonger i L.vals
      → Wrote c T goal k (put_whole find room c k e i w)
  unfolding bind
  put_whole_ok u k w e i L s q t = go (room k w.items i)
    where
      go : (n : ℕ) → Wrote c T goal k (and_then (put_if n i w) (λ v. done (push c e v)))
      go zero = record {
        vals = tree_of u ∷ L.vals;
        stands = (s, L.stands);
        reads = feed_end w.items i (want ∷ [], []) ∙ ap (λ o. bind o (λ r. step_read i r.0 r.1)) L.reads ∙ q;
        plan = L.plan.1;
        builds = L.builds;
        no_longer = thrifty_end w.items i (some (want ∷ [], [])) (want ∷ forget k, L.vals) L.reads L.no_longer t;
      }
      go (suc n) = tt

  -- A reference leads to the tree that is meant.
  leads_to : (u : Unfolded) (k : List Todo) (w : Written) (h e : ℕ) (path : List Bool) (L : Lock c T goal (parse u ∷ k) w) → nth T e ≡ some (tree_of u)
      → find c w.marked w.stack h e ≡ some path → follow path (as_list L.vals) ≡ some (tree_of u)
  leads_to u k w h e path L s f =
      let leads : follow path (as_list (map (value_of T) w.stack)) ≡ some (value_of T e) =
      sound c w.marked w.stack h e path (value_of T) (good_linked T c.entries good) f in
      rw (stands_map T w.stack L.vals L.stands, s) at leads

  refers : (u : Unfolded) (k : List Todo) (w : Written) (h e : ℕ) (path : List Bool) (L : Lock c T goal (parse u ∷ k) w) → nth T e ≡ some (tree_of u)
      → find c w.marked w.stack h e ≡ some path
      → step_read (reference_item path) (want ∷ forget k) L.vals ≡ some (collapse (forget k) (tree_of u ∷ L.vals))
  unfolding bind
  refers u k w h e path L s f = rw (leads_to u k w h e path L s f)

  refers_short : (u : Unfolded) (k : List Todo) (w : Written) (h e : ℕ) (path : List Bool) (L : Lock c T goal (parse u ∷ k) w) → nth T e ≡ some (tree_of u)
      → find c w.marked w.stack h e ≡ some path → ItemNoLonger (reference_item path) L.vals
  refers_short u k w h e path L s f v q =
      let leads : follow path (as_list L.vals) ≡ some (tree_of u) = leads_to u k w h e path L s f in
      let alike : v ≡ tree_of u = cc in
      rw alike (omega (arith, short c w.marked w.stack h e path (value_of T) (good_linked T c.entries good) f, good_len T e c.entries T (tree_of u) good s))

  either_way : (u : Unfolded) (k : List Todo) (w : Written) (h e : ℕ) (full : Outcome) (L : Lock c T goal (parse u ∷ k) w) → nth T e ≡ some (tree_of u)
      → Wrote c T goal k full → (o : Option (List Bool)) → find c w.marked w.stack h e ≡ o
      → Wrote c T goal k (choose o (λ path. put_whole find room c k e (reference_item path) w) full)
  either_way u k w h e full L s g none f = g
  either_way u k w h e full L s g (some path) f = put_whole_ok u k w e (reference_item path) L s (refers u k w h e path L s f) (refers_short u k w h e path L s f)

  close_ok : (h : ℕ) (k : List Todo) (w : Written) → Lock c T goal (close h ∷ k) w → Lock c T goal k (close_up c h w)
  close_ok h k w L = go w.stack L.vals L.stands L.plan L.reads L.builds
    where
      go : (st : List ℕ) (vs : List Tree) → Stands T st vs → Plan c T (close h ∷ k) vs
          → feed w.items (want ∷ [], []) ≡ some (collapse (make ∷ forget k) vs) → build (close h ∷ k) vs ≡ goal ∷ []
          → Lock c T goal k (push c (pair_entry c h) (record { stack = pop2 st; marked = w.marked; items = w.items }))
      go st [] s p q b = absurd p
      go st (v ∷ []) s p q b = absurd p
      go [] (v ∷ u ∷ vs) s p q b = absurd s
      go (e ∷ []) (v ∷ u ∷ vs) s p q b = absurd s.1
      go (e ∷ d ∷ st) (v ∷ u ∷ vs) s p q b = record {
        vals = cons u v ∷ vs;
        stands = (rw p.0.1 p.0.2, s.1.1);
        reads = q;
        plan = p.1;
        builds = b;
        no_longer = L.no_longer;
      }

  cons_ok : (h : ℕ) (l r : Unfolded) (k : List Todo) (w : Written) → Lock c T goal (parse (node h l r) ∷ k) w
      → Wrote c T goal (parse l ∷ parse r ∷ close h ∷ k) (put find room k cons_item w)
  unfolding bind
  cons_ok h l r k w L = go (room k w.items cons_item)
    where
      go : (n : ℕ) → Wrote c T goal (parse l ∷ parse r ∷ close h ∷ k) (put_if n cons_item w)
      go zero = record {
        vals = L.vals;
        stands = L.stands;
        reads = feed_end w.items cons_item (want ∷ [], []) ∙ ap (λ o. bind o (λ r. step_read cons_item r.0 r.1)) L.reads;
        plan = (L.plan.0.1, (L.plan.0.2, (L.plan.0.0, L.plan.1)));
        builds = L.builds;
        no_longer = thrifty_end w.items cons_item (some (want ∷ [], [])) (want ∷ forget k, L.vals) L.reads L.no_longer tt;
      }
      go (suc n) = tt

  pub write_ok : (u : Unfolded) (k : List Todo) (w : Written) → Lock c T goal (parse u ∷ k) w → Wrote c T goal k (write find room c u k w)
  unfolding write
  write_ok hole k w L = L
  write_ok (leaf h bs) k w L =
      let a = L.plan.0 in
      let s : nth T (atom_entry c bs) ≡ some (atom bs) = rw a.1 a.2 in
      either_way (leaf h bs) k w h (atom_entry c bs) (put_whole find room c k (atom_entry c bs) (atom_item bs) w) L s
      (put_whole_ok (leaf h bs) k w (atom_entry c bs) (atom_item bs) L s refl tt)
      (find c w.marked w.stack h (atom_entry c bs)) refl
  write_ok (node h l r) k w L =
      let a = L.plan.0.0 in
      let s : nth T (pair_entry c h) ≡ some (cons (tree_of l) (tree_of r)) = rw a.1 a.2 in
      either_way (node h l r) k w h (pair_entry c h) _ L s
      (and_then_ok (parse l ∷ parse r ∷ close h ∷ k) k (put find room k cons_item w) _ (cons_ok h l r k w L) (λ w₁ L₁.
      and_then_ok (parse r ∷ close h ∷ k) k (write find room c l (parse r ∷ close h ∷ k) w₁) _ (write_ok l (parse r ∷ close h ∷ k) w₁ L₁) (λ w₂ L₂.
      and_then_ok (close h ∷ k) k (write find room c r (close h ∷ k) w₂) _ (write_ok r (close h ∷ k) w₂ L₂) (λ w₃ L₃. close_ok h k w₃ L₃))))
      (find c w.marked w.stack h (pair_entry c h)) refl

  pub resume_ok : (k : List Todo) (w : Written) → Lock c T goal k w → Wrote c T goal [] (resume find room c k w)
  unfolding resume
  resume_ok [] w L = L
  resume_ok (parse u ∷ k) w L = and_then_ok k [] (write find room c u k w) (λ v. resume find room c k v) (write_ok u k w L) (λ v M. resume_ok k v M)
  resume_ok (close h ∷ k) w L = resume_ok k (close_up c h w) (close_ok h k w L)
