-- The items of a finished session read as the plain filling of its adds.
use Rattle.std.specs.Prelude.{◌≡◌, refl, ◌⊎◌, Bool, ℕ, zero, suc, ◌+◌, ◌≤◌}
use Rattle.std.proofs.Common.{sym, subst, inl, inr, arith}
use mathlib.Core.List.{List, [], ◌∷◌, map}
use Rattle.std.proofs.Math.Option.{Option, none, some, bind}
use Rattle.words.specs.Choice.{clash}
use Rattle.spec_reading.specs.Tree.{Tree, place, cons}
use Rattle.spec_session.specs.Unfold.{Unfolded, hole, leaf, node, tree_of}
use Rattle.spec_session.specs.Filling.{or_stays, fill_all}
use Rattle.spec_session.specs.Premises.{opens, In, Above, Shut, Apart}
use Rattle.spec_session.specs.Cache.{Cache, update}
use Rattle.spec_session.specs.Items.{Item, read_items, NoLonger}
use Rattle.spec_session.specs.Writer.{Todo, parse, close, Written, Outcome, done, stopped, refused, resume, Session, start, added, settle, add_at, onward, add_all}
use Rattle.spec_session.proofs.Trees.{nth_map, plug, plug_closed, fill_plug, opens_plug}
use Rattle.spec_session.proofs.Cached.{Sub}
use Rattle.spec_session.proofs.Enter.{Agree, Open, Ext, pair_mono, agree_mono, agree_plug, Cached, Fits, Updated, update_ok}
use Rattle.spec_session.proofs.Lock.{Sound, Short, Stands, Plan, Lock, Wrote, build, resume_ok}

-- ## Counting the open places of what is left

abbrev pub sum_opens : List Tree → ℕ
sum_opens [] = 0
sum_opens (v ∷ vs) = opens v + sum_opens vs

abbrev todo_opens : List Todo → ℕ
todo_opens [] = 0
todo_opens (parse u ∷ k) = opens (tree_of u) + todo_opens k
todo_opens (close h ∷ k) = todo_opens k

build_opens : (k : List Todo) (vs : List Tree) → sum_opens (build k vs) ≡ todo_opens k + sum_opens vs
build_opens [] vs = omega arith
build_opens (parse u ∷ k) vs = omega (arith, build_opens k (tree_of u ∷ vs))
build_opens (close h ∷ k) [] = build_opens k []
build_opens (close h ∷ k) (b ∷ []) = build_opens k (b ∷ [])
build_opens (close h ∷ k) (b ∷ a ∷ vs) = omega (arith, build_opens k (cons a b ∷ vs))

-- ## Plugging a tree into the open place of what is left

map_closed : (t : Tree) (vs : List Tree) → sum_opens vs ≡ 0 → map (plug t) vs ≡ vs
map_closed t [] z = refl
map_closed t (v ∷ vs) z = cc (plug_closed t v (omega arith), map_closed t vs (omega arith))

build_plug : (t : Tree) (k : List Todo) (vs : List Tree) → todo_opens k ≡ 0 → build k (map (plug t) vs) ≡ map (plug t) (build k vs)
build_plug t [] vs z = refl
build_plug t (parse u ∷ k) vs z =
    rw (plug_closed t (tree_of u) (omega arith)) at (build_plug t k (tree_of u ∷ vs) (omega arith))
build_plug t (close h ∷ k) [] z = build_plug t k [] z
build_plug t (close h ∷ k) (b ∷ []) z = build_plug t k (b ∷ []) z
build_plug t (close h ∷ k) (b ∷ a ∷ vs) z = build_plug t k (cons a b ∷ vs) z

plan_plug : (t : Tree) (c : Cache) (T : List Tree) (k : List Todo) (vs : List Tree) → todo_opens k ≡ 0 → Plan c T k vs
    → Plan c (map (plug t) T) k (map (plug t) vs)
plan_plug t c T [] vs z p = tt
plan_plug t c T (parse u ∷ k) vs z p = (
  agree_plug t c T u (omega arith) p.0,
  rw (plug_closed t (tree_of u) (omega arith)) at (plan_plug t c T k (tree_of u ∷ vs) (omega arith) p.1),
)
plan_plug t c T (close h ∷ k) [] z p = absurd p
plan_plug t c T (close h ∷ k) (b ∷ []) z p = absurd p
plan_plug t c T (close h ∷ k) (b ∷ a ∷ vs) z p =
    ((p.0.0, p.0.1, nth_map (plug t) T p.0.0 _ p.0.2), plan_plug t c T k (cons a b ∷ vs) z p.1)

plan_mono : {c c' : Cache} {T T' : List Tree} → Ext c T c' T' → (k : List Todo) (vs : List Tree) → Plan c T k vs → Plan c' T' k vs
plan_mono x [] vs p = tt
plan_mono x (parse u ∷ k) vs p = (agree_mono x u p.0, plan_mono x k (tree_of u ∷ vs) p.1)
plan_mono x (close h ∷ k) [] p = absurd p
plan_mono x (close h ∷ k) (b ∷ []) p = absurd p
plan_mono x (close h ∷ k) (b ∷ a ∷ vs) p = (pair_mono x h _ p.0, plan_mono x k (cons a b ∷ vs) p.1)

stands_plug : (t : Tree) (T : List Tree) (es : List ℕ) (vs : List Tree) → Stands T es vs → Stands (map (plug t) T) es (map (plug t) vs)
stands_plug t T [] [] s = tt
stands_plug t T [] (v ∷ vs) s = absurd s
stands_plug t T (e ∷ es) [] s = absurd s
stands_plug t T (e ∷ es) (v ∷ vs) s = (nth_map (plug t) T e v s.0, stands_plug t T es vs s.1)

stands_mono : (T T' : List Tree) → Sub T T' → (es : List ℕ) (vs : List Tree) → Stands T es vs → Stands T' es vs
stands_mono T T' x [] [] s = tt
stands_mono T T' x [] (v ∷ vs) s = absurd s
stands_mono T T' x (e ∷ es) [] s = absurd s
stands_mono T T' x (e ∷ es) (v ∷ vs) s = (x e v s.0, stands_mono T T' x es vs s.1)

-- The lock at an open place, with the tree that comes plugged in.
lock_plug : (t : Unfolded) (c c' : Cache) (T T' : List Tree) (p : Tree) (k : List Todo) (w : Written) → opens p ≡ 1
    → Lock c T p (parse hole ∷ k) w → Ext c (map (plug (tree_of t)) T) c' T' → Agree c' T' t → Lock c' T' (plug (tree_of t) p) (parse t ∷ k) w
lock_plug t c c' T T' p k w one L x a =
    let n : sum_opens (p ∷ []) ≡ todo_opens k + sum_opens (place ∷ L.vals) = rw L.builds at (build_opens k (place ∷ L.vals)) in
    let zk : todo_opens k ≡ 0 = omega arith in
    let zv : sum_opens L.vals ≡ 0 = omega arith in
    let alike : map (plug (tree_of t)) L.vals ≡ L.vals = map_closed (tree_of t) L.vals zv in
    let b : build k (tree_of t ∷ map (plug (tree_of t)) L.vals) ≡ map (plug (tree_of t)) (build k (place ∷ L.vals)) =
    build_plug (tree_of t) k (place ∷ L.vals) zk in
    let q : Plan c (map (plug (tree_of t)) T) k (tree_of t ∷ map (plug (tree_of t)) L.vals) = plan_plug (tree_of t) c T k (place ∷ L.vals) zk L.plan.1 in
    record {
      vals = L.vals;
      stands =
          stands_mono (map (plug (tree_of t)) T) T' x.sub w.stack L.vals
          (rw alike at (stands_plug (tree_of t) T w.stack L.vals L.stands));
      reads = L.reads;
      plan = (a, plan_mono x k (tree_of t ∷ L.vals) (rw alike at q));
      builds = rw (alike, L.builds) at b;
      no_longer = L.no_longer;
    }

-- At an open place there is one.
stopped_opens : (c : Cache) (T : List Tree) (p : Tree) (k : List Todo) (w : Written) → Lock c T p (parse hole ∷ k) w → 1 ≤ opens p
stopped_opens c T p k w L =
    let n : sum_opens (p ∷ []) ≡ todo_opens k + sum_opens (place ∷ L.vals) = rw L.builds at (build_opens k (place ∷ L.vals)) in
    omega arith

-- With nothing left, the reader has the tree.
done_reads : (c : Cache) (T : List Tree) (p : Tree) (w : Written) → Lock c T p [] w → read_items w.items ≡ some p
unfolding bind
done_reads c T p w L = rw (L.reads, L.builds)

-- Each pair in a tree is unfolded as the file has it.
abbrev pub Coherent : (ℕ → Unfolded) → Unfolded → Type 0
Coherent U hole = Unit {0}
Coherent U (leaf h bs) = Unit {0}
Coherent U (node h l r) = (U h ≡ node h l r) × Coherent U l × Coherent U r

abbrev pub AllCoherent : (ℕ → Unfolded) → List Unfolded → Type 0
AllCoherent U [] = Unit {0}
AllCoherent U (t ∷ ts) = Coherent U t × AllCoherent U ts

fits : (U : ℕ → Unfolded) (B A : ℕ → Type 0) (u : Unfolded) → Coherent U u → ((h : ℕ) → B h → In h u → ⊥) → ((h : ℕ) → Above h u → A h)
    → Fits U B A u
fits U B A hole c b a = tt
fits U B A (leaf h bs) c b a = tt
fits U B A (node h l r) c b a = (
  c.0,
  (λ bad. b h bad (inl refl)),
  at_h (opens (cons (tree_of l) (tree_of r))) refl,
  fits U B A l c.1 (λ g bad i. b g bad (inr (inl i))) (λ g i. a g (inr (inl i))),
  fits U B A r c.2 (λ g bad i. b g bad (inr (inr i))) (λ g i. a g (inr (inr i))),
)
  where
    at_h : (n : ℕ) → opens (cons (tree_of l) (tree_of r)) ≡ n → A h ⊎ (opens (cons (tree_of l) (tree_of r)) ≡ 0)
    at_h zero e = inr e
    at_h (suc n) e = inl (a h (inl (refl, λ z. omega arith)))

shut_both : (D E : ℕ → Type 0) (ts : List Unfolded) → Shut D ts → Shut E ts → Shut (λ h. D h ⊎ E h) ts
shut_both D E [] d e = tt
shut_both D E (t ∷ ts) d e = (one, shut_both D E ts d.1 e.1)
  where
    one : (h : ℕ) → D h ⊎ E h → In h t → ⊥
    one h (inl x) = d.0 h x
    one h (inr x) = e.0 h x

shut_none : (ts : List Unfolded) → Shut (λ h. ⊥ ⊎ ⊥) ts
shut_none [] = tt
shut_none (t ∷ ts) = (one, shut_none ts)
  where
    one : (h : ℕ) → ⊥ ⊎ ⊥ → In h t → ⊥
    one h (inl x) i = x
    one h (inr x) i = x

-- ## The session

-- Waiting at the open place of p, with k left to write after it.
pub record Waiting (U : ℕ → Unfolded) (B A : ℕ → Type 0) (p : Tree) (k : List Todo) (s : Session) : Type 0 where
  pub trees : List Tree
  pub cached : Cached U B A s.cache trees
  pub awaits : (s.cache.sentinel_entry ≡ none) ⊎ Open s.cache trees
  pub lock : Lock s.cache trees p (parse hole ∷ k) s.written
  pub one : opens p ≡ 1

start_waits : (U : ℕ → Unfolded) → Waiting U (λ h. ⊥) (λ h. ⊥) place [] start
start_waits U = record {
  trees = [];
  cached = record { good = tt; maps = λ h e q. clash cc };
  awaits = inl refl;
  lock = record { vals = []; stands = tt; reads = refl; plan = (tt, tt); builds = refl; no_longer = tt };
  one = refl;
}

-- What an add leaves: a session that is finished and reads as p, or one that waits.
abbrev Left : (U : ℕ → Unfolded) (B A : ℕ → Type 0) → Tree → Cache → Outcome → Type 0
Left U B A p c (done w) = (read_items w.items ≡ some p) × NoLonger w.items
Left U B A p c (stopped k w) = Waiting U B A p k (record { cache = c; waiting = some k; written = w })
Left U B A p c (refused n w) = Unit {0}

module _ (find : Cache → List ℕ → List ℕ → ℕ → ℕ → Option (List Bool)) (room : List Todo → List Item → Item → ℕ) (sound : Sound find) (short : Short find) (U : ℕ → Unfolded) where
  add_ok : (B A : ℕ → Type 0) (p : Tree) (k : List Todo) (s : Session) (t : Unfolded) → Waiting U B A p k s → opens (tree_of t) ≤ 1 → Coherent U t
      → ((h : ℕ) → B h ⊎ A h → In h t → ⊥)
      → Left U (λ h. B h ⊎ A h) (λ h. Above h t) (plug (tree_of t) p) (update t s.cache) (resume find room (update t s.cache) (parse t ∷ k) s.written)
  add_ok B A p k s t W le co shut =
      let N : Updated U B A (λ h. Above h t) s.cache W.trees t (update t s.cache) =
      update_ok U B A (λ h. Above h t) t s.cache W.trees W.cached W.awaits
      (fits U (λ h. B h ⊎ A h) (λ h. Above h t) t co shut (λ h i. i)) in
      let L : Lock (update t s.cache) N.trees (plug (tree_of t) p) (parse t ∷ k) s.written =
      lock_plug t s.cache (update t s.cache) W.trees N.trees p k s.written W.one W.lock N.ext N.agrees in
      go N (resume find room (update t s.cache) (parse t ∷ k) s.written)
      (resume_ok find room sound short (update t s.cache) N.trees N.cached.good (plug (tree_of t) p) (parse t ∷ k) s.written L)
    where
      go : (N : Updated U B A (λ h. Above h t) s.cache W.trees t (update t s.cache)) (o : Outcome)
          → Wrote (update t s.cache) N.trees (plug (tree_of t) p) [] o
          → Left U (λ h. B h ⊎ A h) (λ h. Above h t) (plug (tree_of t) p) (update t s.cache) o
      go N (done w) M = (done_reads (update t s.cache) N.trees (plug (tree_of t) p) w M, M.no_longer)
      go N (refused n w) M = tt
      go N (stopped j w) M = record {
        trees = N.trees;
        cached = N.cached;
        awaits = inr (is_open N.opened);
        lock = M;
        one = omega (arith, stopped_opens (update t s.cache) N.trees (plug (tree_of t) p) j w M, opens_plug (tree_of t) p W.one);
      }
        where
          is_open : (opens (tree_of t) ≡ 0) ⊎ Open (update t s.cache) N.trees → Open (update t s.cache) N.trees
          is_open (inl z) =
              absurd (omega (arith, stopped_opens (update t s.cache) N.trees (plug (tree_of t) p) j w M, opens_plug (tree_of t) p W.one))
          is_open (inr o) = o

  -- The items of q read as the tree that the adds fill p to.
  abbrev Reads : List Unfolded → Tree → Session → Type 0
  Reads ts p q = (r : Tree) × (fill_all (map tree_of ts) p ≡ r) × (read_items q.written.items ≡ some r) × NoLonger q.written.items

  -- One more tree at the one open place.
  fill_first : (t p : Tree) (ts : List Tree) (r : Tree) → opens p ≡ 1 → fill_all ts (plug t p) ≡ r → fill_all (t ∷ ts) p ≡ r
  fill_first t p ts r one e = subst (λ (o : Option Tree). fill_all ts (or_stays o p) ≡ r) (sym (fill_plug t p one)) e

  finished_last : (ts : List Unfolded) (c : Cache) (w : Written) (q : Session) → add_all find room ts (record { cache = c; waiting = none; written = w }) ≡ added q
      → (ts ≡ []) × (q.written ≡ w)
  finished_last [] c w q e = (refl, cc)
  finished_last (t ∷ ts) c w q e = clash cc

  after : (ts : List Unfolded) (t : Unfolded) (p : Tree) (s q : Session) (c : Cache) (D : ℕ → Type 0) → opens p ≡ 1 → (o : Outcome)
      → Left U D (λ h. Above h t) (plug (tree_of t) p) c o
      → ((j : List Todo) (w : Written) → Waiting U D (λ h. Above h t) (plug (tree_of t) p) j (record { cache = c; waiting = some j; written = w })
      → add_all find room ts (record { cache = c; waiting = some j; written = w }) ≡ added q → Reads ts (plug (tree_of t) p) q)
      → onward find room (settle s c o) (add_all find room ts) ≡ added q → Reads (t ∷ ts) p q
  unfolding bind
  after ts t p s q c D one (refused n w) M ih f = clash cc
  after ts t p s q c D one (done w) M ih f =
      let l = finished_last ts c w q f in (
        plug (tree_of t) p,
        fill_first (tree_of t) p (map tree_of ts) (plug (tree_of t) p) one
            (subst (λ (xs : List Unfolded). fill_all (map tree_of xs) (plug (tree_of t) p) ≡ plug (tree_of t) p) (sym l.0) refl),
        rw l.1 M.0,
        rw l.1 M.1,
      )
  after ts t p s q c D one (stopped j w) M ih f =
      let g = ih j w M f in
      (g.0, fill_first (tree_of t) p (map tree_of ts) g.0 one g.1, g.2, g.3)

  adds_ok : (ts : List Unfolded) (B A : ℕ → Type 0) (p : Tree) (k : List Todo) (s q : Session) → Waiting U B A p k s → s.waiting ≡ some k
      → AllCoherent U ts → Apart ts → Shut (λ h. B h ⊎ A h) ts → add_all find room ts s ≡ added q → q.waiting ≡ none → Reads ts p q
  adds_ok [] B A p k s q W e co apart sh f fin =
      let d : s.waiting ≡ q.waiting = cc in
      clash cc
  adds_ok (t ∷ ts) B A p k s q W e co apart sh f fin =
      after ts t p s q (update t s.cache) (λ h. B h ⊎ A h) W.one (resume find room (update t s.cache) (parse t ∷ k) s.written)
      (add_ok B A p k s t W apart.0 co.0 sh.0)
      (λ j w M g.
      adds_ok ts (λ h. B h ⊎ A h) (λ h. Above h t) (plug (tree_of t) p) j (record { cache = update t s.cache; waiting = some j; written = w }) q
      M refl co.1 apart.2 (shut_both (λ h. B h ⊎ A h) (λ h. Above h t) ts sh.1 apart.1) g fin)
      (subst (λ o. onward find room (add_at find room t s o) (add_all find room ts) ≡ added q) e f)

  -- Read-back: the trees are added to a fresh session, and the last add finishes it. Then the items read as the plain filling.
  pub read_back : (ts : List Unfolded) (q : Session) → AllCoherent U ts → Apart ts → add_all find room ts start ≡ added q → q.waiting ≡ none
      → (r : Tree) × (fill_all (map tree_of ts) place ≡ r) × (read_items q.written.items ≡ some r) × NoLonger q.written.items
  read_back ts q co apart f fin =
      adds_ok ts (λ h. ⊥) (λ h. ⊥) place [] start q (start_waits U) refl co apart (shut_none ts) f fin
