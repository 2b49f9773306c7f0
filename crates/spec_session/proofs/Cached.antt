-- What the cache keeps true, with a list T of trees beside its entries: entry e stands for the tree T[e] as it is now, in which a gap is the one
-- present open place.
use Rattle.std.specs.Prelude.{◌≡◌, refl, ◌⊎◌, List, [], ◌∷◌, ◌++◌, map, Bool, true, false, cond, ◌&&◌, ℕ, zero, suc, ◌+◌, ◌-◌, ◌≤◌, ◌%◌, eqb, ltb, length, set, drop}
use Rattle.std.proofs.Common.{sym, ap, ◌∙◌, inl, inr, arith, eqb-true, eq-eqb}
use Rattle.std.proofs.Math.Option.{Option, none, some}
use Rattle.spec_session.specs.Steps.{or_known}
use Rattle.words.specs.Choice.{clash}
use Rattle.spec_reading.specs.Tree.{Tree, atom, cons, pick}
use Rattle.spec_session.specs.Cache.{sentinel_key, atom_key, pair_key, Key, Parent, Entry, same_key, later, find_key, lookup, adjust, parents_at, length_at, add_parent, move_parents, new_entry}
use Rattle.words.specs.Lists.{same_eq}
use Rattle.path.specs.Bytes.{bit}
use Rattle.spec_session.specs.Trees.{nth}
use Rattle.spec_session.proofs.Trees.{nth_map, plug, pick_plug, plug_size}
use Rattle.spec_session.specs.Items.{full_size}

-- ## Lookups

pub same_key_ok : (k m : Key) → same_key k m ≡ true → k ≡ m
same_key_ok sentinel_key m h = cc
same_key_ok (atom_key a) sentinel_key h = cc
same_key_ok (atom_key a) (atom_key b) h = ap atom_key (same_eq a b h)
same_key_ok (atom_key a) (pair_key l r) h = cc
same_key_ok (pair_key l r) sentinel_key h = cc
same_key_ok (pair_key l r) (atom_key a) h = cc
same_key_ok (pair_key l r) (pair_key l' r') h = go (eqb l l') (eqb r r') refl refl h
  where
    go : (p q : Bool) → eqb l l' ≡ p → eqb r r' ≡ q → (p && q) ≡ true → pair_key l r ≡ pair_key l' r'
    go true true e f h = cc (eqb-true l l' e, eqb-true r r' f)
    go true false e f h = cc
    go false true e f h = cc
    go false false e f h = cc

pub find_append : (k : Key) (es m : List Entry) (e : ℕ) → find_key k es ≡ some e → find_key k (es ++ m) ≡ some e
find_append k [] m e h = cc
find_append k (x ∷ es) m e h = go (same_key k x.key) (find_key k es) refl h (λ i. find_append k es m i)
  where
    go : (b : Bool) (o : Option ℕ) → find_key k es ≡ o → cond b (some 0) (later o) ≡ some e
        → ((i : ℕ) → find_key k es ≡ some i → find_key k (es ++ m) ≡ some i)
        → cond b (some 0) (later (find_key k (es ++ m))) ≡ some e
    go true o f h ih = h
    go false none f h ih = cc
    go false (some i) f h ih = rw (ih i f) h

pub find_end : (k : Key) (es : List Entry) (x : Entry) → find_key k es ≡ none → same_key k x.key ≡ true → find_key k (es ++ x ∷ []) ≡ some (length es)
find_end k [] x h s = rw s
find_end k (y ∷ es) x h s = go (same_key k y.key) (find_key k es) refl h (λ f. find_end k es x f s)
  where
    go : (b : Bool) (o : Option ℕ) → find_key k es ≡ o → cond b (some 0) (later o) ≡ none
        → (find_key k es ≡ none → find_key k (es ++ x ∷ []) ≡ some (length es))
        → cond b (some 0) (later (find_key k (es ++ x ∷ []))) ≡ some (suc (length es))
    go true o f h ih = cc
    go false none f h ih = rw (ih f)
    go false (some i) f h ih = cc

pub find_adjust : (k : Key) (e : ℕ) (f : List Parent → List Parent) (es : List Entry) → find_key k (adjust e f es) ≡ find_key k es
find_adjust k e f [] = refl
find_adjust k zero f (x ∷ es) = refl
find_adjust k (suc e) f (x ∷ es) = rw (find_adjust k e f es)

-- The first list's answer, or else the second's.
pub lookup_both : (h : ℕ) (l m : List (ℕ × ℕ)) → lookup h (l ++ m) ≡ or_known (lookup h l) (lookup h m)
lookup_both h [] m = refl
lookup_both h (x ∷ l) m = rw (lookup_both h l m) (go (eqb h x.0))
  where
    go : (b : Bool) → cond b (some x.1) (or_known (lookup h l) (lookup h m)) ≡ or_known (cond b (some x.1) (lookup h l)) (lookup h m)
    go true = refl
    go false = refl

pub lookup_append : (h : ℕ) (l m : List (ℕ × ℕ)) (e : ℕ) → lookup h l ≡ some e → lookup h (l ++ m) ≡ some e
lookup_append h l m e q = lookup_both h l m ∙ ap (λ (o : Option ℕ). or_known o (lookup h m)) q

-- A handle that is found after one is added was found before, or is the one added.
pub lookup_end : (h : ℕ) (l : List (ℕ × ℕ)) (m : ℕ × ℕ) (e : ℕ) → lookup h (l ++ m ∷ []) ≡ some e → (lookup h l ≡ some e) ⊎ (h ≡ m.0)
lookup_end h l m e q = go (lookup h l) (eqb h m.0) refl (sym (lookup_both h l (m ∷ [])) ∙ q)
  where
    go : (o : Option ℕ) (b : Bool) → eqb h m.0 ≡ b → or_known o (cond b (some m.1) none) ≡ some e → (o ≡ some e) ⊎ (h ≡ m.0)
    go (some d) b f q = inl q
    go none true f q = inr (eqb-true h m.0 f)
    go none false f q = inl q

pub lookup_new : (h : ℕ) (l : List (ℕ × ℕ)) (e : ℕ) → lookup h l ≡ none → lookup h (l ++ (h, e) ∷ []) ≡ some e
lookup_new h l e q = lookup_both h l ((h, e) ∷ []) ∙ rw (q, eq-eqb h h refl) refl

-- ## Entries and their trees

-- A parent p of a child whose tree is v has v at that side.
abbrev pub LinkOK : List Tree → Tree → Parent → Type 0
LinkOK T v p = (l : Tree) × (r : Tree) × (nth T p.0 ≡ some (cons l r)) × (pick p.1 l r ≡ v)

abbrev pub LinksOK : List Tree → Tree → List Parent → Type 0
LinksOK T v [] = Unit {0}
LinksOK T v (p ∷ ps) = LinkOK T v p × LinksOK T v ps

abbrev pub KeyOK : List Tree → Tree → Key → Type 0
KeyOK T v sentinel_key = Unit {0}
KeyOK T v (atom_key bs) = v ≡ atom bs
KeyOK T v (pair_key a b) = (l : Tree) × (r : Tree) × (nth T a ≡ some l) × (nth T b ≡ some r) × (v ≡ cons l r)

-- Each entry's key and parents agree with its tree, and its length is at most the tree's in full.
abbrev pub Good : List Tree → List Entry → List Tree → Type 0
Good T [] [] = Unit {0}
Good T [] (v ∷ vs) = ⊥
Good T (x ∷ es) [] = ⊥
Good T (x ∷ es) (v ∷ vs) = KeyOK T v x.key × LinksOK T v x.parents × Good T es vs × (x.len ≤ full_size v)

-- What T says, T' says.
abbrev pub Sub : List Tree → List Tree → Type 0
Sub T T' = (e : ℕ) (v : Tree) → nth T e ≡ some v → nth T' e ≡ some v

pub links_mono : (T T' : List Tree) → Sub T T' → (v : Tree) (ps : List Parent) → LinksOK T v ps → LinksOK T' v ps
links_mono T T' s v [] h = tt
links_mono T T' s v (p ∷ ps) h = ((h.0.0, h.0.1, s p.0 _ h.0.2, h.0.3), links_mono T T' s v ps h.1)

pub key_mono : (T T' : List Tree) → Sub T T' → (v : Tree) (k : Key) → KeyOK T v k → KeyOK T' v k
key_mono T T' s v sentinel_key h = tt
key_mono T T' s v (atom_key bs) h = h
key_mono T T' s v (pair_key a b) h = (h.0, h.1, s a _ h.2, s b _ h.3, h.4)

pub good_mono : (T T' : List Tree) → Sub T T' → (es : List Entry) (vs : List Tree) → Good T es vs → Good T' es vs
good_mono T T' s [] [] h = tt
good_mono T T' s [] (v ∷ vs) h = absurd h
good_mono T T' s (x ∷ es) [] h = absurd h
good_mono T T' s (x ∷ es) (v ∷ vs) h =
    (key_mono T T' s v x.key h.0, links_mono T T' s v x.parents h.1, good_mono T T' s es vs h.2, h.3)

pub good_length : (T : List Tree) (es : List Entry) (vs : List Tree) → Good T es vs → length es ≡ length vs
good_length T [] [] h = refl
good_length T [] (v ∷ vs) h = absurd h
good_length T (x ∷ es) [] h = absurd h
good_length T (x ∷ es) (v ∷ vs) h = ap suc (good_length T es vs h.2)

pub good_new : (T : List Tree) (es : List Entry) (vs : List Tree) (k : Key) (n : ℕ) (v : Tree) → Good T es vs → KeyOK T v k
    → n ≤ full_size v → Good T (es ++ new_entry k n ∷ []) (vs ++ v ∷ [])
good_new T [] [] k n v h q le = (q, tt, tt, le)
good_new T [] (w ∷ vs) k n v h q le = absurd h
good_new T (x ∷ es) [] k n v h q le = absurd h
good_new T (x ∷ es) (w ∷ vs) k n v h q le = (h.0, h.1, good_new T es vs k n v h.2 q le, h.3)

pub good_adjust : (T : List Tree) (e : ℕ) (f : List Parent → List Parent) (es : List Entry) (vs : List Tree) (v : Tree) → Good T es vs
    → nth vs e ≡ some v → ((ps : List Parent) → LinksOK T v ps → LinksOK T v (f ps)) → Good T (adjust e f es) vs
good_adjust T e f [] [] v h q g = tt
good_adjust T e f [] (w ∷ vs) v h q g = absurd h
good_adjust T e f (x ∷ es) [] v h q g = absurd h
good_adjust T zero f (x ∷ es) (w ∷ vs) v h q g =
    let alike : w ≡ v = cc in
    (h.0, rw alike (g x.parents (rw alike at h.1)), h.2, h.3)
good_adjust T (suc e) f (x ∷ es) (w ∷ vs) v h q g = (h.0, h.1, good_adjust T e f es vs v h.2 q g, h.3)

pub good_parents : (T : List Tree) (e : ℕ) (es : List Entry) (vs : List Tree) (v : Tree) → Good T es vs
    → nth vs e ≡ some v → LinksOK T v (parents_at e es)
good_parents T e [] [] v h q = tt
good_parents T e [] (w ∷ vs) v h q = absurd h
good_parents T e (x ∷ es) [] v h q = absurd h
good_parents T zero (x ∷ es) (w ∷ vs) v h q = let alike : w ≡ v = cc in rw alike at h.1
good_parents T (suc e) (x ∷ es) (w ∷ vs) v h q = good_parents T e es vs v h.2 q

pub good_len : (T : List Tree) (e : ℕ) (es : List Entry) (vs : List Tree) (v : Tree) → Good T es vs → nth vs e ≡ some v → length_at e es ≤ full_size v
good_len T e [] [] v h q = omega arith
good_len T e [] (w ∷ vs) v h q = absurd h
good_len T e (x ∷ es) [] v h q = absurd h
good_len T zero (x ∷ es) (w ∷ vs) v h q = let alike : w ≡ v = cc in rw alike at h.3
good_len T (suc e) (x ∷ es) (w ∷ vs) v h q = good_len T e es vs v h.2 q

pub good_find : (T : List Tree) (k : Key) (es : List Entry) (vs : List Tree) (e : ℕ) → Good T es vs → find_key k es ≡ some e
    → (v : Tree) × (nth vs e ≡ some v) × KeyOK T v k
good_find T k [] [] e h q = clash cc
good_find T k [] (w ∷ vs) e h q = absurd h
good_find T k (x ∷ es) [] e h q = absurd h
good_find T k (x ∷ es) (w ∷ vs) e h q = go (same_key k x.key) refl (find_key k es) refl q (λ i. good_find T k es vs i h.2)
  where
    go : (b : Bool) → same_key k x.key ≡ b → (o : Option ℕ) → find_key k es ≡ o → cond b (some 0) (later o) ≡ some e
        → ((i : ℕ) → find_key k es ≡ some i → (v : Tree) × (nth vs i ≡ some v) × KeyOK T v k)
        → (v : Tree) × (nth (w ∷ vs) e ≡ some v) × KeyOK T v k
    go true s o f q ih =
        let z : e ≡ 0 = cc in
        rw z (w, refl, rw (same_key_ok k x.key s) h.0)
    go false s none f q ih = clash cc
    go false s (some i) f q ih =
        let z : e ≡ suc i = cc in
        rw z (ih i f)

-- ## Plugging a tree into the open place, in every entry at once

pub links_plug : (t : Tree) (T : List Tree) (v : Tree) (ps : List Parent) → LinksOK T v ps → LinksOK (map (plug t) T) (plug t v) ps
links_plug t T v [] h = tt
links_plug t T v (p ∷ ps) h = (
  (plug t h.0.0, plug t h.0.1, nth_map (plug t) T p.0 _ h.0.2, pick_plug t p.1 h.0.0 h.0.1 ∙ ap (plug t) h.0.3),
  links_plug t T v ps h.1,
)

pub key_plug : (t : Tree) (T : List Tree) (v : Tree) (k : Key) → KeyOK T v k → KeyOK (map (plug t) T) (plug t v) k
key_plug t T v sentinel_key h = tt
key_plug t T v (atom_key bs) h = ap (plug t) h
key_plug t T v (pair_key a b) h =
    (plug t h.0, plug t h.1, nth_map (plug t) T a _ h.2, nth_map (plug t) T b _ h.3, ap (plug t) h.4)

pub good_plug : (t : Tree) (T : List Tree) (es : List Entry) (vs : List Tree) → Good T es vs → Good (map (plug t) T) es (map (plug t) vs)
good_plug t T [] [] h = tt
good_plug t T [] (v ∷ vs) h = absurd h
good_plug t T (x ∷ es) [] h = absurd h
good_plug t T (x ∷ es) (v ∷ vs) h = (key_plug t T v x.key h.0, links_plug t T v x.parents h.1, good_plug t T es vs h.2, omega (arith, h.3, plug_size t v))

-- ## Parent lists

pub links_append : (T : List Tree) (v : Tree) (ps qs : List Parent) → LinksOK T v ps → LinksOK T v qs → LinksOK T v (ps ++ qs)
links_append T v [] qs h g = g
links_append T v (p ∷ ps) qs h g = (h.0, links_append T v ps qs h.1 g)

pub links_set : (T : List Tree) (v : Tree) (ps : List Parent) (i : ℕ) (p : Parent) → LinksOK T v ps → LinkOK T v p → LinksOK T v (set ps i p)
links_set T v [] i p h g = tt
links_set T v (q ∷ ps) zero p h g = (g, h.1)
links_set T v (q ∷ ps) (suc i) p h g = (h.0, links_set T v ps i p h.1 g)

pub links_drop : (T : List Tree) (v : Tree) (n : ℕ) (ps : List Parent) → LinksOK T v ps → LinksOK T v (drop n ps)
links_drop T v zero ps h = h
links_drop T v (suc n) [] h = tt
links_drop T v (suc n) (p ∷ ps) h = links_drop T v n ps h.1

pub links_add : (T : List Tree) (v : Tree) (p : ℕ) (side : Bool) (ps : List Parent) → LinksOK T v ps → LinkOK T v (p, side)
    → LinksOK T v (add_parent p side ps)
links_add T v p side ps h g = go (ltb (length ps) 100)
  where
    go : (b : Bool) → LinksOK T v (cond b (ps ++ (p, side) ∷ []) (set ps ((p + bit side) % 100) (p, side)))
    go true = links_append T v ps ((p, side) ∷ []) h (g, tt)
    go false = links_set T v ps ((p + bit side) % 100) (p, side) h g

pub links_move : (T : List Tree) (v : Tree) (moved ps : List Parent) → LinksOK T v moved → LinksOK T v ps → LinksOK T v (move_parents moved ps)
links_move T v moved ps h g = links_drop T v (length (ps ++ moved) - 100) (ps ++ moved) (links_append T v ps moved g h)
