-- Entering a tree keeps the cache true.
use Rattle.std.specs.Prelude.{◌≡◌, ◌⊎◌, true, false, length}
use Rattle.std.proofs.Math.Path.{refl, sym}
use Rattle.std.proofs.Common.{◌∙◌, inl, inr, arith}
use mathlib.Core.List.{List, [], ◌∷◌, ◌++◌, map}
use Rattle.std.proofs.Math.Option.{Option, none, some}
use Prim.Native.Nat.{ℕ, zero, suc, ◌≤◌}
use Rattle.spec_reading.specs.Tree.{Tree, place, atom, cons}
use Rattle.spec_session.specs.Unfold.{Unfolded, hole, leaf, node, tree_of}
use Rattle.spec_session.specs.Premises.{opens}
use Rattle.spec_session.specs.Cache.{sentinel_key, atom_key, pair_key, Key, Parent, Cache, same_key, find_key, lookup, adjust, length_at}
use Rattle.spec_session.specs.Cache.{pair_length, add_parent, move_parents, no_parents, new_entry, with_entries, keep_or_add, find_or_add}
use Rattle.spec_session.specs.Cache.{meet_sentinel, link_pair, join_pair, known_or, enter, sentinel_parents, clear_sentinel, place_root, update}
use Rattle.words.specs.Lists.{same_refl}
use Rattle.atom.specs.Write.{serialized_length}
use Rattle.spec_session.specs.Trees.{nth}
use Rattle.spec_session.proofs.Trees.{nth_append, nth_end, nth_map, plug, plug_closed}
use Rattle.spec_session.proofs.Cached.{LinksOK, KeyOK, Good, Sub, find_append, find_end, find_adjust, lookup_append, lookup_end, lookup_new}
use Rattle.spec_session.proofs.Cached.{good_len, good_mono, good_length, good_new, good_adjust, good_parents, good_find, good_plug, links_mono}
use Rattle.spec_session.proofs.Cached.{links_add, links_move}
use Rattle.spec_session.specs.Items.{full_size}

-- The handle h has an entry that stands for v.
abbrev pub PairAt : Cache → List Tree → ℕ → Tree → Type 0
PairAt c T h v = (e : ℕ) × (lookup h c.mapped ≡ some e) × (nth T e ≡ some v)

-- Each subtree has an entry that stands for its shape.
abbrev pub Agree : Cache → List Tree → Unfolded → Type 0
Agree c T hole = Unit {0}
Agree c T (leaf h bs) = (e : ℕ) × (find_key (atom_key bs) c.entries ≡ some e) × (nth T e ≡ some (atom bs))
Agree c T (node h l r) = PairAt c T h (cons (tree_of l) (tree_of r)) × Agree c T l × Agree c T r

-- The present sentinel entry stands for the open place.
abbrev pub Open : Cache → List Tree → Type 0
Open c T = (s : ℕ) × (c.sentinel_entry ≡ some s) × (nth T s ≡ some place)

-- What is found before is found after.
pub record Ext (c : Cache) (T : List Tree) (c' : Cache) (T' : List Tree) : Type 0 where
  pub sub : Sub T T'
  pub atoms : (bs : List ℕ) (e : ℕ) → find_key (atom_key bs) c.entries ≡ some e → find_key (atom_key bs) c'.entries ≡ some e
  pub pairs : (h e : ℕ) → lookup h c.mapped ≡ some e → lookup h c'.mapped ≡ some e
  pub stays : Open c T → Open c' T'

pub ext_refl : (c : Cache) (T : List Tree) → Ext c T c T
ext_refl c T = record { sub = λ e v h. h; atoms = λ bs e h. h; pairs = λ h e q. q; stays = λ o. o }

pub ext_trans : {c c' c'' : Cache} {T T' T'' : List Tree} → Ext c T c' T' → Ext c' T' c'' T'' → Ext c T c'' T''
ext_trans x y = record {
  sub = λ e v h. y.sub e v (x.sub e v h);
  atoms = λ bs e h. y.atoms bs e (x.atoms bs e h);
  pairs = λ h e q. y.pairs h e (x.pairs h e q);
  stays = λ o. y.stays (x.stays o);
}

pub pair_mono : {c c' : Cache} {T T' : List Tree} → Ext c T c' T' → (h : ℕ) (v : Tree) → PairAt c T h v → PairAt c' T' h v
pair_mono x h v a = (a.0, x.pairs h a.0 a.1, x.sub a.0 _ a.2)

pub agree_mono : {c c' : Cache} {T T' : List Tree} → Ext c T c' T' → (u : Unfolded) → Agree c T u → Agree c' T' u
agree_mono x hole a = tt
agree_mono x (leaf h bs) a = (a.0, x.atoms bs a.0 a.1, x.sub a.0 _ a.2)
agree_mono x (node h l r) a = (pair_mono x h _ a.0, agree_mono x l a.1, agree_mono x r a.2)

pub agree_plug : (t : Tree) (c : Cache) (T : List Tree) (u : Unfolded) → opens (tree_of u) ≡ 0 → Agree c T u → Agree c (map (plug t) T) u
agree_plug t c T hole z a = tt
agree_plug t c T (leaf h bs) z a = (a.0, a.1, nth_map (plug t) T a.0 _ a.2)
agree_plug t c T (node h l r) z a = (
  (a.0.0, a.0.1, rw (plug_closed t (cons (tree_of l) (tree_of r)) z) at (nth_map (plug t) T a.0.0 _ a.0.2)),
  agree_plug t c T l (omega arith) a.1,
  agree_plug t c T r (omega arith) a.2,
)

-- The file's unfolding of each handle; the handles barred, above an open place of an earlier added tree; those above one of the present tree.
module _ (U : ℕ → Unfolded) (B A : ℕ → Type 0) where
  -- A mapped handle is barred, or its whole unfolding agrees, and it is above the present open place or above none.
  abbrev pub MapOK : Cache → List Tree → ℕ → Type 0
  MapOK c T h = B h ⊎ (Agree c T (U h) × ((A h × Open c T) ⊎ (opens (tree_of (U h)) ≡ 0)))

  pub record Cached (c : Cache) (T : List Tree) : Type 0 where
    pub good : Good T c.entries T
    pub maps : (h e : ℕ) → lookup h c.mapped ≡ some e → MapOK c T h

  -- A tree that may be entered.
  abbrev pub Fits : Unfolded → Type 0
  Fits hole = Unit {0}
  Fits (leaf h bs) = Unit {0}
  Fits (node h l r) = (U h ≡ node h l r) × (B h → ⊥) × (A h ⊎ (opens (cons (tree_of l) (tree_of r)) ≡ 0)) × Fits l × Fits r

  pub map_mono : {c c' : Cache} {T T' : List Tree} → Ext c T c' T' → (h : ℕ) → MapOK c T h → MapOK c' T' h
  map_mono {c} {c'} {T} {T'} x h (inl b) = inl b
  map_mono {c} {c'} {T} {T'} x h (inr m) = inr (agree_mono x (U h) m.0, go m.1)
    where
      go : (A h × Open c T) ⊎ (opens (tree_of (U h)) ≡ 0) → (A h × Open c' T') ⊎ (opens (tree_of (U h)) ≡ 0)
      go (inl a) = inl (a.0, x.stays a.1)
      go (inr z) = inr z

  pub record Entered (c : Cache) (T : List Tree) (u : Unfolded) (r : Cache × ℕ) : Type 0 where
    pub trees : List Tree
    pub ext : Ext c T r.0 trees
    pub cached : Cached r.0 trees
    pub stands : nth trees r.1 ≡ some (tree_of u)
    pub agrees : Agree r.0 trees u
    pub opened : (opens (tree_of u) ≡ 0) ⊎ Open r.0 trees

  -- An entry found, or added for the key k and the tree v.
  pub record Found (c : Cache) (T : List Tree) (v : Tree) (r : Cache × ℕ) : Type 0 where
    pub trees : List Tree
    pub ext : Ext c T r.0 trees
    pub cached : Cached r.0 trees
    pub stands : nth trees r.1 ≡ some v

  sub_end : (T : List Tree) (v : Tree) → Sub T (T ++ v ∷ [])
  sub_end T v e w h = nth_append T (v ∷ []) e w h

  -- A new entry at the end.
  new_ext : (c : Cache) (T : List Tree) (k : Key) (n : ℕ) (v : Tree)
      → Ext c T (with_entries (c.entries ++ new_entry k n ∷ []) c) (T ++ v ∷ [])
  new_ext c T k n v = record {
    sub = sub_end T v;
    atoms = λ bs e h. find_append (atom_key bs) c.entries (new_entry k n ∷ []) e h;
    pairs = λ h e q. q;
    stays = λ o. (o.0, o.1, sub_end T v o.0 place o.2);
  }

  new_stands : (c : Cache) (T : List Tree) (v : Tree) → Good T c.entries T → nth (T ++ v ∷ []) (length c.entries) ≡ some v
  new_stands c T v g = rw (good_length T c.entries T g) (nth_end T v)

  new_good : (c : Cache) (T : List Tree) (k : Key) (n : ℕ) (v : Tree) → Good T c.entries T → KeyOK T v k → n ≤ full_size v
      → Good (T ++ v ∷ []) (c.entries ++ new_entry k n ∷ []) (T ++ v ∷ [])
  new_good c T k n v g q le = good_mono T (T ++ v ∷ []) (sub_end T v) (c.entries ++ new_entry k n ∷ []) (T ++ v ∷ []) (good_new T c.entries T k n v g q le)

  -- The tree of a key, where it has but one.
  abbrev KeyTree : List Tree → Key → Tree → Type 0
  KeyTree T k v = (w : Tree) → KeyOK T w k → w ≡ v

  find_or_add_ok : (c : Cache) (T : List Tree) (k : Key) (n : ℕ) (v : Tree) → Cached c T → KeyOK T v k → KeyTree T k v → n ≤ full_size v
      → Found c T v (find_or_add k n c)
  find_or_add_ok c T k n v C q only le = go (find_key k c.entries) refl
    where
      go : (o : Option ℕ) → find_key k c.entries ≡ o → Found c T v (keep_or_add o k n c)
      go (some e) f =
          let g = good_find T k c.entries T e C.good f in
          record { trees = T; ext = ext_refl c T; cached = C; stands = rw (← only g.0 g.2) g.1 }
      go none f = record {
        trees = T ++ v ∷ [];
        ext = new_ext c T k n v;
        cached = record {
          good = new_good c T k n v C.good q le;
          maps = λ h e m. map_mono (new_ext c T k n v) h (C.maps h e m);
        };
        stands = new_stands c T v C.good;
      }

  -- A key that is the same as itself is found once it is there.
  found_key : (c : Cache) (k : Key) (n : ℕ) → same_key k k ≡ true → (o : Option ℕ) → find_key k c.entries ≡ o
      → find_key k (keep_or_add o k n c).0.entries ≡ some (keep_or_add o k n c).1
  found_key c k n s (some e) f = f
  found_key c k n s none f = find_end k c.entries (new_entry k n) f s

  enter_leaf : (c : Cache) (T : List Tree) (h : ℕ) (bs : List ℕ) → Cached c T → Entered c T (leaf h bs) (find_or_add (atom_key bs) (serialized_length bs) c)
  enter_leaf c T h bs C =
      let F = find_or_add_ok c T (atom_key bs) (serialized_length bs) (atom bs) C refl (λ w q. q) (omega arith) in
      record {
        trees = F.trees;
        ext = F.ext;
        cached = F.cached;
        stands = F.stands;
        agrees = (_, found_key c (atom_key bs) (serialized_length bs) (same_refl bs) (find_key (atom_key bs) c.entries) refl, F.stands);
        opened = inl refl;
      }

  hole_ext : (c : Cache) (T : List Tree) → Good T c.entries T → Ext c T (meet_sentinel c).0 (T ++ place ∷ [])
  hole_ext c T g = record {
    sub = sub_end T place;
    atoms = λ bs e h. find_append (atom_key bs) c.entries (new_entry sentinel_key 0 ∷ []) e h;
    pairs = λ h e q. q;
    stays = λ o. (length c.entries, refl, new_stands c T place g);
  }

  enter_hole : (c : Cache) (T : List Tree) → Cached c T → Entered c T hole (meet_sentinel c)
  enter_hole c T C = record {
    trees = T ++ place ∷ [];
    ext = hole_ext c T C.good;
    cached = record {
      good = new_good c T sentinel_key 0 place C.good tt (omega arith);
      maps = λ h e m. map_mono (hole_ext c T C.good) h (C.maps h e m);
    };
    stands = new_stands c T place C.good;
    agrees = tt;
    opened = inr (length c.entries, refl, new_stands c T place C.good);
  }

  link_ext : (h a b : ℕ) (f : Cache × ℕ) (T : List Tree) → Ext f.0 T (link_pair h a b f).0 T
  link_ext h a b f T = record {
    sub = λ e v q. q;
    atoms = λ bs e q. rw (find_adjust (atom_key bs) b, find_adjust (atom_key bs) a) q;
    pairs = λ h' e q. lookup_append h' f.0.mapped ((h, f.1) ∷ []) e q;
    stays = λ o. o;
  }

  -- The pair's handle is found: it is new, or was met below, where it agrees already.
  link_at : (h a b : ℕ) (f : Cache × ℕ) (T : List Tree) (l r : Unfolded) → Cached f.0 T → Fits (node h l r)
      → nth T f.1 ≡ some (cons (tree_of l) (tree_of r)) → PairAt (link_pair h a b f).0 T h (cons (tree_of l) (tree_of r))
  link_at h a b f T l r C fit s = go (lookup h f.0.mapped) refl
    where
      old : (e : ℕ) → lookup h f.0.mapped ≡ some e → MapOK f.0 T h → PairAt (link_pair h a b f).0 T h (cons (tree_of l) (tree_of r))
      old e q (inl bad) = absurd (fit.1 bad)
      old e q (inr m) =
          let g : Agree f.0 T (node h l r) = rw fit.0 at m.0 in
          pair_mono (link_ext h a b f T) h (cons (tree_of l) (tree_of r)) g.0

      go : (o : Option ℕ) → lookup h f.0.mapped ≡ o → PairAt (link_pair h a b f).0 T h (cons (tree_of l) (tree_of r))
      go none q = (f.1, lookup_new h f.0.mapped f.1 q, s)
      go (some e) q = old e q (C.maps h e q)

  link_good : (h a b : ℕ) (f : Cache × ℕ) (T : List Tree) (l r : Tree) → Good T f.0.entries T
      → nth T a ≡ some l → nth T b ≡ some r → nth T f.1 ≡ some (cons l r) → Good T (link_pair h a b f).0.entries T
  link_good h a b f T l r g sa sb s =
      good_adjust T b (add_parent f.1 true) (adjust a (add_parent f.1 false) f.0.entries) T r
      (good_adjust T a (add_parent f.1 false) f.0.entries T l g sa (λ ps k. links_add T l f.1 false ps k (l, r, s, refl)))
      sb (λ ps k. links_add T r f.1 true ps k (l, r, s, refl))

  link_cached : (h a b : ℕ) (f : Cache × ℕ) (T : List Tree) (l r : Unfolded) → Cached f.0 T → Fits (node h l r)
      → nth T a ≡ some (tree_of l) → nth T b ≡ some (tree_of r) → nth T f.1 ≡ some (cons (tree_of l) (tree_of r))
      → Agree f.0 T l → Agree f.0 T r → (opens (cons (tree_of l) (tree_of r)) ≡ 0) ⊎ Open f.0 T
      → Cached (link_pair h a b f).0 T
  link_cached h a b f T l r C fit sa sb s al ar op = record {
    good = link_good h a b f T (tree_of l) (tree_of r) C.good sa sb s;
    maps = λ h' e q. case h' e (lookup_end h' f.0.mapped (h, f.1) e q);
  }
    where
      x : Ext f.0 T (link_pair h a b f).0 T
      x = link_ext h a b f T

      here : (opens (cons (tree_of l) (tree_of r)) ≡ 0) ⊎ Open f.0 T → A h ⊎ (opens (cons (tree_of l) (tree_of r)) ≡ 0)
          → (A h × Open (link_pair h a b f).0 T) ⊎ (opens (tree_of (node h l r)) ≡ 0)
      here (inl z) m = inr z
      here (inr o) (inl m) = inl (m, x.stays o)
      here (inr o) (inr z) = inr z

      mine : MapOK (link_pair h a b f).0 T h
      mine = inr (rw fit.0 ((link_at h a b f T l r C fit s, agree_mono x l al, agree_mono x r ar), here op fit.2))

      case : (h' e : ℕ) → (lookup h' f.0.mapped ≡ some e) ⊎ (h' ≡ h) → MapOK (link_pair h a b f).0 T h'
      case h' e (inl q) = map_mono x h' (C.maps h' e q)
      case h' e (inr q) = rw q mine

  pair_only : (T : List Tree) (a b : ℕ) (l r : Tree) → nth T a ≡ some l → nth T b ≡ some r → KeyTree T (pair_key a b) (cons l r)
  pair_only T a b l r sa sb w q =
      let p : some l ≡ some q.0 = sym sa ∙ q.2 in
      let s : some r ≡ some q.1 = sym sb ∙ q.3 in
      let e : w ≡ cons q.0 q.1 = q.4 in
      cc

  either : {c₁ c₂ c₃ : Cache} {T₁ T₂ T₃ : List Tree} (l r : Tree) → Ext c₁ T₁ c₂ T₂ → Ext c₂ T₂ c₃ T₃
      → (opens l ≡ 0) ⊎ Open c₁ T₁ → (opens r ≡ 0) ⊎ Open c₂ T₂ → (opens (cons l r) ≡ 0) ⊎ Open c₃ T₃
  either l r x y (inl p) (inl q) = inl (omega arith)
  either l r x y (inl p) (inr o) = inr (y.stays o)
  either l r x y (inr o) (inl q) = inr (y.stays (x.stays o))
  either l r x y (inr o) (inr m) = inr (y.stays m)

  pair_size : (a b : ℕ) (l r : Tree) → a ≤ full_size l → b ≤ full_size r → pair_length a b ≤ full_size (cons l r)
  pair_size zero b l r p q = omega arith
  pair_size (suc a) zero l r p q = omega arith
  pair_size (suc a) (suc b) l r p q = omega arith

  enter_new : (c : Cache) (T : List Tree) (h : ℕ) (l r : Unfolded) (rl rr : Cache × ℕ) → Fits (node h l r)
      → (L : Entered c T l rl) → Entered rl.0 L.trees r rr → Entered c T (node h l r) (join_pair h rl.1 rr)
  enter_new c T h l r rl rr fit L R =
      let a = rl.1 in
      let b = rr.1 in
      let n : ℕ = pair_length (length_at a rr.0.entries) (length_at b rr.0.entries) in
      let v : Tree = cons (tree_of l) (tree_of r) in
      let sa : nth R.trees a ≡ some (tree_of l) = R.ext.sub a (tree_of l) L.stands in
      let F : Found rr.0 R.trees v (find_or_add (pair_key a b) n rr.0) =
      find_or_add_ok rr.0 R.trees (pair_key a b) n v R.cached (tree_of l, tree_of r, sa, R.stands, refl)
      (pair_only R.trees a b (tree_of l) (tree_of r) sa R.stands)
      (pair_size (length_at a rr.0.entries) (length_at b rr.0.entries) (tree_of l) (tree_of r)
      (good_len R.trees a rr.0.entries R.trees (tree_of l) R.cached.good sa)
      (good_len R.trees b rr.0.entries R.trees (tree_of r) R.cached.good R.stands)) in
      after F sa
    where
      after : Found rr.0 R.trees (cons (tree_of l) (tree_of r))
          (find_or_add (pair_key rl.1 rr.1) (pair_length (length_at rl.1 rr.0.entries) (length_at rr.1 rr.0.entries)) rr.0)
          → nth R.trees rl.1 ≡ some (tree_of l) → Entered c T (node h l r) (join_pair h rl.1 rr)
      after F sa =
          let f : Cache × ℕ = find_or_add (pair_key rl.1 rr.1) (pair_length (length_at rl.1 rr.0.entries) (length_at rr.1 rr.0.entries)) rr.0 in
          let x : Ext f.0 F.trees (link_pair h rl.1 rr.1 f).0 F.trees = link_ext h rl.1 rr.1 f F.trees in
          let al : Agree f.0 F.trees l = agree_mono (ext_trans R.ext F.ext) l L.agrees in
          let ar : Agree f.0 F.trees r = agree_mono F.ext r R.agrees in
          let op : (opens (cons (tree_of l) (tree_of r)) ≡ 0) ⊎ Open f.0 F.trees = either (tree_of l) (tree_of r) R.ext F.ext L.opened R.opened in
          record {
            trees = F.trees;
            ext = ext_trans L.ext (ext_trans R.ext (ext_trans F.ext x));
            cached =
                link_cached h rl.1 rr.1 f F.trees l r F.cached fit
                (F.ext.sub rl.1 (tree_of l) sa) (F.ext.sub rr.1 (tree_of r) R.stands) F.stands al ar op;
            stands = F.stands;
            agrees = (link_at h rl.1 rr.1 f F.trees l r F.cached fit F.stands, agree_mono x l al, agree_mono x r ar);
            opened = op;
          }

  enter_known : (c : Cache) (T : List Tree) (h : ℕ) (l r : Unfolded) (new : Cache × ℕ) → Cached c T → Fits (node h l r)
      → (o : Option ℕ) → lookup h c.mapped ≡ o → Entered c T (node h l r) new → Entered c T (node h l r) (known_or o c new)
  enter_known c T h l r new C fit none q N = N
  enter_known c T h l r new C fit (some e) q N = go (C.maps h e q)
    where
      opening : (A h × Open c T) ⊎ (opens (tree_of (U h)) ≡ 0) → (opens (cons (tree_of l) (tree_of r)) ≡ 0) ⊎ Open c T
      opening (inl a) = inr a.1
      opening (inr z) = inl (rw fit.0 at z)

      go : MapOK c T h → Entered c T (node h l r) (c, e)
      go (inl bad) = absurd (fit.1 bad)
      go (inr m) =
          let g : Agree c T (node h l r) = rw fit.0 at m.0 in
          let w : some e ≡ some g.0.0 = sym q ∙ g.0.1 in
          let alike : e ≡ g.0.0 = cc in
          record { trees = T; ext = ext_refl c T; cached = C; stands = rw alike g.0.2; agrees = g; opened = opening m.1 }

  pub enter_ok : (u : Unfolded) (c : Cache) (T : List Tree) → Cached c T → Fits u → Entered c T u (enter u c)
  unfolding enter
  enter_ok hole c T C fit = enter_hole c T C
  enter_ok (leaf h bs) c T C fit = enter_leaf c T h bs C
  enter_ok (node h l r) c T C fit =
      let L = enter_ok l c T C fit.3 in
      enter_known c T h l r (join_pair h (enter l c).1 (enter r (enter l c).0)) C fit (lookup h c.mapped) refl
      (enter_new c T h l r (enter l c) (enter r (enter l c).0) fit L (enter_ok r (enter l c).0 L.trees L.cached fit.4))

  pub adjust_ext : (e : ℕ) (f : List Parent → List Parent) (c : Cache) (T : List Tree) → Ext c T (with_entries (adjust e f c.entries) c) T
  adjust_ext e f c T = record {
    sub = λ i v q. q;
    atoms = λ bs i q. rw (find_adjust (atom_key bs) e) q;
    pairs = λ h i q. q;
    stays = λ o. o;
  }

  pub adjust_cached : (e : ℕ) (f : List Parent → List Parent) (c : Cache) (T : List Tree) (v : Tree) → Cached c T → nth T e ≡ some v
      → ((ps : List Parent) → LinksOK T v ps → LinksOK T v (f ps)) → Cached (with_entries (adjust e f c.entries) c) T
  adjust_cached e f c T v C s k = record {
    good = good_adjust T e f c.entries T v C.good s k;
    maps = λ h i q. map_mono (adjust_ext e f c T) h (C.maps h i q);
  }

-- ## An add: the tree is plugged in everywhere, and entered

module _ (U : ℕ → Unfolded) (B A A' : ℕ → Type 0) where
  abbrev pub Barred : ℕ → Type 0
  Barred h = B h ⊎ A h

  pub plug_cached : (t : Tree) (c : Cache) (T : List Tree) → Cached U B A c T → Cached U Barred A' c (map (plug t) T)
  plug_cached t c T C = record {
    good = good_plug t T c.entries T C.good;
    maps = λ h e q. go h (C.maps h e q);
  }
    where
      rest : (h : ℕ) → Agree c T (U h) → (A h × Open c T) ⊎ (opens (tree_of (U h)) ≡ 0) → MapOK U Barred A' c (map (plug t) T) h
      rest h a (inl m) = inl (inr m.0)
      rest h a (inr z) = inr (agree_plug t c T (U h) z a, inr z)

      go : (h : ℕ) → MapOK U B A c T h → MapOK U Barred A' c (map (plug t) T) h
      go h (inl b) = inl (inl b)
      go h (inr m) = rest h m.0 m.1

  -- No sentinel was met yet, or the latest one is the open place.
  abbrev pub Awaits : Cache → List Tree → Type 0
  Awaits c T = (c.sentinel_entry ≡ none) ⊎ Open c T

  pub record Updated (c : Cache) (T : List Tree) (t : Unfolded) (c' : Cache) : Type 0 where
    pub trees : List Tree
    pub ext : Ext c (map (plug (tree_of t)) T) c' trees
    pub cached : Cached U Barred A' c' trees
    pub agrees : Agree c' trees t
    pub opened : (opens (tree_of t) ≡ 0) ⊎ Open c' trees

  -- The sentinel entry's parents are taken away; they are parents of the tree that comes.
  clear_ext : (o : Option ℕ) (c : Cache) (T : List Tree) → Ext c T (with_entries (clear_sentinel o c.entries) c) T
  clear_ext none c T = ext_refl c T
  clear_ext (some s) c T = adjust_ext U Barred A' s no_parents c T

  clear_cached : (o : Option ℕ) (c : Cache) (T : List Tree) (v : Tree) → ((s : ℕ) → o ≡ some s → nth T s ≡ some v)
      → Cached U Barred A' c T → Cached U Barred A' (with_entries (clear_sentinel o c.entries) c) T
  clear_cached none c T v at-s C = C
  clear_cached (some s) c T v at-s C = adjust_cached U Barred A' s no_parents c T v C (at-s s refl) (λ ps k. tt)

  moved_links : (o : Option ℕ) (c : Cache) (T : List Tree) (v : Tree) → ((s : ℕ) → o ≡ some s → nth T s ≡ some v)
      → Good T c.entries T → LinksOK T v (sentinel_parents o c.entries)
  moved_links none c T v at-s g = tt
  moved_links (some s) c T v at-s g = good_parents T s c.entries T v g (at-s s refl)

  pub update_ok : (t : Unfolded) (c : Cache) (T : List Tree) → Cached U B A c T → Awaits c T → Fits U Barred A' t
      → Updated c T t (update t c)
  unfolding update
  update_ok t c T C w fit =
      let o = c.sentinel_entry in
      let T₁ : List Tree = map (plug (tree_of t)) T in
      let C₁ : Cached U Barred A' c T₁ = plug_cached (tree_of t) c T C in
      let c₁ : Cache = with_entries (clear_sentinel o c.entries) c in
      let moved : List Parent = sentinel_parents o c.entries in
      let E : Entered U Barred A' c₁ T₁ t (enter t c₁) =
      enter_ok U Barred A' t c₁ T₁ (clear_cached o c T₁ (tree_of t) (stood w) C₁) fit in
      let links : LinksOK E.trees (tree_of t) moved =
      links_mono T₁ E.trees E.ext.sub (tree_of t) moved (moved_links o c T₁ (tree_of t) (stood w) C₁.good) in
      let x : Ext (enter t c₁).0 E.trees (place_root moved (enter t c₁)) E.trees =
      adjust_ext U Barred A' (enter t c₁).1 (move_parents moved) (enter t c₁).0 E.trees in
      record {
        trees = E.trees;
        ext = ext_trans (clear_ext o c T₁) (ext_trans E.ext x);
        cached =
            adjust_cached U Barred A' (enter t c₁).1 (move_parents moved) (enter t c₁).0 E.trees (tree_of t) E.cached E.stands
            (λ ps k. links_move E.trees (tree_of t) moved ps links k);
        agrees = agree_mono x t E.agrees;
        opened = E.opened;
      }
    where
      stood : Awaits c T → (s : ℕ) → c.sentinel_entry ≡ some s → nth (map (plug (tree_of t)) T) s ≡ some (tree_of t)
      stood (inl q) s e = cc
      stood (inr p) s e =
          let d : some p.0 ≡ some s = sym p.1 ∙ e in
          let alike : s ≡ p.0 = cc in
          rw alike (nth_map (plug (tree_of t)) T p.0 place p.2)
