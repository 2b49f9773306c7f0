-- The reader makes whole trees only.
use Rattle.std.specs.Prelude.{◌≡◌, refl, List, [], ◌∷◌, Bool, true, false, ◌+◌}
use Rattle.std.proofs.Common.{ap, ◌∙◌, arith}
use Rattle.std.proofs.Math.Option.{Option, none, some, bind}
use Rattle.words.specs.Choice.{clash}
use Rattle.spec_reading.specs.Tree.{Tree, place, atom, cons, pick, follow, as_list}
use Rattle.spec_session.specs.Premises.{opens}
use Rattle.spec_session.specs.Items.{cons_item, atom_item, reference_item, Item, Op, want, make, Reading, collapse, step_read, feed, whole, read_items}
use Rattle.spec_session.proofs.ReadBack.{sum_opens}

pick_closed : (b : Bool) (l r : Tree) → opens (cons l r) ≡ 0 → opens (pick b l r) ≡ 0
pick_closed false l r z = omega arith
pick_closed true l r z = omega arith

follow_closed : (path : List Bool) (p v : Tree) → opens p ≡ 0 → follow path p ≡ some v → opens v ≡ 0
follow_closed [] p v z e = let alike : p ≡ v = cc in rw alike at z
follow_closed (b ∷ path) place v z e = clash cc
follow_closed (b ∷ path) (atom bs) v z e = clash cc
follow_closed (b ∷ path) (cons l r) v z e = follow_closed path (pick b l r) v (pick_closed b l r z) e

list_opens : (vs : List Tree) → opens (as_list vs) ≡ sum_opens vs
list_opens [] = refl
list_opens (v ∷ vs) = ap (λ n. opens v + n) (list_opens vs)

collapse_closed : (k : List Op) (vs : List Tree) → sum_opens vs ≡ 0 → sum_opens (collapse k vs).1 ≡ 0
collapse_closed [] vs z = z
collapse_closed (want ∷ k) vs z = z
collapse_closed (make ∷ k) [] z = z
collapse_closed (make ∷ k) (b ∷ []) z = z
collapse_closed (make ∷ k) (b ∷ a ∷ vs) z = collapse_closed k (cons a b ∷ vs) (omega arith)

-- Each value of a reading is whole.
abbrev Clear : Option Reading → Type 0
Clear none = Unit {0}
Clear (some r) = sum_opens r.1 ≡ 0

step_closed : (i : Item) (k : List Op) (vs : List Tree) → sum_opens vs ≡ 0 → Clear (step_read i k vs)
unfolding bind
step_closed i [] vs z = tt
step_closed i (make ∷ k) vs z = tt
step_closed cons_item (want ∷ k) vs z = z
step_closed (atom_item bs) (want ∷ k) vs z = collapse_closed k (atom bs ∷ vs) (omega arith)
step_closed (reference_item path) (want ∷ k) vs z = go (follow path (as_list vs)) refl
  where
    go : (o : Option Tree) → follow path (as_list vs) ≡ o → Clear (bind o (λ v. some (collapse k (v ∷ vs))))
    go none e = tt
    go (some v) e = collapse_closed k (v ∷ vs) (omega (arith, follow_closed path (as_list vs) v (list_opens vs ∙ z) e))

feed_closed : (is : List Item) (r : Reading) → sum_opens r.1 ≡ 0 → Clear (feed is r)
unfolding bind
feed_closed [] r z = z
feed_closed (i ∷ is) r z = go (step_read i r.0 r.1) (step_closed i r.0 r.1 z) (feed_closed is)
  where
    go : (o : Option Reading) → Clear o → ((q : Reading) → sum_opens q.1 ≡ 0 → Clear (feed is q)) → Clear (bind o (feed is))
    go none c ih = tt
    go (some q) c ih = ih q c

pub read_closed : (is : List Item) (v : Tree) → read_items is ≡ some v → opens v ≡ 0
unfolding bind
read_closed is v e = go (feed is (want ∷ [], [])) (feed_closed is (want ∷ [], []) refl) e
  where
    last : (k : List Op) (vs : List Tree) → sum_opens vs ≡ 0 → whole k vs ≡ some v → opens v ≡ 0
    last (o ∷ k) vs z e = clash cc
    last [] [] z e = clash cc
    last [] (u ∷ []) z e = let alike : u ≡ v = cc in omega (arith, ap opens alike)
    last [] (u ∷ a ∷ vs) z e = clash cc

    go : (o : Option Reading) → Clear o → bind o (λ r. whole r.0 r.1) ≡ some v → opens v ≡ 0
    go none c e = clash cc
    go (some r) c e = last r.0 r.1 c e
