-- The search is sound: the path that it gives leads a reader from its stack to the entry's tree.
-- Assumes nothing.
use Prim.Native.Nat.{ℕ, suc, ◌+◌, ◌-◌, ◌*◌, ◌≤◌, ◌<◌}
use Rattle.std.specs.Prelude.{◌≡◌, Bool, cond, length, drop, get_or, eqb}
use Rattle.std.proofs.Math.Path.{refl, subst}
use Rattle.std.proofs.Common.{ap, drop-cons, eqb-true}
use Rattle.std.proofs.Math.Bool.{true, false}
use mathlib.Core.List.{List, [], ◌∷◌, ◌++◌, map}
use Rattle.std.proofs.Math.Option
use Rattle.std.proofs.Math.Option.{Option, none, some}
use native.Mathlib.Omega.{arith}
use Rattle.spec_reading.specs.Tree.{Tree, cons, pick, follow, as_list}
use Rattle.spec_search.specs.Search.{Trail, at_entry, at_stack, Parents, distance, step, search, most_visits}
use Rattle.words.specs.Lists.{All, all_each, all_map}
use Rattle.spec_search.specs.Lists.{size}
use Rattle.spec_search.proofs.Induction.{StepOK, Steps, step_ok, search_ok}

-- In the trees of the entries, the entry p is a pair that holds the entry x at the position b.
pub record Holds (T : ℕ → Tree) (x p : ℕ) (b : Bool) : Type 0 where
  pub first : Tree
  pub rest : Tree
  pub pair : T p ≡ cons first rest
  pub child : pick b first rest ≡ T x

-- Every parent that is listed for an entry holds it.
abbrev pub Linked : (ℕ → Tree) → Parents → Type 0
Linked T parents = (x : ℕ) → All (λ (q : ℕ × Bool). Holds T x q.0 q.1) (parents x)

-- The bits, the latest first, are the steps from the tree t to the tree u, and last the terminator.
pub record Leads (bits : List Bool) (t u : Tree) : Type 0 where
  pub steps : List Bool
  pub ends : bits ≡ steps ++ (true ∷ [])
  pub arrives : follow steps t ≡ some u

-- The reader's stack, from a distance on, as a list.
abbrev pub from : (ℕ → Tree) → List ℕ → ℕ → Tree
from T stack d = as_list (map T (drop d stack))

-- One step more in front.
leads_step : (b : Bool) (bits : List Bool) (l r u : Tree) → Leads bits (pick b l r) u → Leads (b ∷ bits) (cons l r) u
leads_step b bits l r u h = record { steps = b ∷ h.steps; ends = ap (λ (x : List Bool). b ∷ x) h.ends; arrives = h.arrives }

leads_up : (T : ℕ → Tree) (x p : ℕ) (b : Bool) (bits : List Bool) (u : Tree) → Holds T x p b → Leads bits (T x) u → Leads (b ∷ bits) (T p) u
leads_up T x p b bits u k h =
    rw k.pair (leads_step b bits k.first k.rest u (rw k.child h))

-- ---- where an entry is on the stack

module _ (x : ℕ) where
  Found : List ℕ → Option ℕ → Type 0
  Found stack none = Unit {0}
  Found stack (some d) = (d < length stack) × (drop d stack ≡ x ∷ drop (suc d) stack)

  found_next : (y : ℕ) (ys : List ℕ) (o : Option ℕ) → Found ys o → Found (y ∷ ys) (Option.map suc o)
  unfolding Found
  found_next y ys none h = tt
  found_next y ys (some d) h = (omega arith, h.1)

  found_cons : (y : ℕ) (ys : List ℕ) (c : Bool) → eqb x y ≡ c → (o : Option ℕ) → Found ys o → Found (y ∷ ys) (cond c (some 0) (Option.map suc o))
  unfolding Found
  found_cons y ys true e o h = (omega arith, rw (eqb-true x y e) refl)
  found_cons y ys false e o h = found_next y ys o h

  found_distance : (stack : List ℕ) → Found stack (distance x stack)
  unfolding Found
  found_distance [] = tt
  found_distance (y ∷ ys) = found_cons y ys (eqb x y) refl (distance x ys) (found_distance ys)

-- ---- every path of the list leads to the tree

module _ (T : ℕ → Tree) (parents : Parents) (stack : List ℕ) (e : ℕ) where
  -- A path at an entry leads, with its position bit, from the entry's tree to e's; a path on the stack leads there from the part of the list at its distance.
  unfoldable pub Good : Trail → Type 0
  Good (at_entry bits x pos) = Leads (pos ∷ bits) (T x) (T e)
  Good (at_stack bits d) = Leads bits (from T stack d) (T e) × (d < length stack)

  abbrev pub Reaches : List Bool → Type 0
  Reaches bits = Leads bits (as_list (map T stack)) (T e)

  module _ (linked : Linked T parents) where
    good_steps : Steps parents stack (λ seen. Good) (λ seen. Good) Reaches
    unfolding Good Found
    good_steps =
        record {
          arrives = λ seen bits h. h.0;
          nearer = λ seen bits d h.
              (rw (drop-cons stack d 0 (omega arith)) (leads_step true bits (T (get_or stack d 0)) (from T stack (suc d)) (T e) h.0), omega arith);
          upwards = λ seen bits x pos l h.
              all_map (λ (q : ℕ × Bool). Holds T x q.0 q.1) (λ (q : ℕ × Bool). Good (at_entry (pos ∷ bits) q.0 q.1))
              (λ q k. leads_up T x q.0 q.1 (pos ∷ bits) (T e) k h) (parents x) (linked x);
          sidewards = λ seen bits x pos l h d k.
              let f = subst (Found x stack) k (found_distance x stack) in
              (rw f.1 (leads_step false (pos ∷ bits) (T x) (from T stack (suc d)) (T e) h), f.0);
          later = λ seen x l q h. h;
        }

    leads : (len : ℕ) (bits : List Bool) → search parents stack len e ≡ some bits → Reaches bits
    unfolding Good
    leads len bits q =
        search_ok (λ seen. Good) Reaches parents stack len e bits
        (λ L l seen p s h. step_ok parents stack (λ seen. Good) (λ seen. Good) Reaches good_steps seen p h)
        (record { steps = []; ends = refl; arrives = refl }) q

-- ---- how many bits the result has

module _ (parents : Parents) (stack : List ℕ) where
  -- The bits of a path at an entry were taken at as many visits. On the stack it takes one more, and one for each entry above.
  unfoldable pub Small : List ℕ → Trail → Type 0
  Small seen (at_entry bits x pos) = (length bits ≤ length seen) × (length seen ≤ most_visits)
  Small seen (at_stack bits d) = (length bits + d ≤ length seen + length stack) × (length seen ≤ most_visits)

  abbrev pub Few : List Bool → Type 0
  Few bits = length bits ≤ most_visits + length stack

  small_later : (seen : List ℕ) (x : ℕ) → length seen < most_visits → (q : Trail) → Small seen q → Small (x ∷ seen) q
  unfolding Small
  small_later seen x h (at_entry bits y pos) k = omega arith
  small_later seen x h (at_stack bits d) k = omega arith

  small_steps : Steps parents stack Small Small Few
  unfolding Small Found
  small_steps =
      record {
        arrives = λ seen bits h. omega arith;
        nearer = λ seen bits d h. omega arith;
        upwards = λ seen bits x pos l h. all_each (λ (q : ℕ × Bool). Small (x ∷ seen) (at_entry (pos ∷ bits) q.0 q.1)) (λ q. omega arith) (parents x);
        sidewards = λ seen bits x pos l h d k. let f = subst (Found x stack) k (found_distance x stack) in omega arith;
        later = small_later;
      }

  pub small_step : (seen : List ℕ) (p : Trail) → Small seen p → StepOK Small Few seen (step parents stack seen p)
  small_step = step_ok parents stack Small Small Few small_steps

  pub few : (len e : ℕ) (bits : List Bool) → search parents stack len e ≡ some bits → Few bits
  unfolding Small
  few len e bits q = search_ok Small Few parents stack len e bits (λ L l seen p s h. small_step seen p h) (omega arith) q

  -- ---- a result of pass L has L bits

  abbrev Any : List ℕ → Trail → Type 0
  Any seen p = Unit {0}

  module _ (top : ℕ) where
    abbrev Within : List Bool → Type 0
    Within bits = length bits ≤ top

    within_steps : Steps parents stack (λ seen p. size p ≤ top) Any Within
    within_steps =
        record {
          arrives = λ seen bits h. h;
          nearer = λ seen bits d h. tt;
          upwards = λ seen bits x pos l h. all_each (λ (q : ℕ × Bool). Unit {0}) (λ q. tt) (parents x);
          sidewards = λ seen bits x pos l h d k. tt;
          later = λ seen x l q h. tt;
        }

  within : (len e : ℕ) (bits : List Bool) → search parents stack len e ≡ some bits → length bits ≤ 8 * (len - 1)
  within len e bits q =
      search_ok Any (Within (8 * (len - 1))) parents stack len e bits
      (λ L l seen p s h. step_ok parents stack (λ seen p. size p ≤ 8 * (len - 1)) Any (Within (8 * (len - 1))) (within_steps (8 * (len - 1))) seen p (omega arith)) tt q

-- What the result of a search is.
pub record Sound (T : ℕ → Tree) (stack : List ℕ) (len e : ℕ) (bits : List Bool) : Type 0 where
  -- the bits, the latest first, are the steps from the reader's stack, as a list, to the entry's tree, and last the terminator
  pub leads_there : Leads bits (as_list (map T stack)) (T e)
  pub at_most : length bits ≤ 1024 + length stack
  pub in_limit : length bits ≤ 8 * (len - 1)

-- THE THEOREM.
pub search_sound : (T : ℕ → Tree) (parents : Parents) (stack : List ℕ) (len e : ℕ) (bits : List Bool) → Linked T parents
    → search parents stack len e ≡ some bits → Sound T stack len e bits
search_sound T parents stack len e bits linked q =
    record { leads_there = leads T parents stack e linked len bits q; at_most = few parents stack len e bits q; in_limit = within parents stack len e bits q }
