-- A path that `find_in` gives leads to the entry's tree, and as an item takes at most the entry's length, with any measure that never counts less than the
-- path's atom takes; `Covering.antt` has that of both.
-- Assumes nothing.
use Rattle.std.specs.Prelude.{ℕ, suc, ◌≤◌, ◌<◌, ◌≡◌, refl, Bool, true, false, cond, List, [], ◌∷◌, ◌++◌, map, eqb, ltb, length}
use Rattle.std.proofs.Common.{sym, ap, ◌∙◌, subst, arith}
use Rattle.std.proofs.Math.Option
use Rattle.std.proofs.Math.Option.{Option, none, some, none-ne-some, some-injective}
use Rattle.words.specs.Lists.{All}
use Rattle.allocator.specs.Handle.{nil, handle_of}
use Rattle.spec_reading.specs.Tree.{Tree, follow, as_list}
use Rattle.atom.specs.Write.{serialized_length}
use Rattle.path.specs.Bytes.{path_bytes}
use Rattle.spec_search.specs.Search.{member, search, used}
use Rattle.spec_search.proofs.Used.{used_some}
use Rattle.spec_search.proofs.Sound.{Holds, few, search_sound}
use Rattle.spec_session.specs.Cache.{Parent, Cache, parents_at, length_at}
use Rattle.spec_session.specs.Trees.{nth}
use Rattle.spec_session.proofs.Lock.{Linked, Sound, Short}
use Rattle.spec_session.proofs.Kept.{Near}
use Rattle.spec_session.specs.FindPath.{without_terminator, parents_in, find_in}

-- ---- what a path found says

pub then_some : {A : Type 0} (b : Bool) (x : Option A) (v : A) → cond b x none ≡ some v → (b ≡ true) × (x ≡ some v)
then_some true x v e = (refl, e)
then_some false x v e = absurd (none-ne-some v e)

pub else_some : {A : Type 0} (b : Bool) (x : Option A) (v : A) → cond b none x ≡ some v → (b ≡ false) × (x ≡ some v)
else_some true x v e = absurd (none-ne-some v e)
else_some false x v e = (refl, e)

pub without_end : (s : List Bool) → without_terminator (s ++ true ∷ []) ≡ s
without_end [] = refl
without_end (b ∷ []) = refl
without_end (b ∷ c ∷ s) = ap (λ (x : List Bool). b ∷ x) (without_end (c ∷ s))

without_length : (bits : List Bool) → length (without_terminator bits) ≤ length bits
without_length [] = omega arith
without_length (b ∷ []) = omega arith
without_length (b ∷ c ∷ bits) = omega (arith, without_length (c ∷ bits))

all_nth : (P : Parent → Type 0) (ps : List Parent) → ((i : ℕ) (p : Parent) → nth ps i ≡ some p → P p) → All P ps
all_nth P [] f = tt
all_nth P (p ∷ ps) f = (f 0 p refl, all_nth P ps (λ i q e. f (suc i) q e))

-- A measure that never counts less than the path's atom takes.
abbrev pub Covers : (List Bool → ℕ) → Type 0
Covers measure = (s : List Bool) → serialized_length (path_bytes (s ++ true ∷ [])) ≤ measure (s ++ true ∷ [])

module _ (measure : List Bool → ℕ) where
  -- A path that is written, as the search gave it.
  pub record Written (len : ℕ) (o : Option (List Bool)) (path : List Bool) : Type 0 where
    pub bits : List Bool
    pub given : o ≡ some bits
    pub shorter : measure bits < len
    pub steps : without_terminator bits ≡ path

  pub written : (len : ℕ) (o : Option (List Bool)) (path : List Bool) → Option.map without_terminator (used measure len o) ≡ some path → Written len o path
  written len o path e = go (used measure len o) refl e
    where
      go : (u : Option (List Bool)) → used measure len o ≡ u → Option.map without_terminator u ≡ some path → Written len o path
      go none t q = absurd (none-ne-some path q)
      go (some bits) t q =
          let u = used_some measure len o bits t in
          record { bits = bits; given = u.given; shorter = u.shorter; steps = some-injective (without_terminator bits) path q }

  module _ (c : Cache) (marked stack : List ℕ) (h e : ℕ) (path : List Bool) (q : find_in measure c marked stack h e ≡ some path) where
    abbrev len : ℕ
    len = length_at e c.entries

    found : Written len (search (parents_in c) stack len e) path
    unfolding find_in
    found =
        let result = Option.map without_terminator (used measure len (search (parents_in c) stack len e)) in
        let named = else_some (eqb h (handle_of nil)) (cond (member e marked) (cond (ltb len 4) none result) none) path q in
        let marks = then_some (member e marked) (cond (ltb len 4) none result) path named.1 in
        written len (search (parents_in c) stack len e) path (else_some (ltb len 4) result path marks.1).1

    module _ (tr : ℕ → Tree) (linked : Linked c.entries tr) where
      record Path : Type 0 where
        ends : found.bits ≡ path ++ true ∷ []
        leads : follow path (as_list (map tr stack)) ≡ some (tr e)

      the_path : Path
      the_path =
          let s =
          (search_sound tr (parents_in c) stack len e found.bits
          (λ x. all_nth (λ p. Holds tr x p.0 p.1) (parents_at x c.entries) (λ i p n. let k = linked x i p n in record { first = k.0; rest = k.1; pair = k.2; child = k.3 }))
          found.given).leads_there in
          let same : s.steps ≡ path = sym (without_end s.steps) ∙ ap without_terminator (sym s.ends) ∙ found.steps in
          record { ends = s.ends ∙ ap (λ (x : List Bool). x ++ true ∷ []) same; leads = subst (λ x. follow x (as_list (map tr stack)) ≡ some (tr e)) same s.arrives }

  pub find_sound : Sound (find_in measure)
  find_sound c marked stack h e path tr linked q = (the_path c marked stack h e path q tr linked).leads

  pub find_short : Covers measure → Short (find_in measure)
  find_short covers c marked stack h e path tr linked q =
      let f = found c marked stack h e path q in
      let p = the_path c marked stack h e path q tr linked in
      let m : measure f.bits ≡ measure (path ++ true ∷ []) = ap measure p.ends in
      omega (arith, f.shorter, covers path, m)

  -- It has at most 1,024 bits and one for each value of the stack.
  pub find_near : Near (find_in measure)
  find_near c marked stack h e path q =
      let f = found c marked stack h e path q in
      let l : length (without_terminator f.bits) ≡ length path = ap length f.steps in
      omega (arith, few (parents_in c) stack (length_at e c.entries) e f.bits f.given, without_length f.bits, l)
