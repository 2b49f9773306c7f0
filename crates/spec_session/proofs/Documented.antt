-- L6: "It writes a reference exactly when no exception of `tree_cache.rs` holds, the search gives a path and the whole item is no longer than the entry's
-- length." So it is with the documented measure; with any measure a reference is written exactly where no exception holds, the search gives a path and its
-- measure is below the entry's length. And where the two measures' searches differ.
-- Assumes nothing.
use Rattle.std.specs.Prelude.{ℕ, ◌+◌, ◌≤◌, ◌<◌, ◌≡◌, Bool, cond, leb, length}
use Rattle.std.proofs.Math.Path.{refl, sym, ap, subst}
use Rattle.std.proofs.Common.{◌∙◌, arith}
use Rattle.std.proofs.Math.Bool.{true, false}
use mathlib.Core.List.{List, [], ◌∷◌, ◌++◌}
use Rattle.std.proofs.Math.Option.{Option, none, some, map}
use Rattle.std.proofs.Math.Dec.{eqb, ltb}
use borrow.Author.Tests.{ltb-false, le-ltb, lt-ltb}
use Rattle.words.specs.Choice.{by_lt}
use Rattle.allocator.specs.Handle.{nil, handle_of}
use Rattle.path.specs.Bytes.{path_bytes}
use Rattle.path.proofs.BytesLaws.{length_path_bytes}
use Rattle.path.specs.Measure.{counted, documented}
use Rattle.path.proofs.MeasureLaws.{measures_agree, measures_long}
use Rattle.spec_search.specs.Search.{member, search, used}
use Rattle.spec_search.proofs.PathBits.{search_ends, search_bits_most}
use Rattle.spec_session.specs.Cache.{Cache, length_at}
use Rattle.spec_session.specs.Items.{reference_item, item_size}
use Rattle.spec_session.specs.FindPath.{without_terminator, parents_in, find_in}
use Rattle.spec_session.proofs.FindPathLaws.{then_some, else_some, without_end, written}

-- How many bytes a path has, with its terminator.
abbrev pub path_size : List Bool → ℕ
path_size path = length (path_bytes (path ++ true ∷ []))

-- A path that the search gave is used where 1 and its atom's documented length are at most the entry's length.
pub used_documented : (len : ℕ) (bits : List Bool) → used documented len (some bits) ≡ cond (leb (1 + documented bits) len) (some bits) none
used_documented len bits = ap (λ (n : ℕ). cond (leb n len) (some bits) none) (omega arith)

-- A path of 512 bytes is used for an entry of 515 by the documentation, whose whole item is 515 bytes, and not by the Rust's ranges.
pub moves_at_512 : (path : List Bool) → path_size path ≡ 512
    → (used documented 515 (some (path ++ true ∷ [])) ≡ some (path ++ true ∷ [])) × (used counted 515 (some (path ++ true ∷ [])) ≡ none)
moves_at_512 path e =
    let m = measures_long path (omega arith) (omega arith) in
    (rw (lt-ltb (documented (path ++ true ∷ [])) 515 (omega (arith, m.0))), rw (le-ltb (counted (path ++ true ∷ [])) 515 (omega (arith, m.1))))

-- The two tests say the same, but where a path of 512 bytes or more has three bytes less than the entry's length.
tests_same : (path : List Bool) (len : ℕ) → path_size path < 8192 → (512 ≤ path_size path → len ≡ path_size path + 3 → ⊥)
    → ltb (documented (path ++ true ∷ [])) len ≡ ltb (counted (path ++ true ∷ [])) len
tests_same path len short apart =
    by_lt (path_size path) 512 (λ h. ap (λ (n : ℕ). ltb n len) (sym (measures_agree path h))) (λ h.
    let m = measures_long path h short in
    by_lt len (path_size path + 3)
    (λ k. le-ltb (documented (path ++ true ∷ [])) len (omega (arith, m.0)) ∙ sym (le-ltb (counted (path ++ true ∷ [])) len (omega (arith, m.1))))
    (λ k. by_lt (path_size path + 3) len
    (λ j. lt-ltb (documented (path ++ true ∷ [])) len (omega (arith, m.0)) ∙ sym (lt-ltb (counted (path ++ true ∷ [])) len (omega (arith, m.1))))
    (λ j. absurd (apart h (omega arith)))))

module _ (c : Cache) (marked stack : List ℕ) (h e : ℕ) where
  abbrev len : ℕ
  len = length_at e c.entries

  -- No exception of `tree_cache.rs` holds, and the search gives this path.
  pub record Gives (path : List Bool) : Type 0 where
    pub not_nil : eqb h (handle_of nil) ≡ false
    pub is_marked : member e marked ≡ true
    pub long : 4 ≤ length_at e c.entries
    pub given : search (parents_in c) stack (length_at e c.entries) e ≡ some (path ++ true ∷ [])

  -- The path that the search gives, where it is used, without its terminator.
  abbrev result : (List Bool → ℕ) → Option (List Bool)
  result measure = map without_terminator (used measure len (search (parents_in c) stack len e))

  module _ (measure : List Bool → ℕ) (path : List Bool) where
    -- EXACTLY WHEN, with any measure.
    pub refers_where : find_in measure c marked stack h e ≡ some path → Gives path × (measure (path ++ true ∷ []) < length_at e c.entries)
    unfolding find_in
    refers_where q =
        let a = else_some (eqb h (handle_of nil)) (cond (member e marked) (cond (ltb len 4) none (result measure)) none) path q in
        let b = then_some (member e marked) (cond (ltb len 4) none (result measure)) path a.1 in
        let d = else_some (ltb len 4) (result measure) path b.1 in
        let w = written measure len (search (parents_in c) stack len e) path d.1 in
        let s = search_ends (parents_in c) stack len e w.bits w.given in
        let same : s.steps ≡ path = sym (without_end s.steps) ∙ ap without_terminator (sym s.ends) ∙ w.steps in
        let is : w.bits ≡ path ++ true ∷ [] = s.ends ∙ ap (λ (x : List Bool). x ++ true ∷ []) same in
        (record { not_nil = a.0; is_marked = b.0; long = ltb-false len 4 d.0; given = w.given ∙ ap some is }, subst (λ (x : List Bool). measure x < len) is w.shorter)

    pub refers_there : Gives path → measure (path ++ true ∷ []) < length_at e c.entries → find_in measure c marked stack h e ≡ some path
    unfolding find_in
    refers_there g s =
        rw (g.not_nil, g.is_marked, le-ltb len 4 g.long, g.given, lt-ltb (measure (path ++ true ∷ [])) len s) (ap some (without_end path))

    pub refers_not : Gives path → length_at e c.entries ≤ measure (path ++ true ∷ []) → find_in measure c marked stack h e ≡ none
    unfolding find_in
    refers_not g s = rw (g.not_nil, g.is_marked, le-ltb len 4 g.long, g.given, le-ltb (measure (path ++ true ∷ [])) len s)

  module _ (path : List Bool) where
    -- EXACTLY WHEN, by the documentation: the whole item is no longer than the entry's length.
    pub documented_where : find_in documented c marked stack h e ≡ some path → Gives path × (item_size (reference_item path) ≤ length_at e c.entries)
    documented_where q = let r = refers_where documented path q in (r.0, omega (arith, r.1))

    pub documented_there : Gives path → item_size (reference_item path) ≤ length_at e c.entries → find_in documented c marked stack h e ≡ some path
    documented_there g s = refers_there documented path g (omega arith)

  -- ---- where the two measures' searches differ

  -- The search gives a path of 512 bytes or more for an entry of just three bytes more.
  pub record Between (path : List Bool) : Type 0 where
    pub gives : Gives path
    pub bytes : 512 ≤ path_size path
    pub three_more : length_at e c.entries ≡ path_size path + 3

  -- Over a stack of at most 4,096 values, as it is before each subtree (`balanced_most`), no path has 8,192 bytes.
  module _ (few : length stack ≤ 4096) where
    path_short : (path : List Bool) → search (parents_in c) stack len e ≡ some (path ++ true ∷ []) → path_size path < 8192
    path_short path q = omega (arith, length_path_bytes (path ++ true ∷ []), search_bits_most (parents_in c) stack len e (path ++ true ∷ []) q few)

    -- There the documentation refers and the Rust's ranges do not.
    pub differ_there : (path : List Bool) → Between path → (find_in documented c marked stack h e ≡ some path) × (find_in counted c marked stack h e ≡ none)
    differ_there path b =
        let m = measures_long path b.bytes (path_short path b.gives.given) in
        (refers_there documented path b.gives (omega (arith, m.0, b.three_more)), refers_not counted path b.gives (omega (arith, m.1, b.three_more)))

    -- Everywhere else the two give the same, a path or none.
    pub same_elsewhere : ((path : List Bool) → Between path → ⊥) → find_in documented c marked stack h e ≡ find_in counted c marked stack h e
    unfolding find_in
    same_elsewhere apart = go (eqb h (handle_of nil)) (member e marked) (ltb len 4) refl refl refl
      where
        the_same : eqb h (handle_of nil) ≡ false → member e marked ≡ true → ltb len 4 ≡ false → (o : Option (List Bool)) → search (parents_in c) stack len e ≡ o
            → map without_terminator (used documented len o) ≡ map without_terminator (used counted len o)
        the_same n m l none q = refl
        the_same n m l (some bits) q =
            let s = search_ends (parents_in c) stack len e bits q in
            let given : search (parents_in c) stack len e ≡ some (s.steps ++ true ∷ []) = q ∙ ap some s.ends in
            let tests =
            tests_same s.steps len (path_short s.steps given) (λ b t.
            apart s.steps (record { gives = record { not_nil = n; is_marked = m; long = ltb-false len 4 l; given = given }; bytes = b; three_more = t })) in
            subst (λ (x : List Bool). map without_terminator (used documented len (some x)) ≡ map without_terminator (used counted len (some x))) (sym s.ends)
            (ap (λ (b : Bool). map without_terminator (cond b (some (s.steps ++ true ∷ [])) none)) tests)

        go : (n m l : Bool) → eqb h (handle_of nil) ≡ n → member e marked ≡ m → ltb len 4 ≡ l
            → cond n none (cond m (cond l none (result documented)) none) ≡ cond n none (cond m (cond l none (result counted)) none)
        go true m l p q r = refl
        go false false l p q r = refl
        go false true true p q r = refl
        go false true false p q r = the_same p q r (search (parents_in c) stack len e) refl
