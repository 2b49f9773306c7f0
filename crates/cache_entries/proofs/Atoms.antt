-- Atoms of the file: the handle that stands for all with the same bytes, and the length.
-- Assumes nothing.
use Prim.Native.Nat.{ℕ, zero, suc, ◌+◌, ◌^◌, ◌<◌}
use mathlib.Core.Path.{◌≡◌, refl, sym, ap, ◌∙◌, subst}
use mathlib.Core.Bool.{Bool, true, false, cond, false≢true}
use mathlib.Core.List.{List, [], ◌∷◌}
use native.Mathlib.Omega.{arith}
use lib.ListN.{length, get_or}
use borrow.Author.Tests.{ltb-true}
use Rattle.words.specs.Lists.{same, same_eq, same_refl}
use Rattle.words.specs.Words.{at}
use Rattle.allocator.specs.Handle.{Node, pair, listed_atom, small_atom, unknown, node_of, handle_of, index_of, is_atom}
use Rattle.allocator.specs.HandleLaws.{index_of_handle, node_of_listed_atom}
use Rattle.spec_session.specs.File.{named}
use Rattle.work_layout.specs.Layout.{FIRST, ATOM_COUNT, PAIR_COUNT}
use Rattle.cache_entries.specs.Meaning.{bytes_named, first_same, Names, FirstOf, Whole}
use Rattle.cache_entries.specs.Effects.{is_listed, Stands}

-- ---- which kind of atom

pub listed_is : (n : Node) → is_listed n ≡ true → n ≡ listed_atom (index_of n)
listed_is (pair i) e = absurd (false≢true e)
listed_is (listed_atom i) e = refl
listed_is (small_atom v) e = absurd (false≢true e)
listed_is (unknown k i) e = absurd (false≢true e)

pub small_is : (n : Node) → is_listed n ≡ false → is_atom n ≡ true → n ≡ small_atom (index_of n)
small_is (pair i) e a = absurd (false≢true a)
small_is (listed_atom i) e a = absurd (false≢true (sym e))
small_is (small_atom v) e a = refl
small_is (unknown k i) e a = absurd (false≢true a)

pub index_low : (h : ℕ) → index_of (node_of h) < 2 ^ 26
index_low h = let e = index_of_handle h in omega arith

-- ---- a listed atom

pub first_found : (bs : List ℕ) (atoms : List (List ℕ)) (i : ℕ) → i < length atoms → get_or atoms i [] ≡ bs → get_or atoms (first_same bs atoms) [] ≡ bs
first_found bs [] i h e = absurd (omega arith)
first_found bs (a ∷ atoms) i h e = go (same a bs) refl (λ j l q. first_found bs atoms j l q)
  where
    later : (j : ℕ) → j < suc (length atoms) → get_or (a ∷ atoms) j [] ≡ bs → same a bs ≡ false
        → ((k : ℕ) → k < length atoms → get_or atoms k [] ≡ bs → get_or atoms (first_same bs atoms) [] ≡ bs) → get_or atoms (first_same bs atoms) [] ≡ bs
    later zero l q s f = absurd (false≢true (sym s ∙ ap (λ (x : List ℕ). same x bs) q ∙ same_refl bs))
    later (suc j) l q s f = f j (omega arith) q

    go : (b : Bool) → same a bs ≡ b → ((k : ℕ) → k < length atoms → get_or atoms k [] ≡ bs → get_or atoms (first_same bs atoms) [] ≡ bs)
        → get_or (a ∷ atoms) (cond b 0 (suc (first_same bs atoms))) [] ≡ bs
    go true s f = same_eq a bs s
    go false s f = later i h e s f

module _ (w : List ℕ) (h : ℕ) (wh : Whole w) (n : Names w (at w PAIR_COUNT) h) (l : is_listed (node_of h) ≡ true) where
  is_atom_i : node_of h ≡ listed_atom (index_of (node_of h))
  is_atom_i = listed_is (node_of h) l

  pub listed_low : index_of (node_of h) < at w ATOM_COUNT
  listed_low = ltb-true (index_of (node_of h)) (at w ATOM_COUNT) (subst (λ (m : Node). named (at w ATOM_COUNT) (at w PAIR_COUNT) m ≡ true) is_atom_i n)

  pub listed_few : index_of (node_of h) < 1024
  listed_few = let a = listed_low in omega (arith, wh.handles.few_atoms)

  pub first_few : at w (FIRST + index_of (node_of h)) < 2 ^ 26
  first_few = let a = listed_few in omega (arith, wh.handles.firsts (index_of (node_of h)) listed_low)

  pub stands_listed : (r : ℕ) → r ≡ handle_of (listed_atom (at w (FIRST + index_of (node_of h)))) → Stands w h r
  stands_listed r e =
      record {
        first = subst (FirstOf w) (sym is) (first_low, wh.handles.first_first (index_of (node_of h)) listed_low);
        bytes = λ f t.
            let c = t.atom_count in
            let k : index_of (node_of h) < length f.atoms = omega (arith, listed_low) in
            ap (bytes_named f) is
            ∙ ap (λ (i : ℕ). get_or f.atoms i []) (t.firsts (index_of (node_of h)) k)
            ∙ first_found (get_or f.atoms (index_of (node_of h)) []) f.atoms (index_of (node_of h)) k refl
            ∙ ap (bytes_named f) (sym is_atom_i);
      }
    where
      first_low : at w (FIRST + index_of (node_of h)) < at w ATOM_COUNT
      first_low = let a = listed_low in omega (arith, wh.handles.firsts (index_of (node_of h)) listed_low)

      is : node_of r ≡ listed_atom (at w (FIRST + index_of (node_of h)))
      is = ap node_of e ∙ node_of_listed_atom (at w (FIRST + index_of (node_of h))) first_few
