-- What a node of a store is as a tree. A node names one tree at most, and names it still in a store with more pairs, atoms and bytes.
use Rattle.std.specs.Prelude.{ℕ, ◌+◌, ◌-◌, ◌*◌, ◌≤◌, ◌<◌, ◌≡◌, List, [], ◌++◌, length, take, drop}
use Rattle.std.proofs.Common.{sym, ap, ap₂, ◌∙◌, subst, append_assoc, append-nil, arith, length-append, length-drop}
use Rattle.std.proofs.Math.ListN.{get_or-append}
use Rattle.std.proofs.lemmas.List.{take-append-le, drop-append-le}
use Rattle.words.specs.Words.{at, part}
use Rattle.allocator.specs.Handle.{Node, node_of, nil}
use Rattle.allocator.specs.SmallAtomLaws.{small_bytes_nil}
use Rattle.spec_reading.specs.Tree.{Tree, atom, cons}
use Rattle.spec_reading.specs.Store.{Store}
use Rattle.spec_reading.specs.Names.{Names, end_of, left_of, listed, paired, right_of, small, start_of}

-- ---- one tree at most

pub names_one : (s : Store) (n : Node) (t u : Tree) → Names s n t → Names s n u → t ≡ u
names_one s n t u (small e) (small f) = ap atom (sym e ∙ f)
names_one s n t u (listed h k m e) (listed h' k' m' f) = ap atom (sym e ∙ f)
names_one s n t u (paired {i} {l} {r} h x y) (paired {l = l'} {r = r'} h' x' y') =
    ap₂ cons (names_one s (node_of (left_of s i)) l l' x x') (names_one s (node_of (right_of s i)) r r' y y')

pub names_nil : (s : Store) → Names s nil (atom [])
names_nil s = small small_bytes_nil

-- ---- a store with more

pub record Extends (s s' : Store) : Type 0 where
  pub pairs_added : List ℕ
  pub atoms_added : List ℕ
  pub bytes_added : List ℕ
  pub pairs_are : s'.pairs ≡ s.pairs ++ pairs_added
  pub atoms_are : s'.atoms ≡ s.atoms ++ atoms_added
  pub bytes_are : s'.bytes ≡ s.bytes ++ bytes_added

pub extends_refl : (s : Store) → Extends s s
extends_refl s =
    record {
      pairs_added = [];
      atoms_added = [];
      bytes_added = [];
      pairs_are = sym (append-nil s.pairs);
      atoms_are = sym (append-nil s.atoms);
      bytes_are = sym (append-nil s.bytes);
    }

both_added : (x y z p q : List ℕ) → y ≡ x ++ p → z ≡ y ++ q → z ≡ x ++ (p ++ q)
both_added x y z p q e f = f ∙ ap (λ (w : List ℕ). w ++ q) e ∙ append_assoc x p q

pub extends_trans : (s t u : Store) → Extends s t → Extends t u → Extends s u
extends_trans s t u e f =
    record {
      pairs_added = e.pairs_added ++ f.pairs_added;
      atoms_added = e.atoms_added ++ f.atoms_added;
      bytes_added = e.bytes_added ++ f.bytes_added;
      pairs_are = both_added s.pairs t.pairs u.pairs e.pairs_added f.pairs_added e.pairs_are f.pairs_are;
      atoms_are = both_added s.atoms t.atoms u.atoms e.atoms_added f.atoms_added e.atoms_are f.atoms_are;
      bytes_are = both_added s.bytes t.bytes u.bytes e.bytes_added f.bytes_added e.bytes_are f.bytes_are;
    }

at_more : (xs zs ys : List ℕ) (k : ℕ) → zs ≡ xs ++ ys → k < length xs → at zs k ≡ at xs k
at_more xs zs ys k e h = ap (λ (l : List ℕ). at l k) e ∙ get_or-append xs ys 0 k h

length_more : (xs zs ys : List ℕ) → zs ≡ xs ++ ys → length xs ≤ length zs
length_more xs zs ys e = omega (arith, ap length e, length-append xs ys)

part_more : (xs zs ys : List ℕ) (i n : ℕ) → zs ≡ xs ++ ys → i + n ≤ length xs → part zs i n ≡ part xs i n
unfolding part
part_more xs zs ys i n e h =
    ap (λ (l : List ℕ). take n (drop i l)) e ∙ ap (take n) (drop-append-le i xs ys (omega arith)) ∙ take-append-le n (drop i xs) ys (omega (arith, length-drop i xs))

-- A node names the same tree in a store with more; ghost pairs do not matter.
pub names_more : (s s' : Store) (n : Node) (t : Tree) → Extends s s' → Names s n t → Names s' n t
names_more s s' n t e (small b) = small b
names_more s s' n t e (listed {i} h k m b) =
    listed {i = i} (omega (arith, length_more s.atoms s'.atoms e.atoms_added e.atoms_are)) (omega (arith, starts, ends))
    (omega (arith, ends, length_more s.bytes s'.bytes e.bytes_added e.bytes_are))
    (ap₂ (λ (x y : ℕ). part s'.bytes x (y - x)) starts ends ∙ part_more s.bytes s'.bytes e.bytes_added (start_of s i) (end_of s i - start_of s i) e.bytes_are (omega arith) ∙ b)
  where
    starts : start_of s' i ≡ start_of s i
    starts = at_more s.atoms s'.atoms e.atoms_added (2 * i) e.atoms_are (omega arith)

    ends : end_of s' i ≡ end_of s i
    ends = at_more s.atoms s'.atoms e.atoms_added (2 * i + 1) e.atoms_are (omega arith)
names_more s s' n t e (paired {i} {l} {r} h x y) =
    paired {i = i} (omega (arith, length_more s.pairs s'.pairs e.pairs_added e.pairs_are))
    (subst (λ (w : ℕ). Names s' (node_of w) l) (sym lefts) (names_more s s' (node_of (left_of s i)) l e x))
    (subst (λ (w : ℕ). Names s' (node_of w) r) (sym rights) (names_more s s' (node_of (right_of s i)) r e y))
  where
    lefts : left_of s' i ≡ left_of s i
    lefts = at_more s.pairs s'.pairs e.pairs_added (2 * i) e.pairs_are (omega arith)

    rights : right_of s' i ≡ right_of s i
    rights = at_more s.pairs s'.pairs e.pairs_added (2 * i + 1) e.pairs_are (omega arith)
