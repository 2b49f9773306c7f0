-- Laws of the store: two words appended, a small and a listed atom stored.
-- Assumes nothing.
use Prim.Native.Nat.{ℕ, ◌+◌, ◌*◌, ◌/◌, ◌≤◌}
use mathlib.Core.Path.{◌≡◌, refl, sym, ap, ◌∙◌}
use mathlib.Core.List.{List, [], ◌∷◌, ◌++◌}
use mathlib.Core.Option.{Option, none, some}
use native.Mathlib.Omega.{arith}
use native.Mathlib.Numerals.{add-one}
use lib.ListN.{length, take, drop, set}
use lib.Seq.{paste, take-paste, drop-paste, sets-eq, length-take-le, take-length}
use Rattle.allocator.specs.Handle.{handle_of, listed_atom, small_atom}
use Rattle.allocator.specs.SmallAtom.{fits_in_small_atom}
use Rattle.spec_reading.specs.Store.{Store, Made, new_listed, new_atom, small_or_listed}
use Rattle.read_store.specs.Atoms.{ListedAppended, AtomStored}

-- two words after the first n pairs of words
module _ (d : List ℕ) (n x y : ℕ) (room : 2 * n + 2 ≤ length d) where
  pub two_stores : set (set d (2 * n) x) (2 * n + 1) y ≡ paste d (2 * n) (x ∷ y ∷ []) 2
  two_stores = rw add-one (sets-eq (x ∷ y ∷ []) d (2 * n) room)

  pub take_two : take (2 * (n + 1)) (paste d (2 * n) (x ∷ y ∷ []) 2) ≡ take (2 * n) d ++ x ∷ y ∷ []
  take_two =
      let e : 2 * (n + 1) ≡ 2 * n + 2 = omega arith in
      ap (λ (k : ℕ). take k (paste d (2 * n) (x ∷ y ∷ []) 2)) e ∙ take-paste d (2 * n) (x ∷ y ∷ []) 2 (omega arith) (omega arith)

  pub drop_two : drop (2 * (n + 1)) (paste d (2 * n) (x ∷ y ∷ []) 2) ≡ drop (2 * (n + 1)) d
  drop_two =
      let e : 2 * (n + 1) ≡ 2 * n + 2 = omega arith in
      ap (λ (k : ℕ). drop k (paste d (2 * n) (x ∷ y ∷ []) 2)) e ∙ drop-paste d (2 * n) (x ∷ y ∷ []) 2 (omega arith) (omega arith)
      ∙ ap (λ (k : ℕ). drop k d) (sym e)

-- as many pairs of words as are in use
pub half : (d l : List ℕ) (n : ℕ) → 2 * n ≤ length d → l ≡ take (2 * n) d → length l / 2 ≡ n
half d l n h e =
    let f : length l ≡ 2 * n = ap length e ∙ length-take-le (2 * n) d h in
    omega arith

-- ---- atoms

pub small_stored : (a b : List ℕ) (n m : ℕ) (blob : List ℕ) (v node : ℕ) → fits_in_small_atom blob ≡ some v → node ≡ handle_of (small_atom v)
    → AtomStored a b n m blob a b node n m
small_stored a b n m blob v node fits e =
    let made : (s : Store) → new_atom blob s ≡ record { node = handle_of (small_atom v); store = s } = λ s. ap (λ (o : Option ℕ). small_or_listed o blob s) fits in
    record {
      node_is = λ s p. e ∙ sym (ap (λ (x : Made). x.node) (made s));
      atoms_are = λ s p q. sym (ap (λ (x : Made). x.store.atoms) (made s) ∙ p);
      bytes_are = λ s q. sym (ap (λ (x : Made). x.store.bytes) (made s) ∙ q);
      atoms_rest = refl;
      bytes_rest = refl;
      atoms_grow = omega arith;
      bytes_grow = omega arith;
    }

module _ (a b : List ℕ) (n m : ℕ) (blob a' b' : List ℕ) (node n' m' : ℕ) (fits : fits_in_small_atom blob ≡ none)
    (room : 2 * n + 2 ≤ length a) (size : m + length blob ≤ length b) (done : ListedAppended a b n m blob a' b' node n' m') where
  made : (s : Store) → new_atom blob s ≡ new_listed blob s
  made s = ap (λ (o : Option ℕ). small_or_listed o blob s) fits

  stored_atoms : (s : Store) → s.atoms ≡ take (2 * n) a → s.bytes ≡ take m b → take (2 * n') a' ≡ (new_listed blob s).store.atoms
  stored_atoms s p q =
      let l : length s.bytes ≡ m = ap length q ∙ length-take-le m b (omega arith) in
      (λ i. take (2 * done.count_is i) (done.atoms_are i)) ∙ take_two a n m (m + length blob) room
      ∙ (λ i. sym p i ++ sym l i ∷ (sym l i + length blob) ∷ [])

  stored_bytes : (s : Store) → s.bytes ≡ take m b → take m' b' ≡ (new_listed blob s).store.bytes
  stored_bytes s q =
      (λ i. take (done.size_is i) (done.bytes_are i)) ∙ take-paste b m blob (length blob) (omega arith) (omega arith)
      ∙ (λ i. sym q i ++ take-length blob i)

  pub listed_stored : AtomStored a b n m blob a' b' node n' m'
  listed_stored =
      record {
        node_is = λ s p. done.node_is ∙ ap (λ (k : ℕ). handle_of (listed_atom k)) (sym (half a s.atoms n (omega arith) p)) ∙ sym (ap (λ (x : Made). x.node) (made s));
        atoms_are = λ s p q. stored_atoms s p q ∙ sym (ap (λ (x : Made). x.store.atoms) (made s));
        bytes_are = λ s q. stored_bytes s q ∙ sym (ap (λ (x : Made). x.store.bytes) (made s));
        atoms_rest =
            (λ i. drop (2 * done.count_is i) (done.atoms_are i)) ∙ drop_two a n m (m + length blob) room ∙ (λ i. drop (2 * sym done.count_is i) a);
        bytes_rest =
            (λ i. drop (done.size_is i) (done.bytes_are i)) ∙ drop-paste b m blob (length blob) (omega arith) (omega arith)
            ∙ (λ i. drop (sym done.size_is i) b);
        atoms_grow = omega (arith, done.count_is);
        bytes_grow = omega (arith, done.size_is);
      }
