-- The atoms of a session file's trees are bytes, and short enough for a prefix.
-- Assumes nothing.
use Prim.Native.Nat.{ℕ, zero, suc, ◌+◌, ◌/◌, ◌%◌, ◌^◌, ◌<◌}
use Rattle.std.specs.Prelude.{◌≡◌, leb, length, take, drop}
use Rattle.std.proofs.Common.{subst, arith, length-take, length-drop}
use mathlib.Core.List.{List, [], ◌∷◌, ◌++◌, map}
use Rattle.spec_session.proofs.FileLaws.{by_first, asked_of, got_value, got_rest, parts_read}
use Rattle.words.specs.Lists.{All, all_append, all_take, all_drop, all_or, Bytes}
use Rattle.words.specs.Choice.{by_cond}
use Rattle.allocator.specs.Handle.{pair, node_of, node_of_kind, handle_of}
use Rattle.allocator.specs.SmallAtom.{small_bytes, fits_in_small_atom}
use Rattle.allocator.specs.SmallAtomLaws.{bytes_small_bytes, len_at_most, length_small_bytes}
use Rattle.spec_session.specs.File.{File, Pair, Limits, got, asked, bytes_of, field, count, listed, atom, atoms, file}
use Rattle.spec_session.specs.Unfold.{Unfolded, hole, leaf, node, is_sentinel, named_by, unfold_with, unfold_pairs, unfolded}
use Rattle.spec_session.proofs.Kept.{Leaves}
use Rattle.spec_session.proofs.Formed.{Atom}

-- ---- a handle unfolded

small_is : (v : ℕ) → v < 2 ^ 26 → Atom (small_bytes v)
small_is v h = (omega (arith, length_small_bytes v, len_at_most 3 v (omega arith)), bytes_small_bytes v)

none_is : Atom []
none_is = (omega arith, tt)

module _ (f : File) (listed-are : All Atom f.atoms) where
  unfold_with_leaves : (earlier : List Unfolded) → All (Leaves Atom) earlier → (h : ℕ) → Leaves Atom (unfold_with f earlier h)
  unfolding node_of
  unfold_with_leaves earlier a h = by_cond (Leaves Atom) (is_sentinel f.sentinel h) hole (named_by f earlier h (node_of h)) (λ _. tt) (λ _. by_kind (h / 2 ^ 26))
    where
      by_kind : (k : ℕ) → Leaves Atom (named_by f earlier h (node_of_kind k (h % 2 ^ 26)))
      by_kind zero = all_or (Leaves Atom) earlier (leaf h []) (h % 2 ^ 26) a none_is
      by_kind (suc zero) = all_or Atom f.atoms [] (h % 2 ^ 26) listed-are none_is
      by_kind (suc (suc zero)) = small_is (h % 2 ^ 26) (omega arith)
      by_kind (suc (suc (suc k))) = none_is

  pairs_leaves : (ps : List Pair) (earlier : List Unfolded) → All (Leaves Atom) earlier → All (Leaves Atom) (unfold_pairs f ps earlier)
  pairs_leaves [] earlier a = a
  pairs_leaves (p ∷ ps) earlier a =
      pairs_leaves ps (earlier ++ node (handle_of (pair (length earlier))) (unfold_with f earlier p.left) (unfold_with f earlier p.right) ∷ [])
      (all_append (Leaves Atom) earlier (node (handle_of (pair (length earlier))) (unfold_with f earlier p.left) (unfold_with f earlier p.right) ∷ []) a
      ((unfold_with_leaves earlier a p.left, unfold_with_leaves earlier a p.right), tt))

  pub unfolded_leaves : (h : ℕ) → Leaves Atom (unfolded f h)
  unfolding unfolded
  unfolded_leaves h = unfold_with_leaves (unfold_pairs f f.pairs []) (pairs_leaves f.pairs [] tt) h

  pub all_leaves : (hs : List ℕ) → All (Leaves Atom) (map (unfolded f) hs)
  all_leaves [] = tt
  all_leaves (h ∷ hs) = (unfolded_leaves h, all_leaves hs)

-- ---- the file's own atoms

part_take : (n : ℕ) (s : List ℕ) → Atom s → Atom (take n s)
part_take n s h = (omega (arith, length-take n s, h.0), all_take (λ (x : ℕ). x < 256) n s h.1)

part_drop : (n : ℕ) (s : List ℕ) → Atom s → Atom (drop n s)
part_drop n s h = (omega (arith, length-drop n s, h.0), all_drop (λ (x : ℕ). x < 256) n s h.1)

bytes_parts : (n : ℕ) (s b r : List ℕ) → Atom s → bytes_of n s ≡ got b r → Atom b × Atom r
bytes_parts n s b r h e =
    let g = (asked_of 4 (leb n (length s)) (got (take n s) (drop n s)) b r e).1 in
    (subst Atom (got_value (take n s) b (drop n s) r g) (part_take n s h), subst Atom (got_rest (take n s) b (drop n s) r g) (part_drop n s h))

field_rest : (n : ℕ) (s : List ℕ) (v : ℕ) (r : List ℕ) → Atom s → field n s ≡ got v r → Atom r
field_rest n s v r h e = by_first (bytes_of n s) _ v r e (λ b t i j. subst Atom (got_rest _ v t r j) (bytes_parts n s b t h i).1)

atom_parts : (l : Limits) (u : ℕ) (s b r : List ℕ) → Atom s → atom l u s ≡ got b r → Atom b × Atom r
atom_parts l u s b r h e =
    by_first (field l.count_bytes s) _ b r e (λ n t i j.
    by_first (bytes_of n t) _ b r j (λ c v p q.
    let g = (asked_of 6 (listed (fits_in_small_atom c)) (got c v) b r (asked_of 5 (leb (u + n) l.atom_bytes) (asked 6 (listed (fits_in_small_atom c)) (got c v)) b r q).1).1 in
    let parts = bytes_parts n t c v (field_rest l.count_bytes s n t h i) p in
    (subst Atom (got_value c b v r g) parts.0, subst Atom (got_rest c b v r g) parts.1)))

atoms_parts : (l : Limits) (n u : ℕ) (done : List (List ℕ)) (s : List ℕ) (xs : List (List ℕ)) (r : List ℕ) → All Atom done → Atom s
    → atoms l n u done s ≡ got xs r → All Atom xs
unfolding atoms
atoms_parts l zero u done s xs r d h e = subst (All Atom) (got_value done xs s r e) d
atoms_parts l (suc n) u done s xs r d h e =
    by_first (atom l u s) _ xs r e (λ b t i j.
    let p = atom_parts l u s b t h i in
    atoms_parts l n (u + length b) (done ++ b ∷ []) t xs r (all_append Atom done (b ∷ []) d (p.0, tt)) p.1 j)

count_rest : (w most : ℕ) (s : List ℕ) (v : ℕ) (r : List ℕ) → Atom s → count w most s ≡ got v r → Atom r
count_rest w most s v r h e =
    by_first (field w s) _ v r e (λ n t i j. subst Atom (got_rest n v t r (asked_of 5 (leb n most) (got n t) v r j).1) (field_rest w s n t h i))

-- The atoms of a file that is not refused.
pub file_atoms : (l : Limits) (input : List ℕ) (f : File) (r : List ℕ) → Atom input → file l input ≡ got f r → All Atom f.atoms
file_atoms l input f r h e =
    let p = parts_read l input f r e in
    let rest = count_rest l.count_bytes l.atoms (drop 5 input) p.atom_count p.at_atoms (part_drop 5 input h) p.atom_count_is in
    atoms_parts l p.atom_count 0 [] p.at_atoms f.atoms p.at_pair_count tt rest p.atoms_are

-- Over any limits that keep a file shorter than what a prefix can carry.
pub read_atoms : (l : Limits) → l.file_bytes < 2 ^ 34 → (input : List ℕ) → Bytes input → (f : File) (r : List ℕ) → file l input ≡ got f r → All Atom f.atoms
read_atoms l carried input bytes f r e = file_atoms l input f r (omega (arith, (parts_read l input f r e).short), bytes) e
