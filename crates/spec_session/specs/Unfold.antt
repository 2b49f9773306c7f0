-- A handle unfolded, as 01's demand 3 says: left and right through the file's pairs, down to atoms; the sentinel's handle is an open place and is not
-- entered.
use Rattle.std.specs.Prelude.{ℕ, Bool, false, eqb, length, get_or}
use Rattle.std.proofs.Math.Bool.{cond}
use mathlib.Core.List.{List, [], ◌∷◌, ◌++◌}
use Rattle.std.proofs.Math.Option.{Option, none, some}
use Rattle.allocator.specs.Handle.{Node, pair, listed_atom, small_atom, unknown, node_of, handle_of}
use Rattle.allocator.specs.SmallAtom.{small_bytes}
use Rattle.spec_reading.specs.Tree.{Tree, place, atom, cons}
use Rattle.spec_session.specs.File.{File, Pair}

-- An unfolded handle, the handles kept: an open place; an atom's handle and bytes; a pair's handle and its two sides.
pub data Unfolded : Type 0 where
  hole : Unfolded
  leaf : (handle : ℕ) → (bytes : List ℕ) → Unfolded
  node : (handle : ℕ) → Unfolded → Unfolded → Unfolded

-- Its tree.
abbrev pub tree_of : Unfolded → Tree
tree_of hole = place
tree_of (leaf h bytes) = atom bytes
tree_of (node h l r) = cons (tree_of l) (tree_of r)

abbrev pub is_sentinel : Option ℕ → ℕ → Bool
is_sentinel none h = false
is_sentinel (some s) h = eqb h s

module _ (f : File) where
  -- What a handle names, where `earlier` are the pairs unfolded so far. Question 7 lets no handle through that names nothing.
  abbrev pub named_by : (earlier : List Unfolded) → (handle : ℕ) → Node → Unfolded
  named_by earlier h (pair i) = get_or earlier i (leaf h [])
  named_by earlier h (listed_atom i) = leaf h (get_or f.atoms i [])
  named_by earlier h (small_atom v) = leaf h (small_bytes v)
  named_by earlier h (unknown k i) = leaf h []

  abbrev pub unfold_with : (earlier : List Unfolded) → (handle : ℕ) → Unfolded
  unfold_with earlier h = cond (is_sentinel f.sentinel h) hole (named_by earlier h (node_of h))

  -- The pairs in list order: each names only earlier ones.
  abbrev pub unfold_pairs : List Pair → (earlier : List Unfolded) → List Unfolded
  unfold_pairs [] earlier = earlier
  unfold_pairs (p ∷ ps) earlier =
      unfold_pairs ps
      (earlier ++ node (handle_of (pair (length earlier))) (unfold_with earlier p.left) (unfold_with earlier p.right) ∷ [])

  -- A handle of the file, unfolded.
  unfoldable pub unfolded : (handle : ℕ) → Unfolded
  unfolded h = unfold_with (unfold_pairs f.pairs []) h
