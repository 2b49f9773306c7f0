-- A handle unfolded by the file's pairs: the sentinel is an open place, an atom is a leaf, and a pair is a node of its unfolded sides.
-- Assumes nothing.
use Prim.Native.Nat.{ℕ, zero, suc, ◌+◌, ◌<◌}
use Rattle.std.specs.Prelude.{◌≡◌, false}
use Rattle.std.proofs.Math.Path.{refl, sym, ap}
use Rattle.std.proofs.Common.{◌∙◌, ltb-true}
use Rattle.std.proofs.Math.Bool.{true, cond}
use mathlib.Core.List.{List, [], ◌∷◌, ◌++◌}
use Rattle.std.proofs.Math.Seq.{get_or-append_seam}
use native.Mathlib.Omega.{arith}
use Rattle.std.proofs.Math.ListN.{length, get_or, length-append, get_or-append}
use Rattle.allocator.specs.Handle.{Node, pair, listed_atom, small_atom, unknown, node_of, handle_of}
use Rattle.allocator.specs.HandleLaws.{pair_handle}
use Rattle.allocator.specs.SmallAtom.{small_bytes}
use Rattle.spec_session.specs.File.{File, Pair, named}
use Rattle.spec_session.specs.Unfold.{Unfolded, hole, leaf, node, is_sentinel, named_by, unfold_with, unfold_pairs, unfolded}

-- No side at all, for a place beyond the list.
abbrev no_sides : Pair
no_sides = record { left = 0; right = 0 }

module _ (f : File) where
  abbrev row : List Unfolded → Pair → Unfolded
  row earlier p = node (handle_of (pair (length earlier))) (unfold_with f earlier p.left) (unfold_with f earlier p.right)

  -- What is unfolded stays.
  stays : (ps : List Pair) (earlier : List Unfolded) (i : ℕ) (d : Unfolded) → i < length earlier → get_or (unfold_pairs f ps earlier) i d ≡ get_or earlier i d
  stays [] earlier i d h = refl
  stays (p ∷ ps) earlier i d h =
      stays ps (earlier ++ row earlier p ∷ []) i d (simp length-append (omega arith))
      ∙ get_or-append earlier (row earlier p ∷ []) d i h

  -- Of a handle that names none but earlier pairs, the pairs to come do not matter.
  agree : (ps : List Pair) (earlier : List Unfolded) (a h : ℕ) → named a (length earlier) (node_of h) ≡ true
      → unfold_with f earlier h ≡ unfold_with f (unfold_pairs f ps earlier) h
  agree ps earlier a h e = ap (λ (u : Unfolded). cond (is_sentinel f.sentinel h) hole u) (go (node_of h) e)
    where
      go : (n : Node) → named a (length earlier) n ≡ true → named_by f earlier h n ≡ named_by f (unfold_pairs f ps earlier) h n
      go (pair i) q = sym (stays ps earlier i (leaf h []) (ltb-true i (length earlier) q))
      go (listed_atom i) q = refl
      go (small_atom v) q = refl
      go (unknown k i) q = refl

  -- The row of pair j among the pairs to come.
  unfolds : (ps : List Pair) (earlier table : List Unfolded) (a j : ℕ) (d : Unfolded) → table ≡ unfold_pairs f ps earlier → j < length ps
      → named a (length earlier + j) (node_of (get_or ps j no_sides).left) ≡ true
      → named a (length earlier + j) (node_of (get_or ps j no_sides).right) ≡ true
      → get_or table (length earlier + j) d
      ≡ node (length earlier + j) (unfold_with f table (get_or ps j no_sides).left) (unfold_with f table (get_or ps j no_sides).right)
  unfolds [] earlier table a j d t h l r = absurd (omega arith)
  unfolds (p ∷ ps) earlier table a zero d t h l r =
      let z : length earlier + 0 ≡ length earlier = omega arith in
      let here : get_or table (length earlier) d ≡ row earlier p =
      ap (λ (x : List Unfolded). get_or x (length earlier) d) t
      ∙ stays ps (earlier ++ row earlier p ∷ []) (length earlier) d (simp length-append (omega arith))
      ∙ get_or-append_seam earlier (row earlier p) [] d in
      let left : unfold_with f earlier p.left ≡ unfold_with f table p.left =
      agree (p ∷ ps) earlier a p.left (rw z at l) ∙ ap (λ (x : List Unfolded). unfold_with f x p.left) (sym t) in
      let right : unfold_with f earlier p.right ≡ unfold_with f table p.right =
      agree (p ∷ ps) earlier a p.right (rw z at r) ∙ ap (λ (x : List Unfolded). unfold_with f x p.right) (sym t) in
      ap (λ (i : ℕ). get_or table i d) z ∙ here
      ∙ (λ k. node ((pair_handle (length earlier) ∙ sym z) k) (left k) (right k))
  unfolds (p ∷ ps) earlier table a (suc j) d t h l r =
      let n : length (earlier ++ row earlier p ∷ []) + j ≡ length earlier + suc j = simp length-append (omega arith) in
      rw n at (unfolds ps (earlier ++ row earlier p ∷ []) table a j d t (omega arith) (rw n l) (rw n r))

  -- The sentinel's handle is an open place.
  pub unfolded_sentinel : (h : ℕ) → is_sentinel f.sentinel h ≡ true → unfolded f h ≡ hole
  unfolding unfolded
  unfolded_sentinel h e = rw e

  pub unfolded_listed : (h i : ℕ) → is_sentinel f.sentinel h ≡ false → node_of h ≡ listed_atom i → unfolded f h ≡ leaf h (get_or f.atoms i [])
  unfolding unfolded
  unfolded_listed h i e n = rw (e, n)

  pub unfolded_small : (h v : ℕ) → is_sentinel f.sentinel h ≡ false → node_of h ≡ small_atom v → unfolded f h ≡ leaf h (small_bytes v)
  unfolding unfolded
  unfolded_small h v e n = rw (e, n)

  -- A pair that names only earlier things is a node of its sides.
  pub unfolded_pair : (a h i : ℕ) → is_sentinel f.sentinel h ≡ false → node_of h ≡ pair i → i < length f.pairs
      → named a i (node_of (get_or f.pairs i (record { left = 0; right = 0 })).left) ≡ true
      → named a i (node_of (get_or f.pairs i (record { left = 0; right = 0 })).right) ≡ true
      → unfolded f h
      ≡ node i (unfolded f (get_or f.pairs i (record { left = 0; right = 0 })).left) (unfolded f (get_or f.pairs i (record { left = 0; right = 0 })).right)
  unfolding unfolded
  unfolded_pair a h i e n b l r =
      let z : 0 + i ≡ i = omega arith in
      rw (e, n) (rw z at (unfolds f.pairs [] (unfold_pairs f f.pairs []) a i (leaf h []) refl b (rw z l) (rw z r)))
