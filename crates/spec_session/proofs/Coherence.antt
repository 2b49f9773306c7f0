-- Every pair in an unfolded handle is unfolded as the file has it.
use Rattle.std.specs.Prelude.{◌≡◌, ◌⊎◌, Bool, true, cond, length}
use Rattle.std.proofs.Math.Path.{refl, ap}
use Rattle.std.proofs.Common.{sym, ◌∙◌, subst, inl, inr}
use mathlib.Core.List.{List, [], ◌∷◌, ◌++◌, map}
use Rattle.std.proofs.Math.Option.{Option, none, some}
use Rattle.std.proofs.Math.Bool.{false}
use Prim.Native.Nat.{ℕ, zero, suc, ◌/◌, ◌%◌, ◌^◌}
use native.Mathlib.Omega.{arith}
use Rattle.std.proofs.Math.ListN.{get_or}
use Rattle.allocator.specs.HandleLaws.{pair_handle}
use Rattle.words.specs.Choice.{clash}
use Rattle.spec_session.specs.Unfold.{Unfolded, hole, leaf, node, is_sentinel, unfold_with, unfold_pairs, unfolded, named_by}
use Rattle.allocator.specs.Handle.{pair, node_of_kind, node_of, handle_of}
use Rattle.spec_session.specs.File.{File, Pair}
use Rattle.spec_session.specs.Trees.{nth}
use Rattle.spec_session.proofs.Trees.{nth_append}
use Rattle.spec_session.proofs.ReadBack.{Coherent, AllCoherent}

-- The last member, or one before it.
pub nth_snoc : {A : Type 0} (l : List A) (x : A) (i : ℕ) (u : A) → nth (l ++ x ∷ []) i ≡ some u → (nth l i ≡ some u) ⊎ ((i ≡ length l) × (u ≡ x))
nth_snoc [] x zero u h = inr (refl, cc)
nth_snoc [] x (suc i) u h = inl h
nth_snoc (y ∷ l) x zero u h = inl h
nth_snoc (y ∷ l) x (suc i) u h = go (nth_snoc l x i u h)
  where
    go : (nth l i ≡ some u) ⊎ ((i ≡ length l) × (u ≡ x)) → (nth l i ≡ some u) ⊎ ((suc i ≡ suc (length l)) × (u ≡ x))
    go (inl p) = inl p
    go (inr p) = inr (ap suc p.0, p.1)

getD_nth : (l : List Unfolded) (i : ℕ) (d : Unfolded) (o : Option Unfolded) → nth l i ≡ o → (u : Unfolded) → o ≡ some u → get_or l i d ≡ u
getD_nth [] i d o e u q = cc
getD_nth (x ∷ l) zero d o e u q = cc
getD_nth (x ∷ l) (suc i) d o e u q = getD_nth l i d o e u q

getD_none : (l : List Unfolded) (i : ℕ) (d : Unfolded) → nth l i ≡ none → get_or l i d ≡ d
getD_none [] i d e = refl
getD_none (x ∷ l) zero d e = cc
getD_none (x ∷ l) (suc i) d e = getD_none l i d e

module _ (f : File) (table : List Unfolded) where
  -- The unfolding by the whole table.
  abbrev known : ℕ → Unfolded
  known h = unfold_with f table h

  abbrev RowOK : ℕ → Unfolded → Type 0
  RowOK i u = (l : Unfolded) × (r : Unfolded) × (u ≡ node i l r) × Coherent known l × Coherent known r

  abbrev RowsOK : List Unfolded → Type 0
  RowsOK rows = (i : ℕ) (u : Unfolded) → nth rows i ≡ some u → RowOK i u

  abbrev Within : List Unfolded → Type 0
  Within rows = (i : ℕ) (u : Unfolded) → nth rows i ≡ some u → nth table i ≡ some u

  named_ok : (rows : List Unfolded) → Within rows → RowsOK rows → (h : ℕ) → Coherent known (unfold_with f rows h)
  unfolding node_of
  named_ok rows sub ok h = on_sentinel (is_sentinel f.sentinel h) refl
    where
      at_pair : (o : Option Unfolded) → nth rows (h % 2 ^ 26) ≡ o → is_sentinel f.sentinel h ≡ false → h / 2 ^ 26 ≡ 0
          → Coherent known (get_or rows (h % 2 ^ 26) (leaf h []))
      at_pair none e s z = rw (getD_none rows (h % 2 ^ 26) (leaf h []) e) tt
      at_pair (some u) e s z =
          let k = ok (h % 2 ^ 26) u e in
          let alike : h % 2 ^ 26 ≡ h = omega arith in
          let row : u ≡ node h k.0 k.1 = k.2 ∙ ap (λ i. node i k.0 k.1) alike in
          let t : get_or table (h % 2 ^ 26) (leaf h []) ≡ u = getD_nth table (h % 2 ^ 26) (leaf h []) (some u) (sub (h % 2 ^ 26) u e) u refl in
          let here : known h ≡ node h k.0 k.1 = rw (s, z, t) row in
          rw (getD_nth rows (h % 2 ^ 26) (leaf h []) (some u) e u refl, row) (here, k.3, k.4)

      by_kind : (n : ℕ) → h / 2 ^ 26 ≡ n → is_sentinel f.sentinel h ≡ false → Coherent known (named_by f rows h (node_of_kind n (h % 2 ^ 26)))
      by_kind zero e s = at_pair (nth rows (h % 2 ^ 26)) refl s e
      by_kind (suc zero) e s = tt
      by_kind (suc (suc zero)) e s = tt
      by_kind (suc (suc (suc n))) e s = tt

      on_sentinel : (b : Bool) → is_sentinel f.sentinel h ≡ b → Coherent known (cond b hole (named_by f rows h (node_of h)))
      on_sentinel true s = tt
      on_sentinel false s = by_kind (h / 2 ^ 26) refl s

  table_within : (ps : List Pair) (rows : List Unfolded) (i : ℕ) (u : Unfolded) → nth rows i ≡ some u → nth (unfold_pairs f ps rows) i ≡ some u
  table_within [] rows i u h = h
  table_within (p ∷ ps) rows i u h =
      table_within ps (rows ++ node (handle_of (pair (length rows))) (unfold_with f rows p.left) (unfold_with f rows p.right) ∷ []) i u
      (nth_append rows (node (handle_of (pair (length rows))) (unfold_with f rows p.left) (unfold_with f rows p.right) ∷ []) i u h)

  table_ok : (ps : List Pair) (rows : List Unfolded) → unfold_pairs f ps rows ≡ table → RowsOK rows → RowsOK table
  table_ok [] rows e ok = λ i u h. ok i u (subst (λ l. nth l i ≡ some u) (sym e) h)
  table_ok (p ∷ ps) rows e ok = table_ok ps (rows ++ new ∷ []) e more
    where
      new : Unfolded
      new = node (handle_of (pair (length rows))) (unfold_with f rows p.left) (unfold_with f rows p.right)

      within : Within rows
      within i u h = rw e at (table_within (p ∷ ps) rows i u h)

      case : (i : ℕ) (u : Unfolded) → (nth rows i ≡ some u) ⊎ ((i ≡ length rows) × (u ≡ new)) → RowOK i u
      case i u (inl h) = ok i u h
      case i u (inr h) = (
        unfold_with f rows p.left,
        unfold_with f rows p.right,
        rw h.0 (h.1 ∙ ap (λ n. node n (unfold_with f rows p.left) (unfold_with f rows p.right)) (pair_handle (length rows))),
        named_ok rows within ok p.left,
        named_ok rows within ok p.right,
      )

      more : RowsOK (rows ++ new ∷ [])
      more i u h = case i u (nth_snoc rows new i u h)

pub tree_coherent : (f : File) (h : ℕ) → Coherent (unfolded f) (unfolded f h)
unfolding unfolded
tree_coherent f h =
    let table : List Unfolded = unfold_pairs f f.pairs [] in
    named_ok f table table (λ i u e. e) (table_ok f table f.pairs [] refl (λ i u e. clash cc)) h

pub trees_coherent : (f : File) (hs : List ℕ) → AllCoherent (unfolded f) (map (unfolded f) hs)
trees_coherent f [] = tt
trees_coherent f (h ∷ hs) = (tree_coherent f h, trees_coherent f hs)
