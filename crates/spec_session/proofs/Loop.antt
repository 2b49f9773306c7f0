-- `resume` is the loop of incremental.rs: one equation for each turn. A loop's invariant is that `resume` at the present state is `resume` at the first.
use Rattle.std.specs.Prelude.{◌≡◌, List, [], ◌∷◌, Bool, ℕ}
use Rattle.std.proofs.Math.Path.{refl}
use Rattle.std.proofs.Common.{◌∙◌}
use Rattle.std.proofs.Math.Option.{Option, none, some}
use Rattle.spec_session.specs.Unfold.{Unfolded, hole, leaf, node}
use Rattle.spec_session.specs.Cache.{Cache}
use Rattle.spec_session.specs.Items.{cons_item, atom_item, reference_item, Item}
use Rattle.spec_session.specs.Writer.{Todo, parse, close, Written, Outcome, done, stopped, refused, and_then, atom_entry, pair_entry, close_up, put, put_whole, write, resume}

and_assoc : (o : Outcome) (f g : Written → Outcome) → and_then (and_then o f) g ≡ and_then o (λ w. and_then (f w) g)
and_assoc (done w) f g = refl
and_assoc (stopped k w) f g = refl
and_assoc (refused n w) f g = refl

and_cong : (o : Outcome) (f g : Written → Outcome) → ((w : Written) → f w ≡ g w) → and_then o f ≡ and_then o g
and_cong (done w) f g h = h w
and_cong (stopped k w) f g h = refl
and_cong (refused n w) f g h = refl

module _ (find : Cache → List ℕ → List ℕ → ℕ → ℕ → Option (List Bool)) (room : List Todo → List Item → Item → ℕ) (c : Cache) where
  pub turn_done : (w : Written) → resume find room c [] w ≡ done w
  unfolding resume
  turn_done w = refl

  pub turn_hole : (k : List Todo) (w : Written) → resume find room c (parse hole ∷ k) w ≡ stopped k w
  unfolding resume write
  turn_hole k w = refl

  pub turn_close : (h : ℕ) (k : List Todo) (w : Written) → resume find room c (close h ∷ k) w ≡ resume find room c k (close_up c h w)
  unfolding resume
  turn_close h k w = refl

  pub turn_atom : (h : ℕ) (bs : List ℕ) (k : List Todo) (w : Written) → find c w.marked w.stack h (atom_entry c bs) ≡ none
      → resume find room c (parse (leaf h bs) ∷ k) w ≡ and_then (put_whole find room c k (atom_entry c bs) (atom_item bs) w) (resume find room c k)
  unfolding resume write
  turn_atom h bs k w e = rw e

  pub turn_atom_ref : (h : ℕ) (bs : List ℕ) (k : List Todo) (w : Written) (path : List Bool) → find c w.marked w.stack h (atom_entry c bs) ≡ some path
      → resume find room c (parse (leaf h bs) ∷ k) w ≡ and_then (put_whole find room c k (atom_entry c bs) (reference_item path) w) (resume find room c k)
  unfolding resume write
  turn_atom_ref h bs k w path e = rw e

  pub turn_pair_ref : (h : ℕ) (l r : Unfolded) (k : List Todo) (w : Written) (path : List Bool) → find c w.marked w.stack h (pair_entry c h) ≡ some path
      → resume find room c (parse (node h l r) ∷ k) w ≡ and_then (put_whole find room c k (pair_entry c h) (reference_item path) w) (resume find room c k)
  unfolding resume write
  turn_pair_ref h l r k w path e = rw e

  -- A pair in full: its `ff`, and then its sides and its end are left to write.
  pub turn_pair : (h : ℕ) (l r : Unfolded) (k : List Todo) (w : Written) → find c w.marked w.stack h (pair_entry c h) ≡ none
      → resume find room c (parse (node h l r) ∷ k) w ≡ and_then (put find room k cons_item w) (resume find room c (parse l ∷ parse r ∷ close h ∷ k))
  unfolding resume write
  turn_pair h l r k w e =
      rw e
      (and_assoc (put find room k cons_item w) _ (λ v. resume find room c k v)
      ∙ and_cong (put find room k cons_item w) _ (resume find room c (parse l ∷ parse r ∷ close h ∷ k)) (λ w₁.
      and_assoc (write find room c l (parse r ∷ close h ∷ k) w₁) _ (λ v. resume find room c k v)
      ∙ and_cong (write find room c l (parse r ∷ close h ∷ k) w₁) _ _ (λ w₂.
      and_assoc (write find room c r (close h ∷ k) w₂) _ (λ v. resume find room c k v))))
