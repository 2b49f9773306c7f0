-- Laws of an item: its first byte says which kind it is, and each kind is read as the definition says.
-- Assumes nothing.
use Rattle.std.specs.Prelude.{Result, Ok, Err}
use Prim.Native.Nat.{ℕ, suc, ◌+◌, ◌*◌, ◌≤◌, ◌<◌}
use mathlib.Core.Path.{◌≡◌, refl, sym, ap, subst, ◌∙◌}
use mathlib.Core.List.{List, ◌∷◌}
use native.Mathlib.Omega.{arith}
use native.Mathlib.Numerals.{add-one}
use lib.ListN.{length, get_or, take, drop, drop_of_length-le}
use lib.Seq.{drop-cons}
use borrow.Author.Tests.{eq-eqb, ne_eqb}
use Rattle.words.specs.Words.{WORK}
use Rattle.words.specs.Choice.{cond_true, cond_false}
use Rattle.atom.specs.Parse.{parse}
use Rattle.spec_reading.specs.Format.{ParseOp, SExp, Cons, go, settle, atom_item, path_item, next_item, step}
use Rattle.spec_reading.specs.Store.{Value, Stored, store_values}
use Rattle.spec_reading.specs.Sound.{Sound, unlisted}
use Rattle.spec_reading.proofs.Sound.{sound_pair}
use Rattle.read_store.specs.Layout.{ops_of, PushedPair}
use Rattle.read_item.specs.declared.settle.Reader.{Reader}
use Rattle.read_item.specs.declared.settle.Item.{Item}
use Rattle.read_item.specs.declared.settle.Item.TheVariants as item
use Rattle.read_item.specs.declared.read_error.ReadError.{ReadError}
use Rattle.read_item.specs.declared.read_error.ReadError.TheVariants as read_error
use Rattle.read_item.specs.State.{stored_with}
use Rattle.read_item.specs.Whole.{stored_of, reader_at, Lent, Stands}
use Rattle.read_item.specs.Values.{SteppedAtom, BeforePath, path_there, SteppedPath, path_settled, path_refused}
use Rattle.read_item.specs.Step.{Stepped, pair_begun}
use Rattle.read_item.proofs.settle.Joins.{length_ops}
use Rattle.read_item.proofs.read_value.Lending.{lent_after, item_same, item_stands}

module _ (input w p a b : List ℕ) (r : Reader) where
  abbrev ops : List ParseOp
  ops = ops_of w r.ops

  abbrev stored : Stored
  stored = stored_of w p a b r

  step_is : step store_values (reader_at input w p a b r) ≡ next_item store_values (drop r.position input) ops stored
  unfolding step
  step_is = refl

  -- No byte is left.
  pub end_stepped : length input ≤ r.position → Stepped input w p a b r w p a b (Err read_error.SerializationError)
  end_stepped h =
      record { same = step_is ∙ ap (λ (l : List ℕ). next_item store_values l ops stored) (drop_of_length-le input {i = r.position} h); stands = tt }

  module _ (h : r.position < length input) where
    from_first : step store_values (reader_at input w p a b r) ≡ next_item store_values (get_or input r.position 0 ∷ drop (suc r.position) input) ops stored
    from_first = step_is ∙ ap (λ (l : List ℕ). next_item store_values l ops stored) (drop-cons input r.position 0 h)

    pub step_pair : get_or input r.position 0 ≡ 0xff → step store_values (reader_at input w p a b r) ≡ go (record { rest = drop (r.position + 1) input; ops = SExp ∷ Cons ∷ ops; values = stored })
    step_pair e =
        from_first ∙ cond_true _ _ _ (eq-eqb (get_or input r.position 0) 0xff e)
        ∙ ap (λ (n : ℕ). go (record { rest = drop n input; ops = SExp ∷ Cons ∷ ops; values = stored })) (sym (add-one r.position))

    pub step_path : get_or input r.position 0 ≡ 0xfe → step store_values (reader_at input w p a b r) ≡ path_there input w p (take (2 * r.atoms) a) (take r.bytes b) r
    step_path e =
        from_first ∙ cond_false _ _ _ (ne_eqb (get_or input r.position 0) 0xff (λ z. absurd (omega (arith, z, e)))) ∙ cond_true _ _ _ (eq-eqb (get_or input r.position 0) 0xfe e)
        ∙ ap (λ (n : ℕ). path_item store_values (parse (drop n input)) (drop n input) ops stored) (sym (add-one r.position))

    pub step_atom : (get_or input r.position 0 ≡ 0xff → ⊥) → (get_or input r.position 0 ≡ 0xfe → ⊥)
        → step store_values (reader_at input w p a b r) ≡ atom_item store_values (parse (drop r.position input)) (drop r.position input) ops stored
    step_atom other d =
        from_first ∙ cond_false _ _ _ (ne_eqb (get_or input r.position 0) 0xff other) ∙ cond_false _ _ _ (ne_eqb (get_or input r.position 0) 0xfe d)
        ∙ ap (λ (l : List ℕ). atom_item store_values (parse l) l ops stored) (sym (drop-cons input r.position 0 h))

    module _ (k : Stands input w p a b r) where
      -- ---- a pair's mark

      pub pair_room : (WORK ≤ length w) × (r.ops + 2 ≤ 131072) × (r.position ≤ 65535)
      pair_room = (k.lent.work, omega (arith, k.sound.ops_bound, length_ops w r.ops, k.lent.short), omega (arith, k.lent.short))

      pub pair_stepped : (w' : List ℕ) → length w' ≡ length w → PushedPair w w' r.ops → get_or input r.position 0 ≡ 0xff → (r' : Reader) → r' ≡ pair_begun r
          → Stepped input w p a b r w' p a b (Ok (item.Go r'))
      pair_stepped w' lw q e r' er =
          subst (λ (x : Reader). Stepped input w p a b r w' p a b (Ok (item.Go x))) (sym er)
          (record {
            same = step_pair e ∙ ap (λ (o : List ParseOp). go (record { rest = drop (r.position + 1) input; ops = o; values = stored })) (sym q.ops)
                ∙ ap (λ (s : Stored). go (record { rest = drop (r.position + 1) input; ops = ops_of w' (r.ops + 2); values = s })) same_stored;
            stands =
                record {
                  lent = lent_after input w p a b r w' p a b (pair_begun r) k.lent lw refl refl refl (omega arith) k.lent.pairs_in (omega arith) refl k.lent.atoms_in
                      (omega arith) refl k.lent.bytes_in (omega arith) refl;
                  sound = subst (λ (o : List ParseOp). Sound (r.position + 1) (SExp ∷ o) (stored_of w' p a b (pair_begun r))) (sym q.ops)
                      (subst (Sound (r.position + 1) (SExp ∷ SExp ∷ Cons ∷ ops)) same_stored (sound_pair r.position ops stored k.sound));
                  lists = record { all = ap unlisted (q.values r.listed) ∙ k.lists.all; few = k.lists.few };
                };
          })
        where
          same_stored : stored_of w p a b r ≡ stored_of w' p a b (pair_begun r)
          same_stored = ap (λ (vs : List Value). record { values = vs; store = (stored_of w p a b r).store }) (sym (q.values r.values))

      -- ---- an atom

      pub atom_stepped : (w' p' a' b' : List ℕ) (i : Result Item ReadError) → (get_or input r.position 0 ≡ 0xff → ⊥) → (get_or input r.position 0 ≡ 0xfe → ⊥)
          → SteppedAtom input w p a b r w' p' a' b' i → Stepped input w p a b r w' p' a' b' i
      atom_stepped w' p' a' b' i d e s = record { same = step_atom d e ∙ s.same; stands = s.stands }

      -- ---- a reference

      pub before_path : BeforePath input w p r
      before_path =
          record {
            atoms = take (2 * r.atoms) a;
            bytes = take r.bytes b;
            work = k.lent.work;
            room = k.lent.pairs_room;
            short = k.lent.short;
            inside = h;
            pairs_in = k.lent.pairs_in;
            sound = k.sound;
            lists = k.lists;
          }

      pub path_stepped : (w'' p'' : List ℕ) (i : Result Item ReadError) → get_or input r.position 0 ≡ 0xfe → SteppedPath input w p r w'' p'' i → Stepped input w p a b r w'' p'' a b i
      path_stepped w'' p'' i e (path_refused n ei f) =
          subst (λ (x : Result Item ReadError). Stepped input w p a b r w'' p'' a b x) (sym ei) (record { same = step_path e ∙ f (take (2 * r.atoms) a) (take r.bytes b); stands = tt })
      path_stepped w'' p'' i e (path_settled w' p' s q lw lp n) =
          record {
            same =
                step_path e ∙ q.same (take (2 * r.atoms) a) (take r.bytes b)
                ∙ ap (λ (x : Stored). settle store_values (drop s.position input) (ops_of w' s.ops) x) atoms_are
                ∙ n.same (take (2 * s.atoms) a) (take s.bytes b) ∙ item_same input w' p' s a b w'' p'' lent lw lp sound i n.follows;
            stands = item_stands input w' p' s a b w'' p'' lent lw lp sound i n.follows;
          }
        where
          atoms_are : stored_with w' p' (take (2 * r.atoms) a) (take r.bytes b) s ≡ stored_of w' p' a b s
          atoms_are =
              ap (λ (m : ℕ). stored_with w' p' (take (2 * m) a) (take r.bytes b) s) (sym q.atoms_same)
              ∙ ap (λ (m : ℕ). stored_with w' p' (take (2 * s.atoms) a) (take m b) s) (sym q.bytes_same)

          lent : Lent input w' p' a b s
          lent =
              lent_after input w p a b r w' p' a b s k.lent q.long_work q.long_pairs refl refl q.inside q.pairs_in q.more q.pairs_rest
              (omega (arith, q.atoms_same, k.lent.atoms_in)) (omega (arith, q.atoms_same)) refl (omega (arith, q.bytes_same, k.lent.bytes_in)) (omega (arith, q.bytes_same)) refl

          sound : Sound s.position (ops_of w' s.ops) (stored_of w' p' a b s)
          sound = subst (Sound s.position (ops_of w' s.ops)) atoms_are (q.kept (take (2 * r.atoms) a) (take r.bytes b) k.sound)
