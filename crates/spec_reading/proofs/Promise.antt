-- What the reading call promises of its result: the tree that the input stands for, or why there is none. The call's definition keeps it, for every input
-- and all slices.
-- Assumes nothing.
use Rattle.std.specs.Prelude.{ℕ, ◌-◌, ◌≤◌, ◌≡◌, true, List, [], ◌∷◌, leb, length, replicate}
use Rattle.std.proofs.Math.Path.{refl}
use Rattle.std.proofs.Common.{sym, ◌∙◌, subst, leb-true, leb-false, le-leb}
use Rattle.words.specs.Choice.{by_cond}
use Rattle.words.specs.Lists.{Bytes}
use Rattle.spec_reading.specs.Tree.{Tree}
use Rattle.spec_reading.specs.Grammar.{StandsFor}
use Rattle.spec_reading.specs.Format.{accepted}
use Rattle.spec_reading.specs.Plain.{Plain, plain_values, no_trees, read_plain}
use Rattle.spec_reading.specs.Store.{Stored, read_stored}
use Rattle.spec_reading.specs.Names.{NamesHandle}
use Rattle.spec_reading.proofs.Names.{names_more}
use Rattle.spec_reading.specs.Call.{Slices, root_of, after, long_enough, reading}
use Rattle.spec_reading.proofs.GrammarLaws.{read_grammar, turned_down_none}
use Rattle.spec_reading.proofs.Refusals.{read_refusal}
use Rattle.spec_reading.proofs.Agree.{ReadersAgree, both_turned_down, both_accepted, SameTree, readers_agree}
use Rattle.spec_reading.specs.Promise.{ReadAs, ReadsPlainly, a_tree, no_tree, too_long, too_short}

-- ---- the statement

-- ---- the store in the slices

-- A store names its tree also in the slices, past whose used slots there are zeros.
accepted_as : (s : Stored) (tree : Tree) (l : Slices) → NamesHandle s.store (root_of s.values) tree → ReadAs (after (accepted s) l) tree
accepted_as s tree l named =
    record {
      number = refl;
      root =
          names_more s.store _ _ tree
          (record {
            pairs_added = replicate (length l.pairs - length s.store.pairs) 0;
            atoms_added = replicate (length l.atoms - length s.store.atoms) 0;
            bytes_added = replicate (length l.bytes - length s.store.bytes) 0;
            pairs_are = refl;
            atoms_are = refl;
            bytes_are = refl;
          })
          named;
    }

-- What the store's reader accepts, the call reads as the root's tree.
pub read_as : (input : List ℕ) (s : Stored) (tree : Tree) → length input ≤ 65535 → read_stored input ≡ accepted s → NamesHandle s.store (root_of s.values) tree
    → (l : Slices) → long_enough l ≡ true → ReadAs (reading input l) tree
unfolding reading
read_as input s tree short got named l long =
    let few : leb (length input) 65535 ≡ true = le-leb (length input) 65535 short in
    rw (long, few, got) (accepted_as s tree l named)

-- ---- the promise

module _ (input : List ℕ) (bytes : Bytes input) (l : Slices) where
  read_tree : (s : Stored) (p : Plain) → read_plain input ≡ accepted p → SameTree s p → ReadsPlainly input (after (accepted s) l)
  read_tree s p e same =
      let g = read_grammar input p bytes e in
      let lists : ◌≡◌ {A = List Tree} (g.0 ∷ []) (same.tree ∷ []) = sym g.1 ∙ same.only_tree in
      let one : g.0 ≡ same.tree = cc in
      a_tree same.tree (subst (λ (t : Tree). StandsFor [] input t) one g.2) (accepted_as s same.tree l same.root_named)
      (e ∙ (λ i. accepted (record { trees = same.only_tree i; made = sym same.same_pairs i })))

  read_in : length input ≤ 65535 → ReadsPlainly input (after (read_stored input) l)
  read_in short = go (readers_agree input bytes short)
    where
      go : ReadersAgree input → ReadsPlainly input (after (read_stored input) l)
      go (both_turned_down n e f) =
          let n_is = read_refusal plain_values input no_trees n f in
          rw e (no_tree n_is.0 n_is.1 (turned_down_none input n f) f)
      go (both_accepted s p e f same) = rw e (read_tree s p f same)

  -- THE PROMISE, of every input and all slices.
  pub reads_plainly : ReadsPlainly input (reading input l)
  unfolding reading
  reads_plainly =
      by_cond (ReadsPlainly input) (long_enough l) _ _
      (λ long. by_cond (ReadsPlainly input) (leb (length input) 65535) _ _ (λ e. read_in (leb-true _ _ e)) (λ e. too_long refl (leb-false _ _ e)))
      (λ e. too_short refl e)
