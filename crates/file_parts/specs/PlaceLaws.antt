-- Where the parts of a file that was read lie, and that its handles name nodes.
-- Assumes nothing.
use Prim.Native.Nat.{ℕ, zero, suc, ◌+◌, ◌-◌, ◌≤◌, ◌<◌}
use Rattle.std.specs.Prelude.{◌≡◌, List, [], ◌∷◌, ◌++◌, leb, drop}
use Rattle.std.proofs.Math.Path.{refl, sym, ap, subst}
use Rattle.std.proofs.Common.{◌∙◌, append-nil, append_assoc, arith, add-one, length-append, drop_of_length-le, drop-cons, drop_at}
use Rattle.std.proofs.Math.Option.{Option}
use Rattle.std.proofs.Math.ListN.{length}
use Rattle.words.specs.Choice.{by_lt}
use Rattle.words.specs.Lists.{All}
use Rattle.spec_session.specs.File.{got, and_then, field, count, version_1, atom, atoms, Pair, one_pair, pairs, sentinel, Step, add, restore, forget, quote, take_quote, one_step, steps, File}
use Rattle.spec_session.specs.Places.{AtomsAt, PairsAt, StepsAt, StepIs, step_size, PairsNamed, StepNamed, ListedAtom}
use Rattle.file_parts.specs.Checked.{Contents}
use Rattle.spec_session.proofs.FileLaws.{then_of, asked_of, got_value, got_rest, field_at, atom_at, pair_at, step_at, sentinel_named, count_most, pairs_long, steps_most}

-- One of a list at its front, or at the end of what stands before.
onward : {A : Type 0} (done : List A) (x : A) (more xs : List A) → xs ≡ (done ++ x ∷ []) ++ more → xs ≡ done ++ x ∷ more
onward done x more xs e = e ∙ append_assoc done (x ∷ []) more

one_longer : {A : Type 0} (done : List A) (x : A) → length (done ++ x ∷ []) ≡ suc (length done)
one_longer done x = length-append done (x ∷ []) ∙ add-one (length done)

pub size_low : (x : Step) → 1 ≤ step_size x
size_low (add h) = omega arith
size_low (restore k) = omega arith
size_low (forget k) = omega arith
size_low (quote h) = omega arith
size_low take_quote = omega arith

module _ (input : List ℕ) where
  -- Atoms that were read from a place on, after those that were there.
  pub record AtomsRead (at n : ℕ) (done xs : List (List ℕ)) : Type 0 where
    pub more : List (List ℕ)
    pub is : xs ≡ done ++ more
    pub long : length more ≡ n
    pub there : AtomsAt input at more
    pub listed : All ListedAtom more

  pub atoms_read : (n used at : ℕ) (done xs : List (List ℕ)) (r : List ℕ) → atoms version_1 n used done (drop at input) ≡ got xs r → AtomsRead at n done xs
  unfolding atoms
  atoms_read zero used at done xs r e =
      record { more = []; is = sym (got_value done xs (drop at input) r e) ∙ sym (append-nil done); long = refl; there = tt; listed = tt }
  atoms_read (suc n) used at done xs r e =
      let t = then_of (atom version_1 used (drop at input)) _ xs r e in
      let a = atom_at input at used t.first t.rest t.first_is in
      let k = atoms_read n (used + length t.first) (at + 2 + length t.first) (done ++ t.first ∷ []) xs r
      (ap (atoms version_1 n (used + length t.first) (done ++ t.first ∷ [])) (sym a.rest_is) ∙ t.then_is) in
      record {
        more = t.first ∷ k.more;
        is = onward done t.first k.more xs k.is;
        long = ap suc k.long;
        there = (a.there, a.size_is, a.is, k.there);
        listed = (a.listed_is, k.listed);
      }

  -- Pairs that were read from a place on.
  pub record PairsRead (atoms at n : ℕ) (done xs : List Pair) : Type 0 where
    pub more : List Pair
    pub is : xs ≡ done ++ more
    pub there : PairsAt input at more
    pub names : PairsNamed atoms (length done) more

  pub pairs_read : (a n at : ℕ) (done xs : List Pair) (r : List ℕ) → pairs a n done (drop at input) ≡ got xs r → PairsRead a at n done xs
  unfolding pairs
  pairs_read a zero at done xs r e =
      record { more = []; is = sym (got_value done xs (drop at input) r e) ∙ sym (append-nil done); there = tt; names = tt }
  pairs_read a (suc n) at done xs r e =
      let t = then_of (one_pair a (length done) (drop at input)) _ xs r e in
      let q = pair_at input a (length done) at t.first t.rest t.first_is in
      let k = pairs_read a n (at + 8) (done ++ t.first ∷ []) xs r (ap (pairs a n (done ++ t.first ∷ [])) (sym q.rest_is) ∙ t.then_is) in
      record {
        more = t.first ∷ k.more;
        is = onward done t.first k.more xs k.is;
        there = (q.there, q.left_is, q.right_is, k.there);
        names = ((q.left_names, q.right_names), subst (λ (i : ℕ). PairsNamed a i k.more) (one_longer done t.first) k.names);
      }

  -- Steps that were read from a place on.
  pub record StepsRead (atoms pairs most at : ℕ) (done xs : List Step) : Type 0 where
    pub more : List Step
    pub is : xs ≡ done ++ more
    pub there : StepsAt input at more
    pub names : All (StepNamed atoms pairs) more

  steps_done : (a p most at : ℕ) (done xs : List Step) (r : List ℕ) → length input ≤ at → got done (drop at input) ≡ got xs r → StepsRead a p most at done xs
  steps_done a p most at done xs r l e =
      let same : done ≡ xs = got_value done xs (drop at input) r e in
      record { more = []; is = sym same ∙ sym (append-nil done); there = l; names = tt }

  -- At the end nothing is left, and before it there is one step more.
  none_left : (n a p most : ℕ) (done : List Step) (at : ℕ) → length input ≤ at → got done (drop at input) ≡ steps (suc n) a p most done (drop at input)
  unfolding steps
  none_left n a p most done at l = rw (drop_of_length-le input l) refl

  more_left : (n a p most : ℕ) (done : List Step) (at : ℕ) → at < length input
      → and_then (one_step a p (length done) most (drop at input)) (λ s r. steps n a p most (done ++ s ∷ []) r) ≡ steps (suc n) a p most done (drop at input)
  unfolding steps
  more_left n a p most done at l = rw (drop-cons input at 0 l) refl

  one : (a p most at : ℕ) (done xs : List Step) (r : List ℕ) (s : Step) → StepIs input at s → StepNamed a p s
      → StepsRead a p most (at + step_size s) (done ++ s ∷ []) xs → StepsRead a p most at done xs
  one a p most at done xs r s i n k =
      record {
        more = s ∷ k.more;
        is = onward done s k.more xs k.is;
        there = (i, k.there);
        names = (n, k.names);
      }

  pub steps_read : (n a p most at : ℕ) (done xs : List Step) (r : List ℕ) → length input - at ≤ n → steps n a p most done (drop at input) ≡ got xs r
      → StepsRead a p most at done xs
  unfolding steps
  steps_read zero a p most at done xs r l e = steps_done a p most at done xs r (omega arith) e
  steps_read (suc n) a p most at done xs r l e =
      by_lt at (length input)
      (λ h.
      let t = then_of (one_step a p (length done) most (drop at input)) _ xs r (more_left n a p most done at h ∙ e) in
      let s = step_at input a p (length done) most at t.first t.rest t.first_is in
      one a p most at done xs r t.first s.is s.names
      (steps_read n a p most (at + step_size t.first) (done ++ t.first ∷ []) xs r (omega (arith, size_low t.first))
      (ap (steps n a p most (done ++ t.first ∷ [])) (sym s.rest_is) ∙ t.then_is)))
      (λ h. steps_done a p most at done xs r h (none_left n a p most done at h ∙ e))

-- The contents of a file that was read, and its atoms.
pub record ContentsRead (input : List ℕ) (f : File) : Type 0 where
  pub atoms_there : AtomsAt input 7 f.atoms
  pub contents : Contents f

-- A count takes two bytes.
count_at : (input : List ℕ) (at most n : ℕ) (r : List ℕ) → count 2 most (drop at input) ≡ got n r → r ≡ drop (at + 2) input
count_at input at most n r e =
    let t = then_of (field 2 (drop at input)) _ n r e in
    let q = asked_of 5 (leb t.first most) (got t.first t.rest) n r t.then_is in
    sym (got_rest t.first n t.rest r q.1) ∙ (field_at input at 2 t.first t.rest t.first_is).rest_is

-- Each part of the file, read after the one before it.
module _ (input : List ℕ) (na : ℕ) (xs : List (List ℕ)) (np : ℕ) (ps : List Pair) (z : Option ℕ) (ss : List Step) (r₁ r₂ r₃ r₄ r₅ r₆ : List ℕ)
    (a : count 2 1024 (drop 5 input) ≡ got na r₁) (b : atoms version_1 na 0 [] r₁ ≡ got xs r₂) (c : count 2 1024 r₂ ≡ got np r₃)
    (d : pairs (length xs) np [] r₃ ≡ got ps r₄) (e : sentinel (length xs) (length ps) r₄ ≡ got z r₅)
    (g : steps (length r₅) (length xs) (length ps) 1024 [] r₅ ≡ got ss r₆) where
  atoms_of : AtomsRead input 7 na [] xs
  atoms_of = atoms_read input na 0 7 [] xs r₂ (ap (atoms version_1 na 0 []) (sym (count_at input 5 1024 na r₁ a)) ∙ b)

  pairs_of : PairsRead r₃ (length xs) 0 np [] ps
  pairs_of = pairs_read r₃ (length xs) np 0 [] ps r₄ (ap (pairs (length xs) np []) (drop_at [] r₃ 0 refl) ∙ d)

  steps_of : StepsRead r₅ (length xs) (length ps) 1024 0 [] ss
  steps_of = steps_read r₅ (length r₅) (length xs) (length ps) 1024 0 [] ss r₆ (omega arith) (ap (steps (length r₅) (length xs) (length ps) 1024 []) (drop_at [] r₅ 0 refl) ∙ g)

  long_atoms : length xs ≡ na
  long_atoms = ap length atoms_of.is ∙ atoms_of.long

  contents : Contents (record { atoms = xs; pairs = ps; sentinel = z; steps = ss })
  contents =
      record {
        few_atoms = omega (arith, long_atoms, count_most 2 1024 (drop 5 input) na r₁ a);
        few_pairs = omega (arith, pairs_long (length xs) np [] r₃ ps r₄ d, count_most 2 1024 r₂ np r₃ c);
        few_steps = steps_most (length r₅) (length xs) (length ps) 1024 [] r₅ ss r₆ (omega arith) g;
        atoms_listed = subst (All ListedAtom) (sym atoms_of.is) atoms_of.listed;
        pairs_named = subst (PairsNamed (length xs) 0) (sym pairs_of.is) pairs_of.names;
        sentinel_named = sentinel_named (length xs) (length ps) r₄ z r₅ e;
        steps_named = subst (All (StepNamed (length xs) (length ps))) (sym steps_of.is) steps_of.names;
      }

  pub contents_of : ContentsRead input (record { atoms = xs; pairs = ps; sentinel = z; steps = ss })
  contents_of = record { atoms_there = subst (AtomsAt input 7) (sym atoms_of.is) atoms_of.there; contents = contents }
