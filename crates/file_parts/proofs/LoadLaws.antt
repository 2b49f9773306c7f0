-- Laws of the loaders: what a turn stores, that the steps are read one by one, and that a forget or a quote among them is found.
-- Assumes nothing.
use Prim.Native.Nat.{ℕ, suc, ◌+◌, ◌-◌, ◌*◌, ◌≤◌, ◌<◌}
use mathlib.Core.Path.{◌≡◌, refl, sym, ap, subst, ◌∙◌}
use mathlib.Core.Bool.{true, false, cond}
use mathlib.Core.Logic.{◌⊎◌, inl, inr}
use mathlib.Core.List.{List, [], ◌∷◌}
use native.Mathlib.Omega.{arith}
use native.Mathlib.Numerals.{add-one}
use native.Mathlib.Nat.{le_antisymm}
use lib.Dec.{eqb}
use lib.ListN.{length, get_or, take, drop, set, length-set}
use lib.Seq.{drop-cons, get_or-set_same, get_or-set_other, drop_at}
use borrow.Author.Tests.{ne_eqb}
use Rattle.std.specs.Prelude.{Some, None}
use Rattle.words.specs.Choice.{by_cond, cond_false, by_lt}
use Rattle.words.specs.Words.{at, part}
use Rattle.words.specs.BigEndian.{number}
use Rattle.spec_session.specs.File.{Pair, Step, add, restore, forget, quote, take_quote}
use Rattle.spec_session.specs.Places.{AtomsAt, PairsAt, StepIs, StepsAt, step_size}
use Rattle.file_parts.specs.Loaded.{AtomsThere, AtomPlace, AtomsLoaded, PairsThere, pair_of, PairsLoaded, step_of, FirstStep, forgets}
use Rattle.file_parts.specs.declared.session_file.NextStep.{NextStep}
use Rattle.file_parts.specs.declared.session_file.Step as code_step
use Rattle.file_parts.specs.declared.session_file.Step.TheVariants as code

-- ---- two words stored at 2·i and 2·i + 1

abbrev two : List ℕ → (i x y : ℕ) → List ℕ
two w i x y = set (set w (2 * i) x) (2 * i + 1) y

module _ (w : List ℕ) (i x y : ℕ) (room : 2 * i + 1 < length w) where
  two_first : at (two w i x y) (2 * i) ≡ x
  two_first = get_or-set_other (set w (2 * i) x) (2 * i + 1) (2 * i) y 0 (λ e. omega arith) ∙ get_or-set_same w (2 * i) x 0 (omega arith)

  two_second : at (two w i x y) (2 * i + 1) ≡ y
  two_second = get_or-set_same (set w (2 * i) x) (2 * i + 1) y 0 (simp length-set room)

  two_other : (k : ℕ) → (k ≡ 2 * i → ⊥) → (k ≡ 2 * i + 1 → ⊥) → at (two w i x y) k ≡ at w k
  two_other k p q = get_or-set_other (set w (2 * i) x) (2 * i + 1) k y 0 q ∙ get_or-set_other w (2 * i) k x 0 p

-- ---- atoms

-- i atoms are loaded, and the others stand from this place on.
pub record LoadingAtoms (input : List ℕ) (count : ℕ) (w w' : List ℕ) (place i : ℕ) : Type 0 where
  pub xs : List (List ℕ)
  pub long : length xs ≡ count
  pub there : AtomsAt input 7 xs
  pub left : AtomsAt input place (drop i xs)
  pub places : (k : ℕ) → k < i → AtomPlace input (at w' (2 * k)) (at w' (2 * k + 1)) (get_or xs k [])
  pub others : (k : ℕ) → 2 * i ≤ k → at w' k ≡ at w k

pub loading_atoms : (input : List ℕ) (count : ℕ) (w : List ℕ) → AtomsThere input count → LoadingAtoms input count w w 7 0
loading_atoms input count w a =
    record {
      xs = a.atoms;
      long = a.long;
      there = a.there;
      left = subst (AtomsAt input 7) (sym (drop_at [] a.atoms 0 refl)) a.there;
      places = λ k h. absurd (omega arith);
      others = λ k h. refl;
    }

-- Atoms that stand at one place are the same.
atoms_same : (input : List ℕ) (place : ℕ) (xs ys : List (List ℕ)) → length xs ≡ length ys → AtomsAt input place xs → AtomsAt input place ys → xs ≡ ys
atoms_same input place [] [] e h k = refl
atoms_same input place [] (y ∷ ys) e h k = absurd (omega arith)
atoms_same input place (x ∷ xs) [] e h k = absurd (omega arith)
atoms_same input place (x ∷ xs) (y ∷ ys) e h k =
    let size : length x ≡ length y = sym h.1 ∙ k.1 in
    let same : x ≡ y = sym h.2 ∙ ap (part input (place + 2)) size ∙ k.2 in
    let rest : xs ≡ ys = atoms_same input (place + 2 + length x) xs ys (omega arith) h.3 (subst (λ (n : ℕ). AtomsAt input (place + 2 + n) ys) (sym size) k.3) in
    rw (same, rest)

module _ {input : List ℕ} {count : ℕ} {w w' : List ℕ} {place i : ℕ} (s : LoadingAtoms input count w w' place i) where
  pub atoms_loaded : count ≤ i → i ≤ count → (ys : List (List ℕ)) → length ys ≡ count → AtomsAt input 7 ys → AtomsLoaded input ys w w'
  atoms_loaded l m ys e h =
      subst (λ (z : List (List ℕ)). AtomsLoaded input z w w') (atoms_same input 7 s.xs ys (s.long ∙ sym e) s.there h)
      (record { places = λ k q. s.places k (omega (arith, s.long)); others = λ k q. s.others k (omega (arith, s.long)) })

  module _ (h : i < count) where
    next_atom : AtomsAt input place (get_or s.xs i [] ∷ drop (suc i) s.xs)
    next_atom = subst (AtomsAt input place) (drop-cons s.xs i [] (omega (arith, s.long))) s.left

    pub atom_room : place + 2 ≤ length input
    atom_room = omega (arith, next_atom.0)

    module _ (v : ℕ) (e : v ≡ number (part input place 2)) where
      size : v ≡ length (get_or s.xs i [])
      size = e ∙ next_atom.1

      pub atom_end : place + 2 + v ≤ length input
      atom_end = omega (arith, next_atom.0, size)

      here : AtomPlace input (place + 2) (place + 2 + v) (get_or s.xs i [])
      unfolding part
      here =
          let n : place + 2 + v - (place + 2) ≡ length (get_or s.xs i []) = omega (arith, size) in
          record { before = omega arith; inside = atom_end; is = ap (λ (k : ℕ). take k (drop (place + 2) input)) n ∙ next_atom.2 }

      pub atoms_turn : 2 * i + 1 < length w' → LoadingAtoms input count w (two w' i (place + 2) (place + 2 + v)) (place + 2 + v) (i + 1)
      atoms_turn room =
          record {
            xs = s.xs;
            long = s.long;
            there = s.there;
            left = subst (λ (n : ℕ). AtomsAt input (place + 2 + v) (drop n s.xs)) (sym (add-one i))
                (subst (λ (n : ℕ). AtomsAt input (place + 2 + n) (drop (suc i) s.xs)) (sym size) next_atom.3);
            places = λ k l. by_lt k i (λ m. old k m) (λ m. new k (le_antisymm (omega arith) m));
            others = λ k l. two_other w' i (place + 2) (place + 2 + v) room k (λ q. omega arith) (λ q. omega arith) ∙ s.others k (omega arith);
          }
        where
          old : (k : ℕ) → k < i → AtomPlace input (at (two w' i (place + 2) (place + 2 + v)) (2 * k)) (at (two w' i (place + 2) (place + 2 + v)) (2 * k + 1)) (get_or s.xs k [])
          old k m =
              subst (λ (a : ℕ). AtomPlace input a (at (two w' i (place + 2) (place + 2 + v)) (2 * k + 1)) (get_or s.xs k []))
              (sym (two_other w' i (place + 2) (place + 2 + v) room (2 * k) (λ q. omega arith) (λ q. omega arith)))
              (subst (λ (a : ℕ). AtomPlace input (at w' (2 * k)) a (get_or s.xs k []))
              (sym (two_other w' i (place + 2) (place + 2 + v) room (2 * k + 1) (λ q. omega arith) (λ q. omega arith))) (s.places k m))

          new : (k : ℕ) → k ≡ i → AtomPlace input (at (two w' i (place + 2) (place + 2 + v)) (2 * k)) (at (two w' i (place + 2) (place + 2 + v)) (2 * k + 1)) (get_or s.xs k [])
          new k q =
              subst (λ (j : ℕ). AtomPlace input (at (two w' i (place + 2) (place + 2 + v)) (2 * j)) (at (two w' i (place + 2) (place + 2 + v)) (2 * j + 1)) (get_or s.xs j [])) (sym q)
              (subst (λ (a : ℕ). AtomPlace input a (at (two w' i (place + 2) (place + 2 + v)) (2 * i + 1)) (get_or s.xs i [])) (sym (two_first w' i (place + 2) (place + 2 + v) room))
              (subst (λ (a : ℕ). AtomPlace input (place + 2) a (get_or s.xs i [])) (sym (two_second w' i (place + 2) (place + 2 + v) room)) here))

-- ---- pairs

-- i pairs are loaded, and the others stand from this place on.
pub record LoadingPairs (input : List ℕ) (from count : ℕ) (w w' : List ℕ) (place i : ℕ) : Type 0 where
  pub ps : List Pair
  pub long : length ps ≡ count
  pub there : PairsAt input from ps
  pub left_over : PairsAt input place (drop i ps)
  pub lefts : (k : ℕ) → k < i → at w' (2 * k) ≡ (pair_of ps k).left
  pub rights : (k : ℕ) → k < i → at w' (2 * k + 1) ≡ (pair_of ps k).right
  pub others : (k : ℕ) → 2 * i ≤ k → at w' k ≡ at w k

pub loading_pairs : (input : List ℕ) (from count : ℕ) (w : List ℕ) → PairsThere input from count → LoadingPairs input from count w w from 0
loading_pairs input from count w a =
    record {
      ps = a.pairs;
      long = a.long;
      there = a.there;
      left_over = subst (PairsAt input from) (sym (drop_at [] a.pairs 0 refl)) a.there;
      lefts = λ k h. absurd (omega arith);
      rights = λ k h. absurd (omega arith);
      others = λ k h. refl;
    }

-- Pairs that stand at one place are the same.
pairs_same : (input : List ℕ) (place : ℕ) (ps qs : List Pair) → length ps ≡ length qs → PairsAt input place ps → PairsAt input place qs → ps ≡ qs
pairs_same input place [] [] e h k = refl
pairs_same input place [] (q ∷ qs) e h k = absurd (omega arith)
pairs_same input place (p ∷ ps) [] e h k = absurd (omega arith)
pairs_same input place (p ∷ ps) (q ∷ qs) e h k =
    let l : p.left ≡ q.left = sym h.1 ∙ k.1 in
    let r : p.right ≡ q.right = sym h.2 ∙ k.2 in
    let same : p ≡ q = λ i. record { left = l i; right = r i } in
    let rest : ps ≡ qs = pairs_same input (place + 8) ps qs (omega arith) h.3 k.3 in
    rw (same, rest)

module _ {input : List ℕ} {from count : ℕ} {w w' : List ℕ} {place i : ℕ} (s : LoadingPairs input from count w w' place i) where
  pub pairs_loaded : count ≤ i → i ≤ count → (qs : List Pair) → length qs ≡ count → PairsAt input from qs → PairsLoaded qs w w'
  pairs_loaded l m qs e h =
      subst (λ (z : List Pair). PairsLoaded z w w') (pairs_same input from s.ps qs (s.long ∙ sym e) s.there h)
      (record {
        lefts = λ k q. s.lefts k (omega (arith, s.long));
        rights = λ k q. s.rights k (omega (arith, s.long));
        others = λ k q. s.others k (omega (arith, s.long));
      })

  module _ (h : i < count) where
    next_pair : PairsAt input place (pair_of s.ps i ∷ drop (suc i) s.ps)
    next_pair = subst (PairsAt input place) (drop-cons s.ps i (record { left = 0; right = 0 }) (omega (arith, s.long))) s.left_over

    pub pair_room : place + 8 ≤ length input
    pair_room = next_pair.0

    pub pairs_turn : (l r : ℕ) → l ≡ number (part input place 4) → r ≡ number (part input (place + 4) 4) → 2 * i + 1 < length w'
        → LoadingPairs input from count w (two w' i l r) (place + 8) (i + 1)
    pairs_turn l r d e room =
        record {
          ps = s.ps;
          long = s.long;
          there = s.there;
          left_over = subst (λ (n : ℕ). PairsAt input (place + 8) (drop n s.ps)) (sym (add-one i)) next_pair.3;
          lefts = λ k q. by_lt k i
              (λ m. two_other w' i l r room (2 * k) (λ z. omega arith) (λ z. omega arith) ∙ s.lefts k m)
              (λ m. new_left k (le_antisymm (omega arith) m));
          rights = λ k q. by_lt k i
              (λ m. two_other w' i l r room (2 * k + 1) (λ z. omega arith) (λ z. omega arith) ∙ s.rights k m)
              (λ m. new_right k (le_antisymm (omega arith) m));
          others = λ k q. two_other w' i l r room k (λ z. omega arith) (λ z. omega arith) ∙ s.others k (omega arith);
        }
      where
        new_left : (k : ℕ) → k ≡ i → at (two w' i l r) (2 * k) ≡ (pair_of s.ps k).left
        new_left k q = subst (λ (j : ℕ). at (two w' i l r) (2 * j) ≡ (pair_of s.ps j).left) (sym q) (two_first w' i l r room ∙ d ∙ next_pair.1)

        new_right : (k : ℕ) → k ≡ i → at (two w' i l r) (2 * k + 1) ≡ (pair_of s.ps k).right
        new_right k q = subst (λ (j : ℕ). at (two w' i l r) (2 * j + 1) ≡ (pair_of s.ps j).right) (sym q) (two_second w' i l r room ∙ e ∙ next_pair.2)

-- ---- steps

module _ (input : List ℕ) (place : ℕ) where
  step_room : (s : Step) → StepIs input place s → place + step_size s ≤ length input
  step_room (add n) h = h.0
  step_room (restore k) h = h.0
  step_room (forget k) h = h.0
  step_room (quote n) h = h.0
  step_room take_quote h = h.0

  -- The one step of this code that can stand there. A code that is no other's is a restore's.
  abbrev pub coded : (code : ℕ) → Step
  coded c =
      cond (eqb c 5) take_quote
      (cond (eqb c 1) (add (number (part input (place + 1) 4)))
      (cond (eqb c 4) (quote (number (part input (place + 1) 4)))
      (cond (eqb c 3) (forget (number (part input (place + 1) 2))) (restore (number (part input (place + 1) 2))))))

  module _ (c : ℕ) (e : c ≡ number (part input place 1)) where
    -- Whatever stands there is that one.
    is_coded : (s : Step) → StepIs input place s → s ≡ coded c
    is_coded (add n) h = ap add (sym h.2) ∙ ap coded (sym (e ∙ h.1))
    is_coded (restore k) h = ap restore (sym h.2) ∙ ap coded (sym (e ∙ h.1))
    is_coded (forget k) h = ap forget (sym h.2) ∙ ap coded (sym (e ∙ h.1))
    is_coded (quote n) h = ap quote (sym h.2) ∙ ap coded (sym (e ∙ h.1))
    is_coded take_quote h = ap coded (sym (e ∙ h.1))

    -- Where what is left is shorter, no step stands there.
    pub step_short : (size : ℕ) → size ≤ step_size (coded c) → length input - place < size → (ss : List Step) → StepsAt input place ss → ss ≡ []
    step_short size least l [] h = refl
    step_short size least l (s ∷ ss) h = absurd (omega (arith, ap step_size (is_coded s h.0), step_room s h.0))

    -- That step is the first.
    pub step_first : (x : Step) → x ≡ coded c → place < length input → (ss : List Step) → StepsAt input place ss
        → (rest : List Step) × (ss ≡ x ∷ rest) × StepsAt input (place + step_size x) rest
    step_first x d l [] h = absurd (omega arith)
    step_first x d l (s ∷ ss) h =
        let o : s ≡ x = is_coded s h.0 ∙ sym d in (ss, ap (λ (y : Step). y ∷ ss) o, subst (λ (y : Step). StepsAt input (place + step_size y) ss) o h.1)

  module _ (c : ℕ) where
    -- An add or a quote has a handle.
    pub handle_size : (c ≡ 1) ⊎ (c ≡ 4) → 5 ≤ step_size (coded c)
    handle_size (inl e) = omega (arith, ap (λ (k : ℕ). step_size (coded k)) e)
    handle_size (inr e) = omega (arith, ap (λ (k : ℕ). step_size (coded k)) e)

    -- A step that is neither of them and no taking has a number.
    module _ (d₅ : c ≡ 5 → ⊥) (d₁ : c ≡ 1 → ⊥) (d₄ : c ≡ 4 → ⊥) where
      numbered : coded c ≡ cond (eqb c 3) (forget (number (part input (place + 1) 2))) (restore (number (part input (place + 1) 2)))
      numbered = cond_false (eqb c 5) _ _ (ne_eqb c 5 d₅) ∙ cond_false (eqb c 1) _ _ (ne_eqb c 1 d₁) ∙ cond_false (eqb c 4) _ _ (ne_eqb c 4 d₄)

      pub number_size : 3 ≤ step_size (coded c)
      number_size = subst (λ (s : Step). 3 ≤ step_size s) (sym numbered) (by_cond (λ (s : Step). 3 ≤ step_size s) (eqb c 3) _ _ (λ t. omega arith) (λ t. omega arith))

      pub restore_coded : (c ≡ 3 → ⊥) → coded c ≡ restore (number (part input (place + 1) 2))
      restore_coded d₃ = numbered ∙ cond_false (eqb c 3) _ _ (ne_eqb c 3 d₃)

-- ---- whether a step is a forget or a quote

-- The steps from `place` on have a forget or a quote where those from `at` on have one.
abbrev pub ForgetsOn : List ℕ → (at place : ℕ) → Type 0
ForgetsOn input at place = (ss : List Step) → StepsAt input at ss → (rest : List Step) × StepsAt input place rest × (forgets ss ≡ forgets rest)

-- The steps from a place on have a forget or a quote if the first is one, and otherwise where those after it have one.
pub forgets_none : (input : List ℕ) (at place : ℕ) → ForgetsOn input at place → ((ss : List Step) → StepsAt input place ss → FirstStep input ss None)
    → (ss : List Step) → StepsAt input at ss → false ≡ forgets ss
forgets_none input at place on first ss h = let o = on ss h in sym (o.2 ∙ ap forgets (first o.0 o.1))

-- What a step says of those from its place on: the same holds from the next place on, or this is the answer.
abbrev pub ForgetsAfter : List ℕ → (at : ℕ) → code_step.Step → (next : ℕ) → Type 0
ForgetsAfter input at (code.Add node) next = ForgetsOn input at next
ForgetsAfter input at (code.Restore k) next = ForgetsOn input at next
ForgetsAfter input at (code.Forget k) next = (ss : List Step) → StepsAt input at ss → true ≡ forgets ss
ForgetsAfter input at (code.Quote node) next = (ss : List Step) → StepsAt input at ss → true ≡ forgets ss
ForgetsAfter input at code.Take next = ForgetsOn input at next

pub forgets_after : (input : List ℕ) (at place : ℕ) → ForgetsOn input at place
    → (n : NextStep) → ((ss : List Step) → StepsAt input place ss → FirstStep input ss (Some n)) → (s : code_step.Step) → n.step ≡ s → ForgetsAfter input at s n.next
forgets_after input at place on n first s e = go s (ap step_of e)
  where
    go : (t : code_step.Step) → step_of n.step ≡ step_of t → ForgetsAfter input at t n.next
    go (code.Add node) q = λ ss h. let o = on ss h in let f = first o.0 o.1 in (f.0, f.2, o.2 ∙ ap forgets f.1 ∙ ap (λ (x : Step). forgets (x ∷ f.0)) q)
    go (code.Restore k) q = λ ss h. let o = on ss h in let f = first o.0 o.1 in (f.0, f.2, o.2 ∙ ap forgets f.1 ∙ ap (λ (x : Step). forgets (x ∷ f.0)) q)
    go (code.Forget k) q = λ ss h. let o = on ss h in let f = first o.0 o.1 in sym (o.2 ∙ ap forgets f.1 ∙ ap (λ (x : Step). forgets (x ∷ f.0)) q)
    go (code.Quote node) q = λ ss h. let o = on ss h in let f = first o.0 o.1 in sym (o.2 ∙ ap forgets f.1 ∙ ap (λ (x : Step). forgets (x ∷ f.0)) q)
    go code.Take q = λ ss h. let o = on ss h in let f = first o.0 o.1 in (f.0, f.2, o.2 ∙ ap forgets f.1 ∙ ap (λ (x : Step). forgets (x ∷ f.0)) q)
