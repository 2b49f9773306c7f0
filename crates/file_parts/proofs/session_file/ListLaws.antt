-- Laws of the loops over atoms, pairs and steps: what is left gives what all would give.
-- Assumes nothing.
use Prim.Native.Nat.{ℕ, zero, suc, ◌+◌, ◌-◌, ◌≤◌, ◌<◌}
use mathlib.Core.Path.{◌≡◌, refl, sym, ap, subst, ◌∙◌}
use mathlib.Core.Bool.{true, false}
use mathlib.Core.List.{List, [], ◌∷◌, ◌++◌}
use native.Mathlib.Omega.{arith}
use lib.ListN.{length, drop, length-drop, length-append}
use lib.Seq.{drop_at}
use lib.Dec.{eqb}
use borrow.Author.Tests.{eqb-true, eqb-false}
use Rattle.file_parts.specs.PlaceLaws.{size_low}
use Rattle.std.specs.Prelude.{Ok, Err}
use Rattle.file_parts.specs.declared.session_file.Part.{Part}
use Rattle.file_parts.specs.declared.session_file.FileError.{FileError}
use Rattle.spec_session.specs.File.{Got, got, and_then, version_1, atom, atoms, Pair, one_pair, pairs, Step, one_step, steps}
use Rattle.file_parts.specs.Answers.{Answers, sized, pair_word, operand_word, counted}
use Rattle.spec_session.proofs.FileLaws.{atom_at, step_at}
use Rattle.file_parts.proofs.session_file.FieldLaws.{Taken, taken, gives, then_refused}

-- One more than is left after the next one.
one_left : (count done : ℕ) → done < count → count - done ≡ suc (count - (done + 1))
one_left count done h = omega arith

all_left : (count : ℕ) → count ≡ count - 0
all_left count = omega arith

none_left : (count done : ℕ) → count ≤ done → count - done ≡ 0
none_left count done h = omega arith

one_longer : {A : Type 0} (xs : List A) (x : A) (n : ℕ) → length xs ≡ n → length (xs ++ x ∷ []) ≡ n + 1
one_longer xs x n e = length-append xs (x ∷ []) ∙ ap (λ (k : ℕ). k + 1) e

-- The list itself, as what is left of it from its front on.
whole : (xs : List ℕ) → drop 0 xs ≡ xs
whole xs = drop_at [] xs 0 refl

-- ---- atoms

-- The atoms read so far, and that what is left gives what all would give.
pub record AtomsSoFar (input : List ℕ) (count : ℕ) (next : List ℕ) (used done : ℕ) : Type 0 where
  pub read : List (List ℕ)
  pub long : length read ≡ done
  pub same : atoms version_1 count 0 [] input ≡ atoms version_1 (count - done) used read next

pub atoms_start : (input : List ℕ) (count : ℕ) → AtomsSoFar input count input 0 0
atoms_start input count = record { read = []; long = refl; same = ap (λ (n : ℕ). atoms version_1 n 0 [] input) (all_left count) }

module _ {input : List ℕ} {count : ℕ} {next : List ℕ} {used done : ℕ} (s : AtomsSoFar input count next used done) where
  pub atoms_end : (p : Part) → count ≤ done → done ≤ count → p.value ≡ count → p.rest.now ≡ next → Answers counted (Ok p) (atoms version_1 count 0 [] input)
  unfolding atoms
  atoms_end p l m v e =
      gives counted p (atoms version_1 count 0 [] input) s.read
      (s.same ∙ ap (λ (n : ℕ). atoms version_1 n used s.read next) (none_left count done l) ∙ ap (got s.read) (sym e))
      (omega (arith, s.long))

  module _ (h : done < count) where
    -- The next atom first.
    next_atom : atoms version_1 count 0 [] input
        ≡ and_then (atom version_1 used next) (λ b r. atoms version_1 (count - (done + 1)) (used + length b) (s.read ++ b ∷ []) r)
    unfolding atoms
    next_atom = s.same ∙ ap (λ (n : ℕ). atoms version_1 n used s.read next) (one_left count done h)

    pub atoms_refused : (e : FileError) → Answers sized (Err e) (atom version_1 used next) → Answers counted (Err e) (atoms version_1 count 0 [] input)
    atoms_refused e a = subst (Answers counted (Err e)) (sym next_atom) (then_refused sized counted e (atom version_1 used next) _ a)

    module _ (p : Part) (a : Answers sized (Ok p) (atom version_1 used next)) where
      t : Taken sized p (atom version_1 used next)
      t = taken sized p (atom version_1 used next) a

      pub atoms_few : used + p.value ≤ 32768
      atoms_few = omega (arith, (atom_at next 0 used t.value p.rest.now (ap (atom version_1 used) (whole next) ∙ t.is)).few, t.word_is)

      pub atoms_turn : AtomsSoFar input count p.rest.now (used + p.value) (done + 1)
      atoms_turn =
          record {
            read = s.read ++ t.value ∷ [];
            long = one_longer s.read t.value done s.long;
            same =
                next_atom
                ∙ ap (λ (g : Got (List ℕ)). and_then g (λ b r. atoms version_1 (count - (done + 1)) (used + length b) (s.read ++ b ∷ []) r)) t.is
                ∙ ap (λ (k : ℕ). atoms version_1 (count - (done + 1)) (used + k) (s.read ++ t.value ∷ []) p.rest.now) (sym t.word_is);
          }

-- ---- pairs

pub record PairsSoFar (input : List ℕ) (na count : ℕ) (next : List ℕ) (done : ℕ) : Type 0 where
  pub read : List Pair
  pub long : length read ≡ done
  pub same : pairs na count [] input ≡ pairs na (count - done) read next

pub pairs_start : (input : List ℕ) (na count : ℕ) → PairsSoFar input na count input 0
pairs_start input na count = record { read = []; long = refl; same = ap (λ (n : ℕ). pairs na n [] input) (all_left count) }

module _ {input : List ℕ} {na count : ℕ} {next : List ℕ} {done : ℕ} (s : PairsSoFar input na count next done) where
  pub pairs_end : (p : Part) → count ≤ done → done ≤ count → p.value ≡ count → p.rest.now ≡ next → Answers counted (Ok p) (pairs na count [] input)
  unfolding pairs
  pairs_end p l m v e =
      gives counted p (pairs na count [] input) s.read
      (s.same ∙ ap (λ (n : ℕ). pairs na n s.read next) (none_left count done l) ∙ ap (got s.read) (sym e))
      (omega (arith, s.long))

  module _ (h : done < count) where
    next_pair : pairs na count [] input ≡ and_then (one_pair na done next) (λ q r. pairs na (count - (done + 1)) (s.read ++ q ∷ []) r)
    unfolding pairs
    next_pair =
        s.same ∙ ap (λ (n : ℕ). pairs na n s.read next) (one_left count done h)
        ∙ ap (λ (k : ℕ). and_then (one_pair na k next) (λ q r. pairs na (count - (done + 1)) (s.read ++ q ∷ []) r)) s.long

    pub pairs_refused : (e : FileError) → Answers pair_word (Err e) (one_pair na done next) → Answers counted (Err e) (pairs na count [] input)
    pairs_refused e a = subst (Answers counted (Err e)) (sym next_pair) (then_refused pair_word counted e (one_pair na done next) _ a)

    pub pairs_turn : (p : Part) → Answers pair_word (Ok p) (one_pair na done next) → PairsSoFar input na count p.rest.now (done + 1)
    pairs_turn p a =
        let one = taken pair_word p (one_pair na done next) a in
        record {
          read = s.read ++ one.value ∷ [];
          long = one_longer s.read one.value done s.long;
          same = next_pair ∙ ap (λ (g : Got Pair). and_then g (λ q r. pairs na (count - (done + 1)) (s.read ++ q ∷ []) r)) one.is;
        }

-- ---- steps

pub record StepsSoFar (input : List ℕ) (na np : ℕ) (next : List ℕ) (done : ℕ) : Type 0 where
  pub fuel : ℕ
  pub enough : length next ≤ fuel
  pub read : List Step
  pub long : length read ≡ done
  pub same : steps (length input) na np 1024 [] input ≡ steps fuel na np 1024 read next

pub steps_start : (input : List ℕ) (na np : ℕ) → StepsSoFar input na np input 0
steps_start input na np = record { fuel = length input; enough = omega arith; read = []; long = refl; same = refl }

-- At the end no step is left; before it one more is read.
steps_none : (n na np most : ℕ) (done : List Step) (rest : List ℕ) → length rest ≡ 0 → steps n na np most done rest ≡ got done rest
unfolding steps
steps_none zero na np most done rest e = refl
steps_none (suc n) na np most done [] e = refl
steps_none (suc n) na np most done (b ∷ rest) e = absurd (omega arith)

steps_more : (n na np most : ℕ) (done : List Step) (rest : List ℕ) → 0 < length rest → length rest ≤ n
    → steps n na np most done rest ≡ and_then (one_step na np (length done) most rest) (λ s r. steps (n - 1) na np most (done ++ s ∷ []) r)
unfolding steps
steps_more n na np most done [] h l = absurd (omega arith)
steps_more zero na np most done (b ∷ rest) h l = absurd (omega arith)
steps_more (suc n) na np most done (b ∷ rest) h l =
    let p : suc n - 1 ≡ n = omega arith in
    rw p refl

module _ {input : List ℕ} {na np : ℕ} {next : List ℕ} {done : ℕ} (s : StepsSoFar input na np next done) where
  pub steps_end : (p : Part) → eqb (length next) 0 ≡ true → p.value ≡ done → p.rest.now ≡ next → Answers counted (Ok p) (steps (length input) na np 1024 [] input)
  steps_end p l v e =
      gives counted p (steps (length input) na np 1024 [] input) s.read
      (s.same ∙ steps_none s.fuel na np 1024 s.read next (eqb-true (length next) 0 l) ∙ ap (got s.read) (sym e))
      (v ∙ sym s.long)

  module _ (h : eqb (length next) 0 ≡ false) where
    more : 0 < length next
    more = omega (arith, eqb-false (length next) 0 h)

    next_step : steps (length input) na np 1024 [] input ≡ and_then (one_step na np done 1024 next) (λ x r. steps (s.fuel - 1) na np 1024 (s.read ++ x ∷ []) r)
    next_step =
        s.same ∙ steps_more s.fuel na np 1024 s.read next more s.enough
        ∙ ap (λ (k : ℕ). and_then (one_step na np k 1024 next) (λ x r. steps (s.fuel - 1) na np 1024 (s.read ++ x ∷ []) r)) s.long

    pub steps_refused : (e : FileError) → Answers operand_word (Err e) (one_step na np done 1024 next) → Answers counted (Err e) (steps (length input) na np 1024 [] input)
    steps_refused e a = subst (Answers counted (Err e)) (sym next_step) (then_refused operand_word counted e (one_step na np done 1024 next) _ a)

    module _ (p : Part) (a : Answers operand_word (Ok p) (one_step na np done 1024 next)) where
      step_taken : Taken operand_word p (one_step na np done 1024 next)
      step_taken = taken operand_word p (one_step na np done 1024 next) a

      from_front : one_step na np done 1024 (drop 0 next) ≡ got step_taken.value p.rest.now
      from_front = ap (one_step na np done 1024) (whole next) ∙ step_taken.is

      pub steps_on : length p.rest.now < length next
      steps_on =
          let x = step_at next na np done 1024 0 step_taken.value p.rest.now from_front in
          omega (arith, more, simp length-drop at (ap length x.rest_is), size_low step_taken.value)

      pub steps_few : done + 1 ≤ 1024
      steps_few = omega (arith, (step_at next na np done 1024 0 step_taken.value p.rest.now from_front).few)

      pub steps_turn : StepsSoFar input na np p.rest.now (done + 1)
      steps_turn =
          record {
            fuel = s.fuel - 1;
            enough = omega (arith, s.enough, steps_on);
            read = s.read ++ step_taken.value ∷ [];
            long = one_longer s.read step_taken.value done s.long;
            same = next_step ∙ ap (λ (g : Got Step). and_then g (λ x r. steps (s.fuel - 1) na np 1024 (s.read ++ x ∷ []) r)) step_taken.is;
          }
