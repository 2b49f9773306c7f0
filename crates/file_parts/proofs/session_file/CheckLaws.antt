-- Laws of the check: part after part, what is left gives what the whole gives.
-- Assumes nothing.
use Prim.Native.Nat.{ℕ, zero, suc, ◌+◌, ◌-◌, ◌≤◌, ◌<◌}
use mathlib.Core.Path.{◌≡◌, refl, sym, ap, subst, ◌∙◌}
use mathlib.Core.Bool.{Bool, true, false, cond}
use mathlib.Core.List.{List, [], ◌∷◌, ◌++◌}
use mathlib.Core.Option.{Option, none, some}
use native.Mathlib.Omega.{arith}
use lib.Dec.{leb, eqb}
use lib.ListN.{length, take, drop, length-take, length-drop, drop_of_length-le}
use borrow.Author.Tests.{le-leb, lt-leb}
use Rattle.words.specs.Lists.{same, same_eq}
use Rattle.words.specs.BigEndian.{length_big_endian}
use Rattle.std.specs.Prelude.{Result, Ok, Err}
use Rattle.file_parts.specs.declared.session_file.Part.{Part}
use Rattle.file_parts.specs.declared.session_file.FileError.{FileError}
use Rattle.file_parts.specs.declared.session_file.FileError.TheVariants.{InputTooLong, BadMark}
use Rattle.file_parts.specs.declared.session_file.Checked.{Checked}
use Rattle.words.specs.Choice.{by_lt, clash}
use Rattle.allocator.specs.Handle.{node_of}
use Rattle.spec_session.specs.File.{Got, got, and_then, asked, field, count, version_1, atom, atoms, Pair, named, one_pair, pairs, sentinel, Step, steps, File, mark, after_mark, file}
use Rattle.file_parts.specs.Answers.{Answers, itself, counted}
use Rattle.spec_session.specs.Sentinel.{sentinel_word}
use Rattle.spec_session.specs.Places.{PairsAt, StepsAt}
use Rattle.file_parts.specs.Checked.{Passed, Checks}
use Rattle.spec_session.proofs.FileLaws.{then_of, asked_of, got_rest, field_at, atom_at, pair_at, pairs_long, after_atom_count, after_atoms, after_pair_count, after_pairs, after_sentinel, after_steps}
use Rattle.file_parts.specs.PlaceLaws.{pairs_read, steps_read, contents_of}
use Rattle.file_parts.proofs.session_file.FieldLaws.{taken, turned, yes_asked, no_asked, rest_whole}

-- A part that was refused ends the check with its number.
refused_then : {A : Type 0} (input : List ℕ) (word : A → ℕ) (e : FileError) (g : Got A) (f : A → List ℕ → Got File) {whole : Got File}
    → whole ≡ and_then g f → Answers word (Err e) g → Checks input (Err e) whole
refused_then {A} input word e g f {whole} q h = subst (Checks input (Err e)) (sym (q ∙ ap (λ (x : Got A). and_then x f) (turned word e g h))) refl

-- ---- where the check stands after each part, of a file whose check gives g

pub record AfterCount (input : List ℕ) (g : Got File) (p₁ : Part) : Type 0 where
  pub count_is : count 2 1024 (drop 5 input) ≡ got p₁.value p₁.rest.now
  pub is : g ≡ after_atom_count p₁.value p₁.rest.now

pub record AfterAtoms (input : List ℕ) (g : Got File) (p₁ p₂ : Part) : Type 0 where
  pub before : AfterCount input g p₁
  pub xs : List (List ℕ)
  pub size : p₂.value ≡ length xs
  pub atoms_are : atoms version_1 p₁.value 0 [] p₁.rest.now ≡ got xs p₂.rest.now
  pub is : g ≡ after_atoms xs p₂.rest.now

pub record AfterPairCount (input : List ℕ) (g : Got File) (p₁ p₂ p₃ : Part) : Type 0 where
  pub before : AfterAtoms input g p₁ p₂
  pub count_is : count 2 1024 p₂.rest.now ≡ got p₃.value p₃.rest.now
  pub is : g ≡ after_pair_count before.xs p₃.value p₃.rest.now

pub record AfterPairs (input : List ℕ) (g : Got File) (p₁ p₂ p₃ p₄ : Part) : Type 0 where
  pub before : AfterPairCount input g p₁ p₂ p₃
  pub ps : List Pair
  pub size : p₃.value ≡ length ps
  pub pairs_are : pairs (length before.before.xs) p₃.value [] p₃.rest.now ≡ got ps p₄.rest.now
  pub is : g ≡ after_pairs before.before.xs ps p₄.rest.now

pub record AfterSentinel (input : List ℕ) (g : Got File) (p₁ p₂ p₃ p₄ p₅ : Part) : Type 0 where
  pub before : AfterPairs input g p₁ p₂ p₃ p₄
  pub z : Option ℕ
  pub word : p₅.value ≡ sentinel_word z
  pub sentinel_is : sentinel (length before.before.before.xs) (length before.ps) p₄.rest.now ≡ got z p₅.rest.now
  pub is : g ≡ after_sentinel before.before.before.xs before.ps z p₅.rest.now

-- ---- what is left of the file after each part

-- This is what is left of it from some place on.
pub record LeftOver (input r : List ℕ) : Type 0 where
  pub from : ℕ
  pub is : r ≡ drop from input

module _ {input r : List ℕ} (l : LeftOver input r) where
  pub left_short : length r ≤ length input
  left_short = omega (arith, simp length-drop at (ap length l.is))

  -- Its length tells the place.
  pub left_at : drop (length input - length r) input ≡ r
  left_at =
      by_lt l.from (length input)
      (λ m. let e : length input - length r ≡ l.from = omega (arith, simp length-drop at (ap length l.is)) in ap (λ (n : ℕ). drop n input) e ∙ sym l.is)
      (λ m.
      let e : length input ≤ length input - length r = omega (arith, simp length-drop at (ap length l.is)) in
      drop_of_length-le input e ∙ sym (drop_of_length-le input m) ∙ sym l.is)

-- Where a part of the file ends.
abbrev pub place : List ℕ → Part → ℕ
place input p = length input - length p.rest.now

module _ (input : List ℕ) where
  field_left : (n v : ℕ) (s r : List ℕ) → LeftOver input s → field n s ≡ got v r → LeftOver input r
  field_left n v s r l e = record { from = l.from + n; is = (field_at input l.from n v r (ap (field n) (sym l.is) ∙ e)).rest_is }

  count_left : (most n : ℕ) (s r : List ℕ) → LeftOver input s → count 2 most s ≡ got n r → LeftOver input r
  count_left most n s r l e =
      let t = then_of (field 2 s) _ n r e in
      let q = asked_of 5 (leb t.first most) (got t.first t.rest) n r t.then_is in
      subst (LeftOver input) (got_rest t.first n t.rest r q.1) (field_left 2 t.first s t.rest l t.first_is)

  atoms_left : (n used : ℕ) (done xs : List (List ℕ)) (s r : List ℕ) → LeftOver input s → atoms version_1 n used done s ≡ got xs r → LeftOver input r
  unfolding atoms
  atoms_left zero used done xs s r l e = subst (LeftOver input) (got_rest done xs s r e) l
  atoms_left (suc n) used done xs s r l e =
      let t = then_of (atom version_1 used s) _ xs r e in
      let a = atom_at input l.from used t.first t.rest (ap (atom version_1 used) (sym l.is) ∙ t.first_is) in
      atoms_left n (used + length t.first) (done ++ t.first ∷ []) xs t.rest r (record { from = l.from + 2 + length t.first; is = a.rest_is }) t.then_is

  pairs_over : (a n : ℕ) (done ps : List Pair) (s r : List ℕ) → LeftOver input s → pairs a n done s ≡ got ps r → LeftOver input r
  unfolding pairs
  pairs_over a zero done ps s r l e = subst (LeftOver input) (got_rest done ps s r e) l
  pairs_over a (suc n) done ps s r l e =
      let t = then_of (one_pair a (length done) s) _ ps r e in
      let q = pair_at input a (length done) l.from t.first t.rest (ap (one_pair a (length done)) (sym l.is) ∙ t.first_is) in
      pairs_over a n (done ++ t.first ∷ []) ps t.rest r (record { from = l.from + 8; is = q.rest_is }) t.then_is

  sentinel_left : (a p : ℕ) (z : Option ℕ) (s r : List ℕ) → LeftOver input s → sentinel a p s ≡ got z r → LeftOver input r
  sentinel_left a p z s r l e =
      let t = then_of (field 4 s) _ z r e in
      subst (LeftOver input) (go t.first t.rest (eqb t.first 0xffffffff) (named a p (node_of t.first)) t.then_is) (field_left 4 t.first s t.rest l t.first_is)
    where
      go : (h : ℕ) (t : List ℕ) (b c : Bool) → cond b (got none t) (asked 7 c (got (some h) t)) ≡ got z r → t ≡ r
      go h t true c q = got_rest none z t r q
      go h t false true q = got_rest (some h) z t r q
      go h t false false q = clash cc

  after_left : {g : Got File} {p₁ p₂ p₃ : Part} → AfterPairCount input g p₁ p₂ p₃ → LeftOver input p₃.rest.now
  after_left {g} {p₁} {p₂} {p₃} s =
      let l₁ = count_left 1024 p₁.value (drop 5 input) p₁.rest.now (record { from = 5; is = refl }) s.before.before.count_is in
      let l₂ = atoms_left p₁.value 0 [] s.before.xs p₁.rest.now p₂.rest.now l₁ s.before.atoms_are in
      count_left 1024 p₃.value p₂.rest.now p₃.rest.now l₂ s.count_is

-- The pairs begin in the file, and so do the steps.
pub pairs_left : {input : List ℕ} {g : Got File} {p₁ p₂ p₃ : Part} → AfterPairCount input g p₁ p₂ p₃ → LeftOver input p₃.rest.now
pairs_left {input} s = after_left input s

pub steps_left : {input : List ℕ} {g : Got File} {p₁ p₂ p₃ p₄ p₅ : Part} → AfterSentinel input g p₁ p₂ p₃ p₄ p₅ → LeftOver input p₅.rest.now
steps_left {input} {g} {p₁} {p₂} {p₃} {p₄} {p₅} s =
    let l₄ = pairs_over input (length s.before.before.before.xs) p₃.value [] s.before.ps p₃.rest.now p₄.rest.now (after_left input s.before.before) s.before.pairs_are in
    sentinel_left input (length s.before.before.before.xs) (length s.before.ps) s.z p₄.rest.now p₅.rest.now l₄ s.sentinel_is

-- ---- from part to part

module _ (input : List ℕ) where
  pub count_turned : (e : FileError) → Answers itself (Err e) (count 2 1024 (drop 5 input)) → Checks input (Err e) (after_mark version_1 (drop 5 input))
  count_turned e h = refused_then input itself e (count 2 1024 (drop 5 input)) after_atom_count refl h

  pub count_taken : (p₁ : Part) → Answers itself (Ok p₁) (count 2 1024 (drop 5 input)) → AfterCount input (after_mark version_1 (drop 5 input)) p₁
  count_taken p₁ h =
      let t = taken itself p₁ (count 2 1024 (drop 5 input)) h in
      let e : count 2 1024 (drop 5 input) ≡ got p₁.value p₁.rest.now = t.is ∙ ap (λ (n : ℕ). got n p₁.rest.now) (sym t.word_is) in
      record { count_is = e; is = ap (λ (x : Got ℕ). and_then x after_atom_count) e }

module _ {input : List ℕ} {g : Got File} {p₁ : Part} (s : AfterCount input g p₁) where
  pub atoms_turned : (e : FileError) → Answers counted (Err e) (atoms version_1 p₁.value 0 [] p₁.rest.now) → Checks input (Err e) g
  atoms_turned e h = refused_then input counted e (atoms version_1 p₁.value 0 [] p₁.rest.now) after_atoms s.is h

  pub atoms_taken : (p₂ : Part) → Answers counted (Ok p₂) (atoms version_1 p₁.value 0 [] p₁.rest.now) → AfterAtoms input g p₁ p₂
  atoms_taken p₂ h =
      let t = taken counted p₂ (atoms version_1 p₁.value 0 [] p₁.rest.now) h in
      record {
        before = s;
        xs = t.value;
        size = t.word_is;
        atoms_are = t.is;
        is = s.is ∙ ap (λ (x : Got (List (List ℕ))). and_then x after_atoms) t.is;
      }

module _ {input : List ℕ} {g : Got File} {p₁ p₂ : Part} (s : AfterAtoms input g p₁ p₂) where
  pub pair_count_turned : (e : FileError) → Answers itself (Err e) (count 2 1024 p₂.rest.now) → Checks input (Err e) g
  pair_count_turned e h = refused_then input itself e (count 2 1024 p₂.rest.now) (after_pair_count s.xs) s.is h

  pub pair_count_taken : (p₃ : Part) → Answers itself (Ok p₃) (count 2 1024 p₂.rest.now) → AfterPairCount input g p₁ p₂ p₃
  pair_count_taken p₃ h =
      let t = taken itself p₃ (count 2 1024 p₂.rest.now) h in
      let e : count 2 1024 p₂.rest.now ≡ got p₃.value p₃.rest.now = t.is ∙ ap (λ (n : ℕ). got n p₃.rest.now) (sym t.word_is) in
      record { before = s; count_is = e; is = s.is ∙ ap (λ (x : Got ℕ). and_then x (after_pair_count s.xs)) e }

module _ {input : List ℕ} {g : Got File} {p₁ p₂ p₃ : Part} (s : AfterPairCount input g p₁ p₂ p₃) where
  these : (r : Result Part FileError) → Answers counted r (pairs p₂.value p₃.value [] p₃.rest.now)
      → Answers counted r (pairs (length s.before.xs) p₃.value [] p₃.rest.now)
  these r h = subst (λ (n : ℕ). Answers counted r (pairs n p₃.value [] p₃.rest.now)) s.before.size h

  pub pairs_turned : (e : FileError) → Answers counted (Err e) (pairs p₂.value p₃.value [] p₃.rest.now) → Checks input (Err e) g
  pairs_turned e h = refused_then input counted e (pairs (length s.before.xs) p₃.value [] p₃.rest.now) (after_pairs s.before.xs) s.is (these (Err e) h)

  pub pairs_taken : (p₄ : Part) → Answers counted (Ok p₄) (pairs p₂.value p₃.value [] p₃.rest.now) → AfterPairs input g p₁ p₂ p₃ p₄
  pairs_taken p₄ h =
      let t = taken counted p₄ (pairs (length s.before.xs) p₃.value [] p₃.rest.now) (these (Ok p₄) h) in
      record {
        before = s;
        ps = t.value;
        size = omega (arith, pairs_long (length s.before.xs) p₃.value [] p₃.rest.now t.value p₄.rest.now t.is);
        pairs_are = t.is;
        is = s.is ∙ ap (λ (x : Got (List Pair)). and_then x (after_pairs s.before.xs)) t.is;
      }

module _ {input : List ℕ} {g : Got File} {p₁ p₂ p₃ p₄ : Part} (s : AfterPairs input g p₁ p₂ p₃ p₄) where
  this : (r : Result Part FileError) → Answers sentinel_word r (sentinel p₂.value p₃.value p₄.rest.now)
      → Answers sentinel_word r (sentinel (length s.before.before.xs) (length s.ps) p₄.rest.now)
  this r h =
      subst (λ (n : ℕ). Answers sentinel_word r (sentinel (length s.before.before.xs) n p₄.rest.now)) s.size
      (subst (λ (n : ℕ). Answers sentinel_word r (sentinel n p₃.value p₄.rest.now)) s.before.before.size h)

  pub sentinel_turned : (e : FileError) → Answers sentinel_word (Err e) (sentinel p₂.value p₃.value p₄.rest.now) → Checks input (Err e) g
  sentinel_turned e h =
      refused_then input sentinel_word e (sentinel (length s.before.before.xs) (length s.ps) p₄.rest.now) (after_sentinel s.before.before.xs s.ps) s.is (this (Err e) h)

  pub sentinel_taken : (p₅ : Part) → Answers sentinel_word (Ok p₅) (sentinel p₂.value p₃.value p₄.rest.now) → AfterSentinel input g p₁ p₂ p₃ p₄ p₅
  sentinel_taken p₅ h =
      let t = taken sentinel_word p₅ (sentinel (length s.before.before.xs) (length s.ps) p₄.rest.now) (this (Ok p₅) h) in
      record {
        before = s;
        z = t.value;
        word = t.word_is;
        sentinel_is = t.is;
        is = s.is ∙ ap (λ (x : Got (Option ℕ)). and_then x (after_sentinel s.before.before.xs s.ps)) t.is;
      }

-- The parts up to the pairs' count, and up to the sentinel. The first stands in all that comes after five bytes.
pub counts_taken : (input : List ℕ) (p₁ p₂ p₃ : Part) → Answers itself (Ok p₁) (count 2 1024 (take (length input - 5) (drop 5 input)))
    → Answers counted (Ok p₂) (atoms version_1 p₁.value 0 [] p₁.rest.now) → Answers itself (Ok p₃) (count 2 1024 p₂.rest.now)
    → AfterPairCount input (after_mark version_1 (drop 5 input)) p₁ p₂ p₃
counts_taken input p₁ p₂ p₃ h₁ h₂ h₃ =
    pair_count_taken (atoms_taken (count_taken input p₁ (subst (λ (x : List ℕ). Answers itself (Ok p₁) (count 2 1024 x)) (rest_whole input 5) h₁)) p₂ h₂) p₃ h₃

pub parts_taken : (input : List ℕ) (p₁ p₂ p₃ p₄ p₅ : Part) → Answers itself (Ok p₁) (count 2 1024 (take (length input - 5) (drop 5 input)))
    → Answers counted (Ok p₂) (atoms version_1 p₁.value 0 [] p₁.rest.now) → Answers itself (Ok p₃) (count 2 1024 p₂.rest.now)
    → Answers counted (Ok p₄) (pairs p₂.value p₃.value [] p₃.rest.now) → Answers sentinel_word (Ok p₅) (sentinel p₂.value p₃.value p₄.rest.now)
    → AfterSentinel input (after_mark version_1 (drop 5 input)) p₁ p₂ p₃ p₄ p₅
parts_taken input p₁ p₂ p₃ p₄ p₅ h₁ h₂ h₃ h₄ h₅ = sentinel_taken (pairs_taken (counts_taken input p₁ p₂ p₃ h₁ h₂ h₃) p₄ h₄) p₅ h₅

-- The atoms and pairs that were read, and what the check says where the steps are read too: its places are where the parts began.
module _ {input : List ℕ} {g : Got File} {p₁ p₂ p₃ p₄ p₅ : Part} (s : AfterSentinel input g p₁ p₂ p₃ p₄ p₅) where
  abbrev xs : List (List ℕ)
  xs = s.before.before.before.xs

  abbrev ps : List Pair
  ps = s.before.ps

  abbrev said : Checked
  said = record { atoms = p₂.value; pairs = p₃.value; sentinel = p₅.value; pairs_at = length input - length p₃.rest.now; steps_at = length input - length p₅.rest.now }

  -- The steps, after so many atoms and pairs.
  abbrev steps_of : ℕ → ℕ → Got (List Step)
  steps_of n m = steps (length p₅.rest.now) n m 1024 [] p₅.rest.now

module _ {input : List ℕ} {g : Got File} {p₁ p₂ p₃ p₄ p₅ : Part} (s : AfterSentinel input g p₁ p₂ p₃ p₄ p₅) where
  those : (r : Result Part FileError) → Answers counted r (steps_of s p₂.value p₃.value) → Answers counted r (steps_of s (length (xs s)) (length (ps s)))
  those r h =
      subst (λ (n : ℕ). Answers counted r (steps_of s (length (xs s)) n)) s.before.size
      (subst (λ (n : ℕ). Answers counted r (steps_of s n p₃.value)) s.before.before.before.size h)

  pub steps_turned : (e : FileError) → Answers counted (Err e) (steps_of s p₂.value p₃.value) → Checks input (Err e) g
  steps_turned e h = refused_then input counted e (steps_of s (length (xs s)) (length (ps s))) (after_steps (xs s) (ps s) s.z) s.is (those (Err e) h)

  pub passed : (p₆ : Part) → Answers counted (Ok p₆) (steps_of s p₂.value p₃.value) → length input ≤ 65535 → Checks input (Ok (said s)) g
  passed p₆ h short =
      let t = taken counted p₆ (steps_of s (length (xs s)) (length (ps s))) (those (Ok p₆) h) in
      subst (Checks input (Ok (said s))) (sym (s.is ∙ ap (λ (x : Got (List Step)). and_then x (after_steps (xs s) (ps s) s.z)) t.is)) (whole t.value t.is)
    where
      whole : (ss : List Step) → steps_of s (length (xs s)) (length (ps s)) ≡ got ss p₆.rest.now
          → Passed input (record { atoms = xs s; pairs = ps s; sentinel = s.z; steps = ss }) (said s)
      whole ss e =
          let all = contents_of input p₁.value (xs s) p₃.value (ps s) s.z ss
          p₁.rest.now p₂.rest.now p₃.rest.now p₄.rest.now p₅.rest.now p₆.rest.now
          s.before.before.before.before.count_is s.before.before.before.atoms_are s.before.before.count_is s.before.pairs_are s.sentinel_is e in
          let at₃ = pairs_left s.before.before in
          let at₅ = steps_left s in
          let qs = pairs_read input (length (xs s)) p₃.value (place input p₃) [] (ps s) p₄.rest.now (ap (pairs (length (xs s)) p₃.value []) (left_at at₃) ∙ s.before.pairs_are) in
          let us = steps_read input (length p₅.rest.now) (length (xs s)) (length (ps s)) 1024 (place input p₅) [] ss p₆.rest.now
          (omega (arith, left_short at₅)) (ap (steps (length p₅.rest.now) (length (xs s)) (length (ps s)) 1024 []) (left_at at₅) ∙ e) in
          record {
            atoms_are = s.before.before.before.size;
            pairs_are = s.before.size;
            sentinel_is = s.word;
            short = short;
            atoms_there = all.atoms_there;
            pairs_there = subst (PairsAt input (place input p₃)) (sym qs.is) qs.there;
            steps_there = subst (StepsAt input (place input p₅)) (sym us.is) us.there;
            contents = all.contents;
          }

-- ---- the mark, and the whole file

mark_size : length (mark version_1) ≡ 5
mark_size = ap (λ (n : ℕ). suc (suc (suc n))) (length_big_endian 2 1)

-- A file that has the mark is long enough for it.
pub mark_there : (input : List ℕ) → same (take 5 input) (mark version_1) ≡ true → 5 ≤ length input
mark_there input e = omega (arith, ap length (same_eq (take 5 input) (mark version_1) e), mark_size, length-take 5 input)

module _ (input : List ℕ) where
  pub file_long : 65535 < length input → Checks input (Err InputTooLong) (file version_1 input)
  unfolding file
  file_long l = subst (Checks input (Err InputTooLong)) (sym (no_asked 2 (leb (length input) 65535) _ (lt-leb (length input) 65535 l))) refl

  module _ (l : length input ≤ 65535) where
    short_file : file version_1 input ≡ asked 3 (same (take 5 input) (mark version_1)) (after_mark version_1 (drop 5 input))
    unfolding file
    short_file = yes_asked 2 (leb (length input) 65535) _ (le-leb (length input) 65535 l)

    pub file_unmarked : same (take 5 input) (mark version_1) ≡ false → Checks input (Err BadMark) (file version_1 input)
    file_unmarked m = subst (Checks input (Err BadMark)) (sym (short_file ∙ no_asked 3 (same (take 5 input) (mark version_1)) _ m)) refl

    pub file_marked : (r : Result Checked FileError) → same (take 5 input) (mark version_1) ≡ true → Checks input r (after_mark version_1 (drop 5 input)) → Checks input r (file version_1 input)
    file_marked r m h = subst (Checks input r) (sym (short_file ∙ yes_asked 3 (same (take 5 input) (mark version_1)) _ m)) h
