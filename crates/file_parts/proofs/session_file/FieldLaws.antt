-- Laws of one field: the code's answer is what the definition gives.
-- Assumes nothing.
use Prim.Native.Nat.{ℕ, ◌-◌, ◌≤◌}
use mathlib.Core.Path.{◌≡◌, refl, sym, ap, subst, ◌∙◌}
use mathlib.Core.Bool.{Bool, true, false}
use mathlib.Core.List.{List, []}
use lib.Dec.{leb}
use lib.ListN.{length, take, drop, length-drop}
use lib.Seq.{drop_at, take-length}
use borrow.Author.Tests.{le-leb}
use Rattle.std.specs.Prelude.{Ok, Err}
use Rattle.words.specs.Words.{part}
use Rattle.words.specs.BigEndian.{number}
use Rattle.file_parts.specs.declared.session_file.Part.{Part}
use Rattle.file_parts.specs.declared.session_file.FileError.{FileError}
use Rattle.spec_session.specs.File.{Got, got, refused, and_then, asked, field}
use Rattle.file_parts.specs.Answers.{number_of, Answers, itself}

-- ---- questions

-- A question that is answered yes, and one that is answered no.
pub yes_asked : {A : Type 0} (n : ℕ) (b : Bool) (g : Got A) → b ≡ true → asked n b g ≡ g
yes_asked n b g e = rw e

pub no_asked : {A : Type 0} (n : ℕ) (b : Bool) (g : Got A) → b ≡ false → asked n b g ≡ refused n
no_asked n b g e = rw e

-- ---- what an answer says

-- A value was read: which.
pub record Taken {A : Type 0} (word : A → ℕ) (p : Part) (g : Got A) : Type 0 where
  pub value : A
  pub is : g ≡ got value p.rest.now
  pub word_is : p.value ≡ word value

module _ {A : Type 0} (word : A → ℕ) where
  -- A refusal, however it came.
  pub refuses : (g : Got A) (e : FileError) → g ≡ refused (number_of e) → Answers word (Err e) g
  refuses g e q = subst (Answers word (Err e)) (sym q) refl

  -- A value, however it came.
  pub gives : (p : Part) (g : Got A) (a : A) → g ≡ got a p.rest.now → p.value ≡ word a → Answers word (Ok p) g
  gives p g a e v = subst (Answers word (Ok p)) (sym e) (record { value_is = v; rest_is = refl })

  pub taken : (p : Part) (g : Got A) → Answers word (Ok p) g → Taken word p g
  taken p (got a rest) h = record { value = a; is = ap (got a) (sym h.rest_is); word_is = h.value_is }
  taken p (refused n) h = absurd h

  pub turned : (e : FileError) (g : Got A) → Answers word (Err e) g → g ≡ refused (number_of e)
  turned e (got a rest) h = absurd h
  turned e (refused n) h = ap {B = Got A} refused (sym h)

-- What follows a part that was refused is refused with its number.
pub then_refused : {A B : Type 0} (word : A → ℕ) (word' : B → ℕ) (e : FileError) (g : Got A) (f : A → List ℕ → Got B)
    → Answers word (Err e) g → Answers word' (Err e) (and_then g f)
then_refused {A} {B} word word' e g f h = refuses word' (and_then g f) e (ap (λ (x : Got A). and_then x f) (turned word e g h))

-- ---- a number's field

-- All of what comes after n bytes.
pub rest_whole : (input : List ℕ) (n : ℕ) → take (length input - n) (drop n input) ≡ drop n input
rest_whole input n = ap (λ (k : ℕ). take k (drop n input)) (sym (length-drop n input)) ∙ take-length (drop n input)

-- Its bytes are there.
pub field_there : (input : List ℕ) (n : ℕ) (p : Part) → n ≤ length input → p.value ≡ number (part input 0 n) → p.rest.now ≡ take (length input - n) (drop n input)
    → Answers itself (Ok p) (field n input)
unfolding part
field_there input n p l v e =
    gives itself p (field n input) (number (take n input))
    (ap (λ (g : Got (List ℕ)). and_then g (λ b r. got (number b) r)) (yes_asked 4 (leb n (length input)) _ (le-leb n (length input) l))
    ∙ ap (got (number (take n input))) (sym (e ∙ rest_whole input n)))
    (v ∙ ap (λ (x : List ℕ). number (take n x)) (drop_at [] input 0 refl))
