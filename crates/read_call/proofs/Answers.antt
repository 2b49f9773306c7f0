-- Laws of the reading call: cleared slices are a fresh store, and what was read gives the answer and the slices that the definition says.
-- Assumes nothing.
use Rattle.std.specs.Prelude.{Result, Ok, Err}
use Prim.Native.Nat.{ℕ, ◌-◌, ◌*◌, ◌/◌, ◌≤◌, ◌<◌}
use mathlib.Core.Path.{◌≡◌, refl, sym, ap, subst, ◌∙◌}
use mathlib.Core.Bool.{Bool, true, false, cond, ◌&&◌}
use mathlib.Core.List.{List, ◌++◌}
use native.Mathlib.Omega.{arith}
use borrow.Author.Tests.{leb-true, le-leb, lt-leb}
use lib.Dec.{leb}
use lib.ListN.{length, take, drop, replicate, length-replicate, take-append-drop}
use lib.Seq.{length-take-le}
use Rattle.read_store.proofs.reader_stacks.Stacks.{length_values}
use Rattle.words.specs.Choice.{both_true}
use Rattle.words.specs.Words.{at, WORK}
use Rattle.words.specs.Lists.{Bytes}
use Rattle.spec_reading.specs.Format.{Read}
use Rattle.spec_reading.specs.Store.{Stored, read_stored}
use Rattle.spec_reading.proofs.Bounds.{Bounds, sound_bounds}
use Rattle.spec_reading.specs.Call.{Slices, refusal, zeroed, filled, root_of, answer_of, after, long_enough, reading}
use Rattle.spec_reading.specs.Call as call
use Rattle.spec_reading.specs.Promise.{ReadsPlainly}
use Rattle.spec_reading.proofs.Promise.{reads_plainly}
use Rattle.read_store.specs.Layout.{VALUES, values_of}
use Rattle.read_item.specs.Whole.{stored_of, Lent, Ends}
use Rattle.read_item.specs.declared.settle.Reader.{Reader}
use Rattle.read_item.specs.declared.read_error.ReadError.{ReadError}
use Rattle.read_item.specs.Refusals.{number}
use Rattle.read_call.specs.read_items.Verdict.{start, ReadAll}
use Rattle.read_answer.specs.declared.ReadAnswer.{ReadAnswer}
use Rattle.read_answer.specs.Answer.{read_answer_of, Counts, read_answer_at, slices}
use Rattle.read_call.specs.Outcome.{read_result_of, Counted, ended}

-- ---- a fresh store

-- Question 1 was answered: the four lengths.
record Long (w p a b : List ℕ) : Type 0 where
  work : WORK ≤ length w
  pairs : 262144 ≤ length p
  atoms : 131072 ≤ length a
  bytes : 65536 ≤ length b

long : (w p a b : List ℕ) → long_enough (slices w p a b) ≡ true → Long w p a b
long w p a b e =
    let f = both_true (leb WORK (length w)) (leb 262144 (length p) && (leb 131072 (length a) && leb 65536 (length b))) e in
    let g = both_true (leb 262144 (length p)) (leb 131072 (length a) && leb 65536 (length b)) f.1 in
    let h = both_true (leb 131072 (length a)) (leb 65536 (length b)) g.1 in
    record {
      work = leb-true WORK (length w) f.0;
      pairs = leb-true 262144 (length p) g.0;
      atoms = leb-true 131072 (length a) h.0;
      bytes = leb-true 65536 (length b) h.1;
    }

zeroed_length : (l l' : List ℕ) → l' ≡ zeroed l → length l' ≡ length l
zeroed_length l l' e = ap length e ∙ length-replicate (length l) 0

-- A slice that was cleared is zero from its first word on.
zeroed_rest : (l l' : List ℕ) → l' ≡ zeroed l → drop 0 l' ≡ replicate (length l' - 0) 0
zeroed_rest l l' e =
    let n : length l ≡ length l' - 0 = omega (arith, zeroed_length l l' e) in
    e ∙ ap (λ (k : ℕ). replicate k 0) n

pub lent_start : (input w p a b p' a' b' : List ℕ) → long_enough (slices w p a b) ≡ true → length input ≤ 65535
    → p' ≡ zeroed p → a' ≡ zeroed a → b' ≡ zeroed b → Lent input w p' a' b' start
lent_start input w p a b p' a' b' e short ep ea eb =
    let l = long w p a b e in
    record {
      work = l.work;
      pairs_room = omega (arith, l.pairs, zeroed_length p p' ep);
      atoms_room = omega (arith, l.atoms, zeroed_length a a' ea);
      bytes_room = omega (arith, l.bytes, zeroed_length b b' eb);
      short = short;
      inside = omega arith;
      pairs_in = omega arith;
      atoms_in = omega arith;
      bytes_in = omega arith;
      pairs_rest = zeroed_rest p p' ep;
      atoms_rest = zeroed_rest a a' ea;
      bytes_rest = zeroed_rest b b' eb;
    }

-- ---- what was read

-- Used words and the zeros after them are the whole slice; l is the slice at entry.
filled_whole : (l l' : List ℕ) (n : ℕ) → length l' ≡ length l → n ≤ length l' → drop n l' ≡ replicate (length l' - n) 0 → l' ≡ filled l (take n l')
filled_whole l l' n e i z =
    let k : length l' - n ≡ length l - length (take n l') = omega (arith, length-take-le n l' i) in
    sym (take-append-drop n l') ∙ ap (λ (r : List ℕ). take n l' ++ r) (z ∙ ap (λ (m : ℕ). replicate m 0) k)

module _ (input w p a b : List ℕ) (r : Reader) (h : Ends input w p a b r) where
  pairs_length : length (take (2 * r.pairs) p) ≡ 2 * r.pairs
  pairs_length = length-take-le (2 * r.pairs) p h.lent.pairs_in

  atoms_length : length (take (2 * r.atoms) a) ≡ 2 * r.atoms
  atoms_length = length-take-le (2 * r.atoms) a h.lent.atoms_in

  bytes_length : length (take r.bytes b) ≡ r.bytes
  bytes_length = length-take-le r.bytes b h.lent.bytes_in

  bounds : Bounds (stored_of w p a b r)
  bounds = sound_bounds r.position _ (stored_of w p a b r) (omega (arith, h.lent.inside, h.lent.short)) h.sound

  pub counts : Counts w r
  counts =
      record {
        value_in = omega (arith, h.lent.work);
        pairs_fit = omega (arith, bounds.pair_words, pairs_length);
        atoms_fit = omega (arith, bounds.atom_words, atoms_length);
        bytes_fit = omega (arith, bounds.atom_bytes, bytes_length);
        ghosts_fit = omega (arith, bounds.pairs_and_ghosts);
      }

  one_value : r.values ≡ 1
  one_value = sym (length_values w r.values) ∙ h.sound.fits

  root : at w VALUES ≡ root_of (values_of w r.values)
  unfolding values_of
  root = ap (λ (n : ℕ). root_of (values_of w n)) (sym one_value)

  answered : read_answer_at w r ≡ answer_of (stored_of w p a b r)
  answered =
      let np : r.pairs ≡ length (take (2 * r.pairs) p) / 2 = omega (arith, pairs_length) in
      let na : r.atoms ≡ length (take (2 * r.atoms) a) / 2 = omega (arith, atoms_length) in
      λ i. record { number = 0; root = root i; pairs = np i; atoms = na i; bytes = sym bytes_length i; ghosts = r.ghosts }

pub counted : (input w p a b : List ℕ) (o : Result Reader ReadError) → ReadAll input w p a b (read_stored input) o → Counted w o
counted input w p a b (Ok r) t = counts input w p a b r t.ends
counted input w p a b (Err e₀) t = tt

zeroed_same : (l l₁ : List ℕ) → length l₁ ≡ length l → zeroed l₁ ≡ zeroed l
zeroed_same l l₁ e = ap (λ (n : ℕ). replicate n 0) e

-- What the outcome of all items leaves is what the definition says, where the slices are as long as at the call.
module _ (input w p a b w₁ p₁ a₁ b₁ : List ℕ) where
  pub ended_after : (o : Result Reader ReadError) → ReadAll input w₁ p₁ a₁ b₁ (read_stored input) o
      → length w₁ ≡ length w → length p₁ ≡ length p → length a₁ ≡ length a → length b₁ ≡ length b
      → (x : call.Result) → x ≡ ended o (slices w₁ p₁ a₁ b₁) → x ≡ after (read_stored input) (slices w p a b)
  ended_after (Ok r) t lw lp la lb x e =
      let l = t.ends.lent in
      e
      ∙ (λ i.
      record {
        answer = answered input w₁ p₁ a₁ b₁ r t.ends i;
        slices =
            record {
              work = zeroed_same w w₁ lw i;
              pairs = filled_whole p p₁ (2 * r.pairs) lp l.pairs_in l.pairs_rest i;
              atoms = filled_whole a a₁ (2 * r.atoms) la l.atoms_in l.atoms_rest i;
              bytes = filled_whole b b₁ r.bytes lb l.bytes_in l.bytes_rest i;
            };
      })
      ∙ ap (λ (d : Read Stored). after d (slices w p a b)) (sym t.same)
  ended_after (Err e₀) t lw lp la lb x e =
      e
      ∙ (λ i.
      record {
        answer = refusal (number e₀);
        slices = slices (zeroed_same w w₁ lw i) (zeroed_same p p₁ lp i) (zeroed_same a a₁ la i) (zeroed_same b b₁ lb i);
      })
      ∙ ap (λ (d : Read Stored). after d (slices w p a b)) (sym t.same)

-- ---- the questions

-- The three cases of the call: long enough or not, within the limit or not.
abbrev cases : List ℕ → Slices → Bool → Bool → call.Result
cases input l x y = cond x (cond y (after (read_stored input) l) (record { answer = refusal 2; slices = l })) (record { answer = refusal 1; slices = l })

module _ (input w p a b : List ℕ) (t : Bool) (test : t ≡ long_enough (slices w p a b)) where
  reading_cases : (x y : Bool) → t ≡ x → leb (length input) 65535 ≡ y → cases input (slices w p a b) x y ≡ reading input (slices w p a b)
  unfolding reading
  reading_cases x y e f = λ i. cases input (slices w p a b) ((sym e ∙ test) i) (sym f i)

  untouched : (n : ℕ) (r : ReadAnswer) → read_answer_of r ≡ refusal n → read_result_of r w p a b ≡ record { answer = refusal n; slices = slices w p a b }
  untouched n r e = λ i. record { answer = e i; slices = slices w p a b }

  pub too_short : t ≡ false → (r : ReadAnswer) → read_answer_of r ≡ refusal 1 → read_result_of r w p a b ≡ reading input (slices w p a b)
  too_short e r h = untouched 1 r h ∙ reading_cases false (leb (length input) 65535) e refl

  pub too_long : t ≡ true → 65535 < length input → (r : ReadAnswer) → read_answer_of r ≡ refusal 2 → read_result_of r w p a b ≡ reading input (slices w p a b)
  too_long e l r h = untouched 2 r h ∙ reading_cases true false e (lt-leb _ _ l)

  pub within : t ≡ true → length input ≤ 65535 → (x : call.Result) → x ≡ after (read_stored input) (slices w p a b) → x ≡ reading input (slices w p a b)
  within e l x h = h ∙ reading_cases true true e (le-leb _ _ l)

-- ---- the promise

-- What is the definition's result reads plainly.
pub promised : (input : List ℕ) → Bytes input → (l : Slices) (x : call.Result) → x ≡ reading input l → (x ≡ reading input l) × ReadsPlainly input x
promised input bytes l x e = (e, subst (ReadsPlainly input) (sym e) (reads_plainly input bytes l))
