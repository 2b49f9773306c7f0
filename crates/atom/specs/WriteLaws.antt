-- Laws of writing: an equation for each way in which an atom is written.
-- Assumes nothing.
use Rattle.std.specs.Prelude.{ℕ, ◌+◌, ◌-◌, ◌*◌, ◌^◌, ◌≤◌, ◌<◌, ◌≡◌, refl, true, false, List, ◌++◌, length, take, drop}
use Rattle.std.proofs.Common.{sym, ◌∙◌, append_assoc, arith, mul-le-mul, add_assoc, length-append, take_all, drop-drop, lt-ltb, le-ltb}
use Rattle.std.proofs.Math.Path.{ap}
use Rattle.std.proofs.Math.Option.{Option, none, some}
use Rattle.std.proofs.Math.Nat.{pow-le-pow_right}
use Rattle.std.proofs.Math.Seq.{paste, take-length}
use Rattle.std.proofs.lemmas.List.Edits.{drop-paste, take-paste}
use Rattle.words.specs.Choice.{cond_true, cond_false}
use Rattle.words.specs.BigEndian.{length_big_endian}
use Rattle.atom.specs.Prefix.{width, mark, prefix, single, prefix_width, with_prefix, encode}
use Rattle.atom.specs.Write.{next, full, too_long, put, serialized_length, length_or_0}
use Rattle.atom.specs.PrefixLaws.{width_none}

-- ---- the width of an atom's prefix

module _ (atom : List ℕ) where
  pub width_of_single : single atom ≡ true → prefix_width atom ≡ some 0
  unfolding prefix_width
  width_of_single e = cond_true _ _ _ e

  module _ (other : single atom ≡ false) where
    pub width_of_none : width (length atom) ≡ none → prefix_width atom ≡ none
    unfolding prefix_width
    width_of_none e = cond_false _ _ _ other ∙ e

    pub width_of_large : 2 ^ 34 ≤ length atom → prefix_width atom ≡ none
    width_of_large h = width_of_none (width_none (length atom) h)

    pub width_of_sized : (w : ℕ) → width (length atom) ≡ some w → prefix_width atom ≡ some w
    unfolding prefix_width
    width_of_sized w e = cond_false _ _ _ other ∙ e

-- ---- an encoded atom

module _ (atom : List ℕ) (w : ℕ) (e : prefix_width atom ≡ some w) where
  pub encode_some : encode atom ≡ some (prefix w (length atom) ++ atom)
  unfolding encode
  encode_some = ap (λ (o : Option ℕ). with_prefix o atom) e

  pub length_encoded : length (prefix w (length atom) ++ atom) ≡ w + length atom
  length_encoded = simp length-append (omega (arith, length_big_endian w (mark w + length atom)))

  pub length_some : serialized_length atom ≡ w + length atom
  unfolding serialized_length
  length_some = ap length_or_0 encode_some ∙ length_encoded

module _ (atom : List ℕ) (e : prefix_width atom ≡ none) where
  pub encode_none : encode atom ≡ none
  unfolding encode
  encode_none = ap (λ (o : Option ℕ). with_prefix o atom) e

  pub length_none : serialized_length atom ≡ 0
  unfolding serialized_length
  length_none = ap length_or_0 encode_none

-- ---- bytes put into an output

pub put_none : (out : List ℕ) (p : ℕ) → put out p none ≡ record { answer = too_long; output = out }
unfolding put
put_none out p = refl

module _ (out : List ℕ) (p : ℕ) (bytes : List ℕ) where
  pub put_full : length out < p + length bytes → put out p (some bytes) ≡ record { answer = full; output = out }
  unfolding put
  put_full h = cond_true _ _ _ (lt-ltb _ _ h)

  pub put_room : p + length bytes ≤ length out → put out p (some bytes) ≡ record { answer = next (p + length bytes); output = paste out p bytes (length bytes) }
  unfolding put
  put_room h = cond_false _ _ _ (le-ltb _ _ h)

-- An atom that no prefix holds, and one for which there is no room.
pub put_too_long : (out : List ℕ) (p : ℕ) (atom : List ℕ) → prefix_width atom ≡ none → record { answer = too_long; output = out } ≡ put out p (encode atom)
put_too_long out p atom e = sym (ap (put out p) (encode_none atom e) ∙ put_none out p)

pub put_no_room : (out : List ℕ) (p : ℕ) (atom : List ℕ) (w : ℕ) → prefix_width atom ≡ some w → length out < p + (w + length atom)
    → record { answer = full; output = out } ≡ put out p (encode atom)
put_no_room out p atom w e h =
    sym (ap (put out p) (encode_some atom w e) ∙ put_full out p (prefix w (length atom) ++ atom) (omega (arith, length_encoded atom w e)))

-- One after the other.
pub paste_paste : (out : List ℕ) (p : ℕ) (a b : List ℕ) → p + (length a + length b) ≤ length out
    → paste (paste out p a (length a)) (p + length a) b (length b) ≡ paste out p (a ++ b) (length a + length b)
paste_paste out p a b h =
    ap (λ (x : List ℕ). x ++ take (length b) b ++ drop (p + length a + length b) (paste out p a (length a)))
    (take-paste out p a (length a) (omega arith) (omega arith))
    ∙ ap (λ (x : List ℕ). take p out ++ take (length a) a ++ take (length b) b ++ x) after
    ∙ ap (λ (x : List ℕ). x ++ drop (p + (length a + length b)) out) (ap (λ (x : List ℕ). take p out ++ x ++ take (length b) b) (take-length a)
    ∙ ap (λ (x : List ℕ). take p out ++ a ++ x) (take-length b) ∙ append_assoc (take p out) a b ∙ ap (λ (x : List ℕ). take p out ++ x) (sym all))
  where
    all : take (length a + length b) (a ++ b) ≡ a ++ b
    all = take_all (length a + length b) (a ++ b) (simp length-append (omega arith))

    place : p + length a + length b ≡ p + (length a + length b)
    place = add_assoc p (length a) (length b)

    after : drop (p + length a + length b) (paste out p a (length a)) ≡ drop (p + (length a + length b)) out
    after =
        sym (drop-drop (length b) (p + length a) (paste out p a (length a))) ∙ ap (drop (length b)) (drop-paste out p a (length a) (omega arith) (omega arith))
        ∙ drop-drop (length b) (p + length a) out ∙ ap (λ (n : ℕ). drop n out) place

-- The leading ones of a prefix, as a number, have at most 40 bits.
pub mark_bound : (w : ℕ) → w ≤ 5 → mark w ≤ 256 * 256 ^ 5
mark_bound w h =
    mul-le-mul {n₁ = 256 - 2 ^ (8 - w)} {m₁ = 256 ^ (w - 1)} {n₂ = 256} {m₂ = 256 ^ 5} (omega arith) (pow-le-pow_right {n = 256} (omega arith) {i = w - 1} {j = 5} (omega arith))

-- An atom with its prefix, written one after the other.
pub put_prefixed : (out : List ℕ) (p : ℕ) (atom : List ℕ) (w : ℕ) (out₁ out₂ : List ℕ) → prefix_width atom ≡ some w → p + (w + length atom) ≤ length out
    → out₁ ≡ paste out p (prefix w (length atom)) w → out₂ ≡ paste out₁ (p + w) atom (length atom)
    → record { answer = next (p + (w + length atom)); output = out₂ } ≡ put out p (encode atom)
put_prefixed out p atom w out₁ out₂ e h first second =
    ap (λ (o : List ℕ). record { answer = next (p + (w + length atom)); output = o }) written ∙ ap (λ (n : ℕ). record { answer = next (p + n); output = paste out p bytes n }) (sym long)
    ∙ sym (ap (put out p) (encode_some atom w e) ∙ put_room out p bytes (omega (arith, long)))
  where
    pre : List ℕ
    pre = prefix w (length atom)

    bytes : List ℕ
    bytes = pre ++ atom

    size : length pre ≡ w
    size = length_big_endian w (mark w + length atom)

    long : length bytes ≡ w + length atom
    long = length_encoded atom w e

    written : out₂ ≡ paste out p bytes (w + length atom)
    written =
        second ∙ ap (λ (x : List ℕ). paste x (p + w) atom (length atom)) first
        ∙ ap (λ (n : ℕ). paste (paste out p pre n) (p + n) atom (length atom)) (sym size) ∙ paste_paste out p pre atom (omega (arith, size))
        ∙ ap (λ (n : ℕ). paste out p bytes (n + length atom)) size
