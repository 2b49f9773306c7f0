-- Laws of reading: an equation for each way in which a prefix and an atom are read.
-- Assumes nothing.
use Rattle.std.specs.Prelude.{ℕ, suc, ◌+◌, ◌-◌, ◌^◌, ◌≤◌, ◌<◌, ◌≡◌, refl, length, get_or, take, drop}
use Rattle.std.proofs.Common.{sym, ◌∙◌, arith, drop_of_length-le}
use Rattle.std.proofs.Math.Path.{ap}
use mathlib.Core.List.{List, [], ◌∷◌}
use Rattle.std.proofs.Math.ListN.{length-drop}
use Rattle.std.proofs.Math.Seq.{drop-cons}
use borrow.Author.Tests.{lt-ltb, le-ltb, le-leb, lt-leb, eq-eqb, ne_eqb}
use Rattle.words.specs.BigEndian.{number}
use Rattle.words.specs.Words.{part}
use Rattle.words.specs.Choice.{cond_true, cond_false, by_lt, clash}
use Rattle.std.proofs.Math.Decide.{ℕ_discrete}
use Rattle.atom.specs.Prefix.{least, mark}
use Rattle.atom.specs.Parse.{ones, sized, bad_size, one_byte, size_of, decode_size, blob, refused, whole, parse, moved_by, parse_at, blob_of}

-- ---- leading ones

pub no_one : (k b : ℕ) → b < 2 ^ k → ones (suc k) b ≡ 0
unfolding ones
no_one k b h = cond_true _ _ _ (lt-ltb b (2 ^ k) h)

pub one_more : (k b : ℕ) → 2 ^ k ≤ b → ones (suc k) b ≡ suc (ones k (b - 2 ^ k))
unfolding ones
one_more k b h = cond_false _ _ _ (le-ltb b (2 ^ k) h)

-- ---- the byte of a prefix that carries 1

module _ (s : List ℕ) (p w : ℕ) where
  pub one_missing : length s ≤ p → one_byte w (drop p s) ≡ bad_size 14
  one_missing h = ap (one_byte w) (drop_of_length-le s h)

  pub one_single : p < length s → get_or s p 0 < 0x80 → one_byte w (drop p s) ≡ bad_size 15
  one_single h l = ap (one_byte w) (drop-cons s p 0 h) ∙ cond_true _ _ _ (lt-ltb _ _ l)

  pub one_right : p < length s → 0x80 ≤ get_or s p 0 → one_byte w (drop p s) ≡ sized w 1
  one_right h l = ap (one_byte w) (drop-cons s p 0 h) ∙ cond_false _ _ _ (le-ltb _ _ l)

-- ---- a prefix of w bytes that carries n

module _ (w : ℕ) (s : List ℕ) where
  pub size_seven : 6 < w → size_of w s ≡ bad_size 14
  unfolding size_of
  size_seven h = cond_true _ _ _ (lt-ltb 6 w h)

  module _ (six : w ≤ 6) where
    pub size_not_whole : length s < w → size_of w s ≡ bad_size 14
    unfolding size_of
    size_not_whole h = cond_false _ _ _ (le-ltb 6 w six) ∙ cond_true _ _ _ (lt-ltb (length s) w h)

    module _ (there : w ≤ length s) (n : ℕ) (carries : n ≡ number (take w s) - mark w) where
      pub size_large : 2 ^ 34 ≤ n → size_of w s ≡ bad_size 14
      unfolding size_of
      size_large h = rw (← carries) (cond_false _ _ _ (le-ltb 6 w six) ∙ cond_false _ _ _ (le-ltb (length s) w there) ∙ cond_true _ _ _ (le-leb (2 ^ 34) n h))

      pub size_long : n < 2 ^ 34 → n < least w → size_of w s ≡ bad_size 15
      unfolding size_of
      size_long h l =
          rw (← carries)
          (cond_false _ _ _ (le-ltb 6 w six) ∙ cond_false _ _ _ (le-ltb (length s) w there) ∙ cond_false _ _ _ (lt-leb (2 ^ 34) n h) ∙ cond_true _ _ _ (lt-ltb n (least w) l))

      pub size_one : n < 2 ^ 34 → least w ≤ n → n ≡ 1 → size_of w s ≡ one_byte w (drop w s)
      unfolding size_of
      size_one h l e =
          rw (← carries)
          (cond_false _ _ _ (le-ltb 6 w six) ∙ cond_false _ _ _ (le-ltb (length s) w there) ∙ cond_false _ _ _ (lt-leb (2 ^ 34) n h) ∙ cond_false _ _ _ (le-ltb n (least w) l)
          ∙ cond_true _ _ _ (eq-eqb n 1 e))

      pub size_right : n < 2 ^ 34 → least w ≤ n → (n ≡ 1 → ⊥) → size_of w s ≡ sized w n
      unfolding size_of
      size_right h l e =
          rw (← carries)
          (cond_false _ _ _ (le-ltb 6 w six) ∙ cond_false _ _ _ (le-ltb (length s) w there) ∙ cond_false _ _ _ (lt-leb (2 ^ 34) n h) ∙ cond_false _ _ _ (le-ltb n (least w) l)
          ∙ cond_false _ _ _ (ne_eqb n 1 e))

-- ---- an atom

pub parse_nil : parse [] ≡ refused 14
unfolding parse
parse_nil = refl

pub parse_single : (b : ℕ) (bs : List ℕ) → b < 0x80 → parse (b ∷ bs) ≡ blob 0 1
unfolding parse
parse_single b bs h = cond_true _ _ _ (lt-ltb b 0x80 h)

pub parse_prefixed : (b : ℕ) (bs : List ℕ) → 0x80 ≤ b → parse (b ∷ bs) ≡ whole (decode_size (b ∷ bs)) (length (b ∷ bs))
unfolding parse
parse_prefixed b bs h = cond_false _ _ _ (le-ltb b 0x80 h)

module _ (input : List ℕ) (p : ℕ) where
  pub at_end : length input ≤ p → parse_at input p ≡ refused 14
  unfolding parse_at parse
  at_end h = ap (λ (s : List ℕ). moved_by p (parse s)) (drop_of_length-le input h)

  module _ (h : p < length input) where
    pub at_single : get_or input p 0 < 0x80 → parse_at input p ≡ blob (p + 0) (p + 1)
    unfolding parse_at
    at_single l = rw (drop-cons input p 0 h) (ap (moved_by p) (parse_single (get_or input p 0) (drop (suc p) input) l))

    pub at_prefixed : 0x80 ≤ get_or input p 0 → parse_at input p ≡ moved_by p (whole (decode_size (drop p input)) (length input - p))
    unfolding parse_at
    at_prefixed l =
        rw (← length-drop p input, drop-cons input p 0 h) (ap (moved_by p) (parse_prefixed (get_or input p 0) (drop (suc p) input) l))

-- ---- the part that an atom is

module _ (input : List ℕ) (start end : ℕ) where
  pub blob_backward : end < start → blob_of input (blob start end) ≡ []
  unfolding blob_of
  blob_backward h = rw (lt-leb start end h)

  pub blob_beyond : start ≤ end → length input < end → blob_of input (blob start end) ≡ []
  unfolding blob_of
  blob_beyond h k = rw (le-leb start end h, lt-leb end (length input) k)

  pub blob_there : start ≤ end → end ≤ length input → blob_of input (blob start end) ≡ take (end - start) (drop start input)
  unfolding blob_of part
  blob_there h k = rw (le-leb start end h, le-leb end (length input) k)

pub blob_refused : (input : List ℕ) (n : ℕ) → blob_of input (refused n) ≡ []
unfolding blob_of
blob_refused input n = refl

-- ---- what an accepted prefix says

-- Where the size is 1, the byte that follows is no single one.
abbrev pub NotSingle : ℕ → List ℕ → Type 0
NotSingle n [] = n ≡ 1 → ⊥
NotSingle n (b ∷ bs) = n ≡ 1 → 0x80 ≤ b

pub record Accepted (w : ℕ) (s : List ℕ) (offset n : ℕ) : Type 0 where
  pub offset_is : offset ≡ w
  pub six : w ≤ 6
  pub there : w ≤ length s
  pub carries : n ≡ number (take w s) - mark w
  pub below : n < 2 ^ 34
  pub from : least w ≤ n
  pub not_single : NotSingle n (drop w s)

bad_not_sized : {X : Type 0} (m o n : ℕ) → bad_size m ≡ sized o n → X
bad_not_sized m o n e = clash cc

not_one : (n : ℕ) (s : List ℕ) → (n ≡ 1 → ⊥) → NotSingle n s
not_one n [] h = h
not_one n (b ∷ bs) h = λ e. absurd (h e)

one_byte_sized : (w : ℕ) (s : List ℕ) (o n : ℕ) → one_byte w s ≡ sized o n → (w ≡ o) × (1 ≡ n) × NotSingle n s
one_byte_sized w [] o n e = bad_not_sized 14 o n e
one_byte_sized w (b ∷ bs) o n e =
    by_lt b 0x80
    (λ h. bad_not_sized 15 o n (sym (cond_true _ _ _ (lt-ltb b 0x80 h)) ∙ e))
    (λ h. let q : sized w 1 ≡ sized o n = sym (cond_false _ _ _ (le-ltb b 0x80 h)) ∙ e in (cc, cc, λ z. h))

pub accepted : (w : ℕ) (s : List ℕ) (o n : ℕ) → size_of w s ≡ sized o n → Accepted w s o n
accepted w s o n e =
    by_lt 6 w (λ h. bad_not_sized 14 o n (sym (size_seven w s h) ∙ e))
    (λ six. by_lt (length s) w (λ h. bad_not_sized 14 o n (sym (size_not_whole w s six h) ∙ e)) (λ there. whole_prefix six there))
  where
    m : ℕ
    m = number (take w s) - mark w

    shortest : w ≤ 6 → w ≤ length s → m < 2 ^ 34 → least w ≤ m → Dec (m ≡ 1) → Accepted w s o n
    shortest six there below from (yes one) =
        let q = one_byte_sized w (drop w s) o n (sym (size_one w s six there m refl below from one) ∙ e) in
        let i : m ≡ n = one ∙ q.1 in
        record { offset_is = sym q.0; six = six; there = there; carries = sym i; below = rw (← i) below; from = rw (← i) from; not_single = q.2 }
    shortest six there below from (no other) =
        let q : sized w m ≡ sized o n = sym (size_right w s six there m refl below from other) ∙ e in
        let i : m ≡ n = cc in
        let j : w ≡ o = cc in
        record { offset_is = sym j; six = six; there = there; carries = sym i; below = rw (← i) below; from = rw (← i) from; not_single = rw (← i) (not_one m (drop w s) other) }

    whole_prefix : w ≤ 6 → w ≤ length s → Accepted w s o n
    whole_prefix six there =
        by_lt m (2 ^ 34)
        (λ below. by_lt m (least w) (λ h. bad_not_sized 15 o n (sym (size_long w s six there m refl below h) ∙ e)) (λ from. shortest six there below from (ℕ_discrete m 1)))
        (λ h. bad_not_sized 14 o n (sym (size_large w s six there m refl h) ∙ e))

-- A prefix of six bytes is never accepted.
pub no_six : (s : List ℕ) (o n : ℕ) → size_of 6 s ≡ sized o n → ⊥
no_six s o n e = let a = accepted 6 s o n e in omega (arith, a.below, a.from)
