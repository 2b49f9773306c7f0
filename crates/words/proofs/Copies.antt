-- What a copy leaves: the words copied, and the others as they were.
-- Assumes nothing.
use mathlib.Core.Path.{◌≡◌, sym, ap, ◌∙◌}
use mathlib.Core.List.{List, ◌++◌}
use Prim.Native.Nat.{ℕ, ◌+◌, ◌-◌, ◌≤◌, ◌<◌}
use native.Mathlib.Omega.{arith}
use native.Mathlib.Decide.{dec_lt}
use native.Mathlib.Numerals.{add-one}
use lib.ListN.{length, get_or, take, drop, set, length-take, length-drop, get_or-append}
use lib.Seq.{paste, paste-suc, length-paste, length_paste_head, length-take-le, get_or-take, get_or-drop, get_or-append-add}
use Rattle.words.specs.Words.{at}

-- a turn of a copy
pub paste_more : (d : List ℕ) (p : ℕ) (s : List ℕ) (i : ℕ) → p + i < length d → i < length s
    → set (paste d p s i) (p + i) (get_or s i 0) ≡ paste d p s (i + 1)
paste_more d p s i h k = paste-suc d p s i 0 h k ∙ ap (λ (j : ℕ). paste d p s j) (sym (add-one i))

-- an element that the copy has not reached, or that lies below it, is as it was
pub paste_other : (d : List ℕ) (p : ℕ) (s : List ℕ) (n k : ℕ) → p ≤ length d → n ≤ length s → (p ≤ k → p + n ≤ k) → get_or (paste d p s n) k 0 ≡ get_or d k 0
paste_other d p s n k h l o = go (dec_lt k p)
  where
    long : length (take p d ++ take n s) ≡ p + n
    long = length_paste_head d p s n h l

    go : Dec (k < p) → get_or (paste d p s n) k 0 ≡ get_or d k 0
    go (yes q) =
        get_or-append (take p d ++ take n s) (drop (p + n) d) 0 k (omega (arith, long))
        ∙ get_or-append (take p d) (take n s) 0 k (simp length-take (omega arith)) ∙ get_or-take p d k 0 q
    go (no q) =
        let m : p + n ≤ k = o (omega arith) in
        let e : length (take p d ++ take n s) + (k - (p + n)) ≡ k = omega (arith, long) in
        let f : p + n + (k - (p + n)) ≡ k = omega arith in
        ap (λ (j : ℕ). get_or (paste d p s n) j 0) (sym e) ∙ get_or-append-add (take p d ++ take n s) (drop (p + n) d) (k - (p + n)) 0 ∙ get_or-drop (p + n) d (k - (p + n)) 0
        ∙ ap (λ (j : ℕ). get_or d j 0) f

-- a turn of a copy within one list
pub within_more : (d : List ℕ) (from to count i : ℕ) → from + count ≤ length d → to + count ≤ length d → (from < to → from + count ≤ to) → i < count
    → set (paste d to (drop from d) i) (to + i) (get_or (paste d to (drop from d) i) (from + i) 0) ≡ paste d to (drop from d) (i + 1)
within_more d from to count i h k apart l =
    let long : length (drop from d) ≡ length d - from = length-drop from d in
    ap (λ (v : ℕ). set (paste d to (drop from d) i) (to + i) v)
    (paste_other d to (drop from d) i (from + i) (omega arith) (omega (arith, long)) (λ q. low q (dec_lt from to)) ∙ sym (get_or-drop from d i 0))
    ∙ paste_more d to (drop from d) i (omega arith) (omega (arith, long))
  where
    low : to ≤ from + i → Dec (from < to) → to + i ≤ from + i
    low q (yes m) = absurd (omega (arith, apart m))
    low q (no m) = omega arith

-- The n words from `from` on stand from `to` on, and nothing else is touched.
pub record Copied (w w' : List ℕ) (from to n : ℕ) : Type 0 where
  pub len : length w' ≡ length w
  pub here : (i : ℕ) → i < n → at w' (to + i) ≡ at w (from + i)
  pub other : (k : ℕ) → (to ≤ k → to + n ≤ k) → at w' k ≡ at w k

module _ (w : List ℕ) (from to n : ℕ) (f : from + n ≤ length w) (t : to + n ≤ length w) where
  enough : n ≤ length (drop from w)
  enough = simp length-drop (omega arith)

  copied_here : (i : ℕ) → i < n → at (paste w to (drop from w) n) (to + i) ≡ at w (from + i)
  copied_here i l =
      get_or-append (take to w ++ take n (drop from w)) (drop (to + n) w) 0 (to + i)
      (omega (arith, length_paste_head w to (drop from w) n (omega arith) enough))
      ∙ ap (λ (k : ℕ). get_or (take to w ++ take n (drop from w)) (k + i) 0) (sym (length-take-le to w (omega arith)))
      ∙ get_or-append-add (take to w) (take n (drop from w)) i 0 ∙ get_or-take n (drop from w) i 0 l ∙ get_or-drop from w i 0

  pub copied : (w' : List ℕ) → w' ≡ paste w to (drop from w) n → Copied w w' from to n
  copied w' e =
      rw e
      (record {
        len = length-paste w to (drop from w) n t enough;
        here = copied_here;
        other = λ k o. paste_other w to (drop from w) n k (omega arith) enough o;
      })
