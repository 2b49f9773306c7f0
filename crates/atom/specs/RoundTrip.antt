-- What is written is read back, and what is accepted is the one shortest form: an atom's bytes in a tree are those that `encode` gives, and no others are read.
-- Assumes nothing.
use Prim.Native.Nat.{ℕ, zero, suc, ◌+◌, ◌-◌, ◌*◌, ◌/◌, ◌%◌, ◌^◌, ◌≤◌, ◌<◌}
use Rattle.std.specs.Prelude.{◌≡◌, Bool, true, false, length, get_or, drop}
use Rattle.std.proofs.Math.Path.{refl, ap}
use Rattle.std.proofs.Common.{sym, subst, ◌∙◌, arith, zero-add, add-mul, mul-le-mul_right, pow-suc, div-one, div-lt_iff_lt-mul, mod-eq_of_lt, take_at}
use Rattle.std.proofs.Common.{drop_at, take-add, length-append, pow_mono, pow_pos, lt-ltb, le-ltb, ltb-true}
use mathlib.Core.List.{List, [], ◌∷◌, ◌++◌, append_assoc}
use Rattle.std.proofs.Math.Option.{Option, none, some, none-ne-some, some-injective}
use Rattle.std.proofs.Math.Nat.{pow-succ', one-le-pow, div-div-eq-div-mul, mul-add-div_right}
use Rattle.std.proofs.Math.Decide.{ℕ_discrete}
use Rattle.std.proofs.Math.Seq.{length-take-le}
use Rattle.std.proofs.Math.ListN.{take, length-drop, get_or-append}
use Rattle.words.specs.Choice.{by_lt, cond_true, cond_false, clash}
use Rattle.words.specs.Lists.{Bytes, all_take}
use Rattle.words.specs.Words.{tabulate}
use Rattle.words.specs.BigEndian.{big_endian, number, number_after, length_big_endian, number_big_endian, big_endian_number, number_after_bound, number_after_low}
use Rattle.atom.specs.Prefix.{size_bits, least, width, mark, prefix, single, prefix_width, encode}
use Rattle.atom.specs.PrefixLaws.{table_at, Carries, width_carries, carries_width, carries_limit, width_some}
use Rattle.atom.specs.Parse.{ones, Size, sized, bad_size, one_byte, size_of, decode_size, blob, refused, whole, parse, blob_of}
use Rattle.atom.specs.ParseLaws.{no_one, one_more, size_one, size_right, NotSingle, Accepted, accepted, parse_nil, parse_single, parse_prefixed, blob_there}
use Rattle.atom.specs.WriteLaws.{encode_some, encode_none, width_of_single, width_of_sized, width_of_none}

-- ---- leading ones

power_next : (k : ℕ) → 2 ^ suc k ≡ 2 ^ k + 2 ^ k
power_next k = omega (arith, pow-suc 2 k)

-- w ones, a zero, and q in the bits below.
pub ones_of : (k w q x : ℕ) → w < k → q < 2 ^ (k - 1 - w) → x + 2 ^ (k - w) ≡ 2 ^ k + q → ones k x ≡ w
ones_of zero w q x h l e = absurd (omega arith)
ones_of (suc k) zero q x h l e = no_one k x (omega (arith, ap (λ (n : ℕ). 2 ^ n) a, ap (λ (n : ℕ). 2 ^ n) b))
  where
    a : suc k - 1 - 0 ≡ k
    a = omega arith

    b : suc k - 0 ≡ suc k
    b = omega arith
ones_of (suc k) (suc w) q x h l e =
    one_more k x (omega (arith, low, power_next k, ap (λ (n : ℕ). 2 ^ n) a))
    ∙ ap suc (ones_of k w q (x - 2 ^ k) (omega arith) (rw b at l) (omega (arith, low, power_next k, ap (λ (n : ℕ). 2 ^ n) a)))
  where
    a : suc k - suc w ≡ k - w
    a = omega arith

    b : suc k - 1 - suc w ≡ k - 1 - w
    b = omega arith

    low : 2 ^ (k - w) ≤ 2 ^ k
    low = pow_mono {i = k - w} {j = k} (omega arith)

-- What a number of k bits with w leading ones, fewer than k, has beyond them.
pub ones_split : (k b w : ℕ) → b < 2 ^ k → ones k b ≡ w → w < k → (2 ^ k ≤ b + 2 ^ (k - w)) × (b + 2 ^ (k - w) < 2 ^ k + 2 ^ (k - 1 - w))
ones_split zero b w h e l = absurd (omega arith)
ones_split (suc k) b zero h e l =
    by_lt b (2 ^ k)
    (λ q. (omega (arith, ap (λ (n : ℕ). 2 ^ n) a), omega (arith, ap (λ (n : ℕ). 2 ^ n) a, ap (λ (n : ℕ). 2 ^ n) c)))
    (λ q. absurd (omega (arith, one_more k b q)))
  where
    a : suc k - 0 ≡ suc k
    a = omega arith

    c : suc k - 1 - 0 ≡ k
    c = omega arith
ones_split (suc k) b (suc w) h e l =
    by_lt b (2 ^ k) (λ q. absurd (omega (arith, no_one k b q)))
    (λ q. step q (ones_split k (b - 2 ^ k) w (omega (arith, power_next k)) (omega (arith, one_more k b q)) (omega arith)))
  where
    a : suc k - suc w ≡ k - w
    a = omega arith

    c : suc k - 1 - suc w ≡ k - 1 - w
    c = omega arith

    step : 2 ^ k ≤ b → (2 ^ k ≤ b - 2 ^ k + 2 ^ (k - w)) × (b - 2 ^ k + 2 ^ (k - w) < 2 ^ k + 2 ^ (k - 1 - w))
        → (2 ^ suc k ≤ b + 2 ^ (suc k - suc w)) × (b + 2 ^ (suc k - suc w) < 2 ^ suc k + 2 ^ (suc k - 1 - suc w))
    step q i =
        (omega (arith, power_next k, ap (λ (n : ℕ). 2 ^ n) a), omega (arith, power_next k, ap (λ (n : ℕ). 2 ^ n) a, ap (λ (n : ℕ). 2 ^ n) c))

-- ---- the first byte

first_byte : (k n : ℕ) → get_or (big_endian (suc k) n) 0 0 ≡ n / 256 ^ k % 256
first_byte zero n = unfold big_endian in ap (λ (x : ℕ). x % 256) (sym (div-one n))
first_byte (suc k) n =
    ap (λ (l : List ℕ). get_or l 0 0) split
    ∙ get_or-append (big_endian (suc k) (n / 256)) (n % 256 ∷ []) 0 0 (omega (arith, length_big_endian (suc k) (n / 256)))
    ∙ first_byte k (n / 256) ∙ ap (λ (x : ℕ). x % 256) (div-div-eq-div-mul n 256 (256 ^ k) ∙ ap (λ (x : ℕ). n / x) (sym (pow-succ' 256 k)))
  where
    split : big_endian (suc (suc k)) n ≡ big_endian (suc k) (n / 256) ++ n % 256 ∷ []
    split = unfold big_endian in refl

-- The bits for the size: those left in the first byte and all of the others. One computed test over the widths.
bits_are : (w : ℕ) → 1 ≤ w → w ≤ 5 → 2 ^ size_bits w ≡ 2 ^ (7 - w) * 256 ^ (w - 1)
bits_are w h l =
    sym (table_at (λ n. 2 ^ size_bits n) 5 (tabulate 5 (λ k. 2 ^ size_bits (suc k))) refl w h l)
    ∙ table_at (λ n. 2 ^ (7 - n) * 256 ^ (n - 1)) 5 (tabulate 5 (λ k. 2 ^ size_bits (suc k))) same w h l
  where
    same : tabulate 5 (λ k. 2 ^ (7 - suc k) * 256 ^ (suc k - 1)) ≡ tabulate 5 (λ k. 2 ^ size_bits (suc k))
    same = unfold tabulate in refl

-- The highest bits of the size, which stand in the first byte.
top_bits : (w n : ℕ) → Carries w n → n / 256 ^ (w - 1) < 2 ^ (7 - w)
top_bits w n c = (div-lt_iff_lt-mul {k = 256 ^ (w - 1)} {x = n} {y = 2 ^ (7 - w)} (one-le-pow (w - 1) 256 (omega arith))).1 (rw (bits_are w c.one c.five) at c.below)

-- The prefix as a number: its ones, and then the highest bits of the size.
mark_top : (w n : ℕ) → (mark w + n) / 256 ^ (w - 1) ≡ 256 - 2 ^ (8 - w) + n / 256 ^ (w - 1)
mark_top w n = mul-add-div_right {m = 256 ^ (w - 1)} (one-le-pow (w - 1) 256 (omega arith)) (256 - 2 ^ (8 - w)) n

top_fits : (w n : ℕ) → Carries w n → 256 - 2 ^ (8 - w) + n / 256 ^ (w - 1) < 256
top_fits w n c =
    let low : 2 ^ (8 - w) ≤ 2 ^ 8 = pow_mono {i = 8 - w} {j = 8} (omega arith) in
    let up : 2 ^ (7 - w) ≤ 2 ^ (8 - w) = pow_mono {i = 7 - w} {j = 8 - w} (omega arith) in
    omega (arith, top_bits w n c, pow_pos (8 - w))

prefix_first : (w n : ℕ) → Carries w n → get_or (prefix w n) 0 0 + 2 ^ (8 - w) ≡ 256 + n / 256 ^ (w - 1)
prefix_first zero n c = absurd (omega (arith, c.one))
prefix_first (suc k) n c =
    let low : 2 ^ (8 - suc k) ≤ 2 ^ 8 = pow_mono {i = 8 - suc k} {j = 8} (omega arith) in
    omega (arith, first)
  where
    pred : suc k - 1 ≡ k
    pred = omega arith

    first : get_or (prefix (suc k) n) 0 0 ≡ 256 - 2 ^ (8 - suc k) + n / 256 ^ (suc k - 1)
    first =
        first_byte k (mark (suc k) + n) ∙ ap (λ (j : ℕ). (mark (suc k) + n) / 256 ^ j % 256) (sym pred) ∙ ap (λ (x : ℕ). x % 256) (mark_top (suc k) n)
        ∙ mod-eq_of_lt (top_fits (suc k) n c)

prefix_fits : (w n : ℕ) → Carries w n → mark w + n < 256 ^ w
prefix_fits zero n c = absurd (omega (arith, c.one))
prefix_fits (suc k) n c =
    let h : mark (suc k) + n < 256 * 256 ^ (suc k - 1) =
    (div-lt_iff_lt-mul {k = 256 ^ (suc k - 1)} {x = mark (suc k) + n} {y = 256} (one-le-pow (suc k - 1) 256 (omega arith))).0 (rw (mark_top (suc k) n) (top_fits (suc k) n c)) in
    rw (pow-succ' 256 k) (subst (λ (j : ℕ). mark (suc k) + n < 256 * 256 ^ j) pred h)
  where
    pred : suc k - 1 ≡ k
    pred = omega arith

-- ---- what is written is read back

parse_cons : (s : List ℕ) → 0 < length s → 0x80 ≤ get_or s 0 0 → parse s ≡ whole (decode_size s) (length s)
parse_cons [] h l = absurd (omega arith)
parse_cons (b ∷ bs) h l = parse_prefixed b bs l

one_follows : (w : ℕ) (atom rest : List ℕ) → single atom ≡ false → length atom ≡ 1 → one_byte w (atom ++ rest) ≡ sized w 1
one_follows w [] rest other e = absurd (omega arith)
one_follows w (b ∷ []) rest other e = cond_false _ _ _ other
one_follows w (b ∷ c ∷ bs) rest other e = absurd (omega arith)

module _ (atom rest : List ℕ) (w : ℕ) (other : single atom ≡ false) (c : Carries w (length atom)) where
  abbrev pre : List ℕ
  pre = prefix w (length atom)

  abbrev s : List ℕ
  s = pre ++ atom ++ rest

  tail : s ≡ pre ++ (atom ++ rest)
  tail = append_assoc pre atom rest

  pre_length : length pre ≡ w
  pre_length = length_big_endian w (mark w + length atom)

  s_length : length s ≡ w + length atom + length rest
  s_length = simp length-append (omega (arith, pre_length))

  first : get_or s 0 0 ≡ get_or pre 0 0
  first = ap (λ (l : List ℕ). get_or l 0 0) tail ∙ get_or-append pre (atom ++ rest) 0 0 (omega (arith, pre_length, c.one))

  ones_first : ones 8 (get_or s 0 0) ≡ w
  ones_first =
      ap (ones 8) first
      ∙ ones_of 8 w (length atom / 256 ^ (w - 1)) (get_or pre 0 0) (omega (arith, c.five)) (top_bits w (length atom) c) (prefix_first w (length atom) c)

  big : 0x80 ≤ get_or s 0 0
  big =
      let low : 2 ^ (8 - w) ≤ 2 ^ 7 = pow_mono {i = 8 - w} {j = 7} (omega (arith, c.one)) in
      omega (arith, first, prefix_first w (length atom) c)

  carried : length atom ≡ number (take w s) - mark w
  carried =
      let e : number (take w s) ≡ mark w + length atom =
      ap (λ (l : List ℕ). number (take w l)) tail ∙ ap number (take_at pre (atom ++ rest) w pre_length) ∙ number_big_endian w (mark w + length atom) (prefix_fits w (length atom) c) in
      omega arith

  decoded : decode_size s ≡ sized w (length atom)
  decoded = ap (λ (n : ℕ). size_of n s) ones_first ∙ go (ℕ_discrete (length atom) 1)
    where
      six : w ≤ 6
      six = omega (arith, c.five)

      there : w ≤ length s
      there = omega (arith, s_length)

      after : drop w s ≡ atom ++ rest
      after = ap (drop w) tail ∙ drop_at pre (atom ++ rest) w pre_length

      go : Dec (length atom ≡ 1) → size_of w s ≡ sized w (length atom)
      go (yes e) =
          size_one w s six there (length atom) carried (carries_limit (length atom) w c) c.from e ∙ ap (one_byte w) after ∙ one_follows w atom rest other e ∙ ap (sized w) (sym e)
      go (no d) = size_right w s six there (length atom) carried (carries_limit (length atom) w c) c.from d

  parsed : parse s ≡ blob w (w + length atom)
  parsed =
      parse_cons s (omega (arith, s_length, c.one)) big ∙ ap (λ (z : Size). whole z (length s)) decoded
      ∙ cond_false _ _ _ (le-ltb (length s) (w + length atom) (omega (arith, s_length)))

-- Bytes s begin with the bytes of an atom, and reading gives the atom and goes on behind them.
pub record Reads (s atom bytes : List ℕ) : Type 0 where
  pub start : ℕ
  pub parsed_is : parse s ≡ blob start (length bytes)
  pub blob_is : blob_of s (blob start (length bytes)) ≡ atom

reads_at : (pre atom rest : List ℕ) → parse (pre ++ atom ++ rest) ≡ blob (length pre) (length pre + length atom) → Reads (pre ++ atom ++ rest) atom (pre ++ atom)
reads_at pre atom rest e =
    record {
      start = length pre;
      parsed_is = e ∙ ap (blob (length pre)) (sym (length-append pre atom));
      blob_is = whole_part;
    }
  where
    s : List ℕ
    s = pre ++ atom ++ rest

    long : length (pre ++ atom) ≡ length pre + length atom
    long = length-append pre atom

    fits : length (pre ++ atom) ≤ length s
    fits = simp length-append (omega arith)

    size : length (pre ++ atom) - length pre ≡ length atom
    size = omega (arith, long)

    whole_part : blob_of s (blob (length pre) (length (pre ++ atom))) ≡ atom
    whole_part =
        blob_there s (length pre) (length (pre ++ atom)) (omega (arith, long)) fits
        ∙ ap (λ (n : ℕ). take n (drop (length pre) s)) size
        ∙ ap (λ (l : List ℕ). take (length atom) (drop (length pre) l)) (append_assoc pre atom rest)
        ∙ ap (take (length atom)) (drop_at pre (atom ++ rest) (length pre) refl) ∙ take_at atom rest (length atom) refl

same_place : (s atom bytes : List ℕ) (bytes' : List ℕ) → bytes' ≡ bytes → Reads (bytes' ++ s) atom bytes' → Reads (bytes ++ s) atom bytes
same_place s atom bytes bytes' e r = subst (λ (l : List ℕ). Reads (l ++ s) atom l) e r

read_single : (atom rest : List ℕ) → single atom ≡ true → parse (atom ++ rest) ≡ blob 0 (length atom)
read_single [] rest e = clash cc
read_single (b ∷ []) rest e = parse_single b rest (ltb-true b 0x80 e)
read_single (b ∷ c ∷ bs) rest e = clash cc

encode_single : (atom : List ℕ) → prefix_width atom ≡ some 0 → encode atom ≡ some atom
encode_single atom i = encode_some atom 0 i ∙ unfold big_endian in refl

-- WHAT IS WRITTEN IS READ BACK, whatever bytes follow.
pub read_back : (atom bytes rest : List ℕ) → encode atom ≡ some bytes → Reads (bytes ++ rest) atom bytes
read_back atom bytes rest e = go (single atom) refl
  where
    prefixed_case : single atom ≡ false → (o : Option ℕ) → width (length atom) ≡ o → Reads (bytes ++ rest) atom bytes
    prefixed_case other none q = absurd (none-ne-some bytes (sym (encode_none atom (width_of_none atom other q)) ∙ e))
    prefixed_case other (some w) q =
        let i : prefix_width atom ≡ some w = width_of_sized atom other w q in
        let long : length (prefix w (length atom)) ≡ w = length_big_endian w (mark w + length atom) in
        same_place rest atom bytes (prefix w (length atom) ++ atom) (some-injective (prefix w (length atom) ++ atom) bytes (sym (encode_some atom w i) ∙ e))
        (reads_at (prefix w (length atom)) atom rest (rw long (parsed atom rest w other (width_carries (length atom) w q))))

    go : (b : Bool) → single atom ≡ b → Reads (bytes ++ rest) atom bytes
    go true single-is =
        let i : prefix_width atom ≡ some 0 = width_of_single atom single-is in
        same_place rest atom bytes atom (some-injective atom bytes (sym (encode_single atom i) ∙ e))
        (reads_at [] atom rest (read_single atom rest single-is ∙ ap (blob 0) (sym (zero-add (length atom)))))
    go false other = prefixed_case other (width (length atom)) refl

-- Every atom of fewer than 2^34 bytes has a form, which by the law above is accepted.
pub has_form : (atom : List ℕ) → length atom < 2 ^ 34 → encode atom ≡ none → ⊥
has_form atom h e = go (single atom) refl
  where
    sized_case : single atom ≡ false → (o : Option ℕ) → width (length atom) ≡ o → ⊥
    sized_case other none q = width_some (length atom) h q
    sized_case other (some w) q = none-ne-some (prefix w (length atom) ++ atom) (sym e ∙ encode_some atom w (width_of_sized atom other w q))

    go : (b : Bool) → single atom ≡ b → ⊥
    go true single-is = none-ne-some atom (sym e ∙ encode_single atom (width_of_single atom single-is))
    go false other = sized_case other (width (length atom)) refl

-- ---- what is accepted is what is written

not_single : (n : ℕ) (t : List ℕ) → n ≤ length t → NotSingle n t → single (take n t) ≡ false
not_single zero [] h q = refl
not_single (suc n) [] h q = absurd (omega arith)
not_single zero (c ∷ t) h q = refl
not_single (suc zero) (c ∷ t) h q = le-ltb c 0x80 (q refl)
not_single (suc (suc n)) (c ∷ []) h q = absurd (omega arith)
not_single (suc (suc n)) (c ∷ d ∷ t) h q = refl

-- The bits that the first byte's ones leave hold the size.
module _ (b : ℕ) (X : List ℕ) (w n : ℕ) (byte : b < 256) (bytes : Bytes X) (ones_are : ones 8 b ≡ w) (one : 1 ≤ w) (five : w ≤ 5) (long : length X ≡ w - 1) where
  abbrev P : ℕ
  P = 256 ^ (w - 1)

  parts : (256 ≤ b + 2 ^ (8 - w)) × (b + 2 ^ (8 - w) < 256 + 2 ^ (7 - w))
  parts = ones_split 8 b w byte ones_are (omega arith)

  low : 2 ^ (8 - w) ≤ 2 ^ 8
  low = pow_mono {i = 8 - w} {j = 8} (omega arith)

  above : mark w ≤ number_after b X
  above =
      let i : b * P ≤ number_after b X = rw long at (number_after_low b X) in
      let j : (256 - 2 ^ (8 - w)) * P ≤ b * P = mul-le-mul_right P (omega (arith, parts.0, low)) in
      omega arith

  under : number_after b X < mark w + 2 ^ size_bits w
  under =
      let i : number_after b X < (b + 1) * P = rw long at (number_after_bound b X bytes) in
      let j : (b + 1) * P ≤ (256 - 2 ^ (8 - w) + 2 ^ (7 - w)) * P = mul-le-mul_right P (omega (arith, parts.1, low)) in
      let k : (256 - 2 ^ (8 - w) + 2 ^ (7 - w)) * P ≡ (256 - 2 ^ (8 - w)) * P + 2 ^ (7 - w) * P = add-mul (256 - 2 ^ (8 - w)) (2 ^ (7 - w)) P in
      omega (arith, bits_are w one five)

six_not : (w n : ℕ) → w ≤ 6 → n < 2 ^ 34 → least w ≤ n → w ≤ 5
six_not w n six below from = by_lt w 6 (λ h. omega arith) (λ h. let e : w ≡ 6 = omega arith in absurd (omega (arith, rw e at from)))

module _ (b : ℕ) (bs : List ℕ) (byte : b < 256) (bytes : Bytes bs) (big : 0x80 ≤ b) (w n : ℕ) (acc : Accepted (ones 8 b) (b ∷ bs) w n) (fits : w + n ≤ length (b ∷ bs)) where
  abbrev all : List ℕ
  all = b ∷ bs

  ones_are : ones 8 b ≡ w
  ones_are = sym acc.offset_is

  one : 1 ≤ w
  one = omega (arith, ones_are, one_more 7 b big)

  five : w ≤ 5
  five = six_not w n (rw ones_are at acc.six) acc.below (rw ones_are at acc.from)

  carries : n ≡ number (take w all) - mark w
  carries = subst (λ (k : ℕ). n ≡ number (take k all) - mark k) ones_are acc.carries

  X : List ℕ
  X = take (w - 1) bs

  X_length : length X ≡ w - 1
  unfolding X
  X_length = length-take-le (w - 1) bs (omega arith)

  X_bytes : Bytes X
  unfolding X
  X_bytes = all_take (λ (x : ℕ). x < 256) (w - 1) bs bytes

  front : take w all ≡ b ∷ X
  unfolding X
  front = let e : w ≡ suc (w - 1) = omega (arith, one) in ap (λ (k : ℕ). take k all) e

  front_number : number (take w all) ≡ number_after b X
  front_number = ap number front ∙ unfold number_after in ap (λ (k : ℕ). number_after k X) (zero-add b)

  below : n < 2 ^ size_bits w
  below = omega (arith, pow_pos (size_bits w), carries, front_number, under b X w n byte X_bytes ones_are one five X_length)

  atom : List ℕ
  atom = take n (drop w all)

  atom_length : length atom ≡ n
  unfolding atom
  atom_length = length-take-le n (drop w all) (simp length-drop (omega arith))

  not_alone : single atom ≡ false
  unfolding atom
  not_alone = not_single n (drop w all) (simp length-drop (omega arith)) (subst (λ (k : ℕ). NotSingle n (drop k all)) ones_are acc.not_single)

  shortest : prefix_width atom ≡ some w
  shortest =
      width_of_sized atom not_alone w
      (ap width atom_length ∙ carries_width n w (record { one = one; five = five; from = subst (λ (k : ℕ). least k ≤ n) ones_are acc.from; below = below }))

  same_prefix : prefix w n ≡ take w all
  same_prefix =
      let long : length (take w all) ≡ w = length-take-le w all (omega arith) in
      let e : mark w + n ≡ number (take w all) = omega (arith, carries, front_number, above b X w n byte X_bytes ones_are one five X_length) in
      ap (big_endian w) e ∙ ap (λ (k : ℕ). big_endian k (number (take w all))) (sym long)
      ∙ big_endian_number (take w all) (all_take (λ (x : ℕ). x < 256) w all (byte, bytes))

  encoded : encode (take n (drop w all)) ≡ some (take (w + n) all)
  encoded = unfold atom in
      encode_some atom w shortest ∙ ap (λ (k : ℕ). some (prefix w k ++ atom)) atom_length
      ∙ ap (λ (l : List ℕ). some (l ++ atom)) same_prefix ∙ ap {B = Option (List ℕ)} some (sym (take-add w n all))

parsed_encoded : (b : ℕ) (bs : List ℕ) (a e : ℕ) → b < 256 → Bytes bs → 0x80 ≤ b → (z : Size) → decode_size (b ∷ bs) ≡ z → whole z (length (b ∷ bs)) ≡ blob a e
    → encode (blob_of (b ∷ bs) (blob a e)) ≡ some (take e (b ∷ bs))
parsed_encoded b bs a e byte bytes big (bad_size n) q r = clash cc
parsed_encoded b bs a e byte bytes big (sized w n) q r = by_lt (length (b ∷ bs)) (w + n) short long
  where
    short : length (b ∷ bs) < w + n → encode (blob_of (b ∷ bs) (blob a e)) ≡ some (take e (b ∷ bs))
    short h =
        let x : refused 14 ≡ blob a e = sym (cond_true _ _ _ (lt-ltb (length (b ∷ bs)) (w + n) h)) ∙ r in
        clash cc

    long : w + n ≤ length (b ∷ bs) → encode (blob_of (b ∷ bs) (blob a e)) ≡ some (take e (b ∷ bs))
    long h =
        let x : blob w (w + n) ≡ blob a e = sym (cond_false _ _ _ (le-ltb (length (b ∷ bs)) (w + n) h)) ∙ r in
        let i : w ≡ a = cc in
        let j : w + n ≡ e = cc in
        let size : w + n - w ≡ n = omega arith in
        rw (← i, ← j)
        (ap encode (blob_there (b ∷ bs) w (w + n) (omega arith) h ∙ ap (λ (k : ℕ). take k (drop w (b ∷ bs))) size)
        ∙ encoded b bs byte bytes big w n (accepted (ones 8 b) (b ∷ bs) w n q) h)

-- WHAT IS ACCEPTED IS THE ONE SHORTEST FORM: the bytes read are those that the atom is written as.
pub accepted_encoded : (s : List ℕ) (a e : ℕ) → Bytes s → parse s ≡ blob a e → encode (blob_of s (blob a e)) ≡ some (take e s)
accepted_encoded [] a e bytes q =
    let x : refused 14 ≡ blob a e = sym parse_nil ∙ q in
    clash cc
accepted_encoded (b ∷ bs) a e bytes q =
    by_lt b 0x80
    (λ h.
    let x : blob 0 1 ≡ blob a e = sym (parse_single b bs h) ∙ q in
    let i : 0 ≡ a = cc in
    let j : 1 ≡ e = cc in
    rw (← i, ← j) (ap encode (blob_there (b ∷ bs) 0 1 (omega arith) (omega arith)) ∙ encode_single (b ∷ []) (width_of_single (b ∷ []) (lt-ltb b 0x80 h))))
    (λ h. parsed_encoded b bs a e bytes.0 bytes.1 h (decode_size (b ∷ bs)) refl (sym (parse_prefixed b bs h) ∙ q))
