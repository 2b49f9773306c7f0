-- The two measures of a path: what `serialized_length` counts is what the path's atom takes by the documentation, and one byte too many for paths of 512 to
-- 8,191 bytes and of 1,048,576 to 16,777,215.
-- Assumes nothing.
use Rattle.std.specs.Prelude.{ℕ, ◌+◌, ◌/◌, ◌%◌, ◌^◌, ◌≤◌, ◌<◌, ◌≡◌, refl, Bool, true, false, cond, ◌&&◌, List, [], ◌∷◌, ◌++◌, eqb, ltb, leb, length, get_or}
use Rattle.std.proofs.Common.{sym, ap, ◌∙◌, arith, length-append, eq-eqb, ne_eqb, le-leb, lt-ltb, le-ltb}
use Rattle.std.proofs.Math.Option.{Option, some}
use Rattle.std.proofs.Math.Decide.{ℕ_discrete}
use Rattle.std.proofs.lemmas.Bool.{lt-leb}
use Rattle.words.specs.Choice.{by_lt, cond_true, cond_false}
use Rattle.atom.specs.Prefix.{width, first_width, single}
use Rattle.atom.specs.PrefixLaws.{single_one, single_other}
use Rattle.atom.specs.WriteLaws.{width_of_single, width_of_sized, length_some}
use Rattle.path.specs.Bytes.{value, path_bytes}
use Rattle.path.proofs.BytesLaws.{length_path_bytes, value_append, value_below, one_octet}
use Rattle.path.specs.Measure.{counted_bytes, counted, documented}
use Rattle.path.specs.MeasureLaws.{documented_prefix}

-- Whether the bits fill their bytes counts for a path of one byte only.
pub only_one : (f g : Bool) (n : ℕ) → (n ≡ 1 → f ≡ g) → counted_bytes f n ≡ counted_bytes g n
only_one f g n h = go (ℕ_discrete n 1)
  where
    go : Dec (n ≡ 1) → counted_bytes f n ≡ counted_bytes g n
    go (yes e) = ap (λ (b : Bool). counted_bytes b n) (h e)
    go (no d) = rw (ne_eqb n 1 d)

-- ---- sizes

-- What `serialized_length` counts too many for n bytes.
abbrev pub too_many : ℕ → ℕ
too_many n = cond (leb 512 n && ltb n 8192) 1 (cond (leb 1048576 n && ltb n 16777216) 1 0)

pub width_is : (n : ℕ) → n < 2 ^ 34 → width n ≡ some (documented_prefix n)
unfolding first_width
width_is n h = rw (lt-ltb n (2 ^ 34) h) (go (ltb n 64) (ltb n 8192) (ltb n 1048576) (ltb n 134217728))
  where
    go : (a b c d : Bool) → cond {A = Option ℕ} a (some 1) (cond b (some 2) (cond c (some 3) (cond d (some 4) (some 5)))) ≡ some (cond a 1 (cond b 2 (cond c 3 (cond d 4 5))))
    go true b c d = refl
    go false true c d = refl
    go false false true d = refl
    go false false false true = refl
    go false false false false = refl

-- One byte.
counted_one : (full : Bool) (n : ℕ) → n ≡ 1 → counted_bytes full n ≡ cond full 2 1
counted_one full n e = rw e

one_prefix : (n : ℕ) → n ≡ 1 → documented_prefix n ≡ 1
one_prefix n e = rw e

none_many : (n : ℕ) → n < 512 → too_many n ≡ 0
none_many n h = rw (lt-leb 512 n h, lt-leb 1048576 n (omega arith))

-- Two bytes or more.
counted_wide : (full : Bool) (n : ℕ) → 2 ≤ n → counted_bytes full n ≡ documented_prefix n + n + too_many n
counted_wide full n two =
    rw (ne_eqb n 0 (λ e. omega arith), ne_eqb n 1 (λ e. omega arith))
    (by_lt n 64 (λ a. rw (lt-ltb n 64 a, lt-leb 512 n (omega arith), lt-leb 1048576 n (omega arith)) (omega arith)) (λ a.
    by_lt n 512 (λ b. rw (le-ltb n 64 a, lt-ltb n 512 b, lt-ltb n 8192 (omega arith), lt-leb 512 n (omega arith), lt-leb 1048576 n (omega arith)) (omega arith)) (λ b.
    by_lt n 8192 (λ c. rw (le-ltb n 64 a, le-ltb n 512 b, lt-ltb n 8192 c, lt-ltb n 1048576 (omega arith), le-leb 512 n b) (omega arith)) (λ c.
    by_lt n 1048576 (λ d. rw (le-ltb n 64 a, le-ltb n 512 b, le-ltb n 8192 c, lt-ltb n 1048576 d, le-leb 512 n b, lt-leb 1048576 n (omega arith)) (omega arith)) (λ d.
    by_lt n 16777216
    (λ e. rw (le-ltb n 64 a, le-ltb n 512 b, le-ltb n 8192 c, le-ltb n 1048576 d, lt-ltb n 16777216 e, lt-ltb n 134217728 (omega arith), le-leb 512 n b, le-leb 1048576 n d) (omega arith)) (λ e.
    by_lt n 134217728 (λ f. rw (le-ltb n 64 a, le-ltb n 512 b, le-ltb n 8192 c, le-ltb n 1048576 d, le-ltb n 16777216 e, lt-ltb n 134217728 f, le-leb 512 n b, le-leb 1048576 n d) (omega arith))
    (λ f. rw (le-ltb n 64 a, le-ltb n 512 b, le-ltb n 8192 c, le-ltb n 1048576 d, le-ltb n 16777216 e, le-ltb n 134217728 f, le-leb 512 n b, le-leb 1048576 n d) (omega arith))))))))

-- ---- a path that ends with its terminator, as a search gives it

-- With a set bit after seven others it is 128 at least.
value_high : (s : List Bool) → length s ≡ 7 → 128 ≤ value (s ++ true ∷ [])
value_high s e = let p : 2 ^ length s ≡ 128 = ap (λ (k : ℕ). 2 ^ k) e in rw (value_append s (true ∷ []), p) (omega arith)

module _ (s : List Bool) where
  abbrev bits : List Bool
  bits = s ++ true ∷ []

  abbrev n : ℕ
  n = length (path_bytes bits)

  abbrev first : ℕ
  first = get_or (path_bytes bits) 0 0

  abbrev full : Bool
  full = eqb (length bits % 8) 0 && leb 80 first

  bits_length : length bits ≡ length s + 1
  bits_length = length-append s (true ∷ [])

  bytes_length : n ≡ (length s + 8) / 8
  bytes_length = omega (arith, length_path_bytes bits, bits_length)

  -- A path of at most eight bits is one byte, their number.
  byte_is : length s ≤ 7 → first ≡ value bits
  byte_is h = ap (λ (l : List ℕ). get_or l 0 0) (one_octet bits (omega (arith, bits_length)) (omega (arith, bits_length)))

  -- Fewer than eight bits: the byte stands for itself, and does not fill.
  record Short : Type 0 where
    one : n ≡ 1
    alone : single (path_bytes bits) ≡ true
    fills : full ≡ false

  short : length s < 7 → Short
  short h =
      let one : n ≡ 1 = omega (arith, bytes_length) in
      let low : first < 128 = omega (arith, byte_is (omega arith), value_below 7 bits (omega (arith, bits_length))) in
      let some : length bits % 8 ≡ length s + 1 = omega (arith, bits_length) in
      record {
        one = one;
        alone = single_one (path_bytes bits) one ∙ lt-ltb first 128 low;
        fills = ap (λ (b : Bool). b && leb 80 first) (ne_eqb (length bits % 8) 0 (λ e. omega arith));
      }

  -- Eight bits: the byte has a prefix, and fills.
  record Eight : Type 0 where
    one : n ≡ 1
    prefixed : single (path_bytes bits) ≡ false
    fills : full ≡ true

  eight : length s ≡ 7 → Eight
  eight h =
      let one : n ≡ 1 = omega (arith, bytes_length) in
      let high : 128 ≤ first = omega (arith, byte_is (omega arith), value_high s h) in
      record {
        one = one;
        prefixed = single_one (path_bytes bits) one ∙ le-ltb first 128 high;
        fills = rw (eq-eqb (length bits % 8) 0 (omega (arith, bits_length)), le-leb 80 first (omega arith));
      }

  sized : single (path_bytes bits) ≡ false → n < 2 ^ 34 → documented bits ≡ documented_prefix n + n
  sized e h = length_some (path_bytes bits) (documented_prefix n) (width_of_sized (path_bytes bits) e (documented_prefix n) (width_is n h))

  alone_length : single (path_bytes bits) ≡ true → documented bits ≡ 0 + n
  alone_length e = length_some (path_bytes bits) 0 (width_of_single (path_bytes bits) e)

  -- By the number of bits.
  by_bits : {X : Type 0} → (length s < 7 → X) → (length s ≡ 7 → X) → (8 ≤ length s → X) → X
  by_bits f g h = by_lt (length s) 7 f (λ k. by_lt (length s) 8 (λ l. g (omega arith)) h)

  -- What the documentation has for a path: one byte for fewer than eight bits, else its bytes and their prefix.
  pub documented_is : n < 2 ^ 34 → documented bits ≡ cond (ltb (length bits) 8) 1 (documented_prefix n + n)
  documented_is h =
      by_bits
      (λ k. let t = short k in rw (lt-ltb (length bits) 8 (omega (arith, bits_length))) (omega (arith, alone_length t.alone, t.one)))
      (λ k. rw (le-ltb (length bits) 8 (omega (arith, bits_length))) (sized (eight k).prefixed h))
      (λ k. rw (le-ltb (length bits) 8 (omega (arith, bits_length))) (sized (single_other (path_bytes bits) (λ e. omega (arith, bytes_length))) h))

  one_counted : (f : Bool) → full ≡ f → n ≡ 1 → counted bits ≡ cond f 2 1
  one_counted f e o = counted_one full n o ∙ ap (λ (b : Bool). cond b 2 1) e

  -- Whether the bits fill a single byte is seen by their number.
  fills_is : n ≡ 1 → eqb (length bits % 8) 0 ≡ full
  fills_is one =
      by_bits
      (λ k. ne_eqb (length bits % 8) 0 (λ e. omega (arith, bits_length)) ∙ sym (short k).fills)
      (λ k. eq-eqb (length bits % 8) 0 (omega (arith, bits_length)) ∙ sym (eight k).fills)
      (λ k. absurd (omega (arith, bytes_length)))

  pub counted_is : counted_bytes (eqb (length bits % 8) 0) n ≡ counted bits
  counted_is = only_one (eqb (length bits % 8) 0) full n fills_is

  -- THE TWO MEASURES: the Rust's is the documentation's, and one byte more in the two ranges.
  pub counted_documented : n < 2 ^ 34 → counted bits ≡ documented bits + too_many n
  counted_documented h =
      by_bits
      (λ k. let t = short k in omega (arith, one_counted false t.fills t.one, alone_length t.alone, t.one, none_many n (omega (arith, t.one))))
      (λ k.
      let t = eight k in
      omega (arith, one_counted true t.fills t.one, sized t.prefixed h, t.one, one_prefix n t.one, none_many n (omega (arith, t.one))))
      (λ k.
      omega (arith, counted_wide full n (omega (arith, bytes_length)), sized (single_other (path_bytes bits) (λ e. omega (arith, bytes_length))) h))

  -- So they are the same below 512 bytes.
  pub measures_agree : n < 512 → counted bits ≡ documented bits
  measures_agree h = omega (arith, counted_documented (omega arith), none_many n h)

  -- Of fewer than 8,192 bytes, which every path of a search has: one byte more from 512 on.
  pub measures_short : n < 8192 → counted bits ≡ documented bits + cond (leb 512 n) 1 0
  measures_short h =
      counted_documented (omega arith)
      ∙ ap (λ (k : ℕ). documented bits + k) (rw (lt-ltb n 8192 h, lt-leb 1048576 n (omega arith)) (same (leb 512 n)))
    where
      same : (b : Bool) → cond {A = ℕ} (b && true) 1 0 ≡ cond b 1 0
      same true = refl
      same false = refl

  -- There the documentation has two bytes of prefix, and the Rust counts three.
  pub measures_long : 512 ≤ n → n < 8192 → (documented bits ≡ n + 2) × (counted bits ≡ n + 3)
  measures_long l h =
      let two : documented_prefix n ≡ 2 = rw (le-ltb n 64 (omega arith), lt-ltb n 8192 h) in
      let one : cond {A = ℕ} (leb 512 n) 1 0 ≡ 1 = cond_true (leb 512 n) 1 0 (le-leb 512 n l) in
      let d = documented_is (omega arith) ∙ cond_false (ltb (length bits) 8) 1 (documented_prefix n + n) (le-ltb (length bits) 8 (omega (arith, bytes_length, bits_length))) in
      (omega (arith, d, two), omega (arith, d, two, one, measures_short h))
