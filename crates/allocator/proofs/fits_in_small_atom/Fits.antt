-- The tests of `fits_in_small_atom` are right: which bytes are those of a small atom.
-- Assumes nothing.
use Prim.Native.Nat.{ℕ, suc, ◌^◌, ◌≤◌, ◌<◌}
use mathlib.Core.Path.{◌≡◌, refl, sym, ap, ◌∙◌}
use mathlib.Core.Bool.{Bool, true, false}
use mathlib.Core.List.{List, [], ◌∷◌}
use native.Mathlib.Omega.{arith}
use native.Mathlib.Nat.{pow-suc}
use lib.ListN.{length, get_or}
use lib.Dec.{leb, eqb}
use Rattle.std.proofs.lemmas.Bool.{false≢true}
use borrow.Author.Tests.{lt-ltb, le-leb, lt-leb}
use Rattle.std.proofs.Math.Option.{some, none}
use Rattle.words.specs.Choice.{by_lt}
use Rattle.words.specs.Lists.{Bytes, same_refl}
use Rattle.words.specs.BigEndian.{number_after, number, number_bound, big_endian_number}
use Rattle.allocator.specs.SmallAtom.{len_for_value, small_bytes, is_small_atom, fits_in_small_atom}
use Rattle.allocator.specs.SmallAtomLaws.{len_at_most, len_at_least, len_some, len_zero, length_small_bytes, is_small_true}
use Rattle.allocator.proofs.fits_in_small_atom.Numbers.{three_bytes, first_at_least, first_below}

-- Bytes are those of a small atom when their number has 26 bits and takes just so many bytes.
small : (bs : List ℕ) → Bytes bs → number bs < 2 ^ 26 → len_for_value (number bs) ≡ length bs → true ≡ is_small_atom bs
unfolding is_small_atom small_bytes
small bs bytes h e = sym (rw (lt-ltb (number bs) (2 ^ 26) h, e, big_endian_number bs bytes) (same_refl bs))

listed : (bs : List ℕ) → (number bs < 2 ^ 26 → len_for_value (number bs) ≡ length bs → ⊥) → false ≡ is_small_atom bs
listed bs not = go (is_small_atom bs) refl
  where
    go : (b : Bool) → is_small_atom bs ≡ b → false ≡ b
    go true q = absurd (not (is_small_true bs q).0 (sym (length_small_bytes (number bs)) ∙ ap length (is_small_true bs q).1))
    go false q = refl

-- What `is_empty` says of bytes that it turns down.
pub some_byte : (bs : List ℕ) (b : Bool) → b ≡ eqb (length bs) 0 → b ≡ false → 0 < length bs
some_byte [] b e f = absurd (false≢true (sym f ∙ e))
some_byte (x ∷ bs) b e f = omega arith

pub empty_small : (bs : List ℕ) → length bs ≡ 0 → true ≡ is_small_atom bs
unfolding number_after
empty_small [] h = small [] tt (omega arith) len_zero
empty_small (b ∷ bs) h = absurd (omega arith)

pub long_listed : (bs : List ℕ) → 4 < length bs → false ≡ is_small_atom bs
long_listed bs h = listed bs (λ l e. omega (arith, len_at_most 3 (number bs) (omega arith)))

-- The top bit is set.
pub negative_listed : (bs : List ℕ) → 0 < length bs → 128 ≤ get_or bs 0 0 → false ≡ is_small_atom bs
negative_listed [] h k = absurd (omega arith)
negative_listed (a ∷ bs) h k = listed (a ∷ bs) (λ l e. omega (arith, len_at_least (length bs) (number (a ∷ bs)) (first_at_least 128 a bs k)))

-- A zero alone.
pub zero_listed : (bs : List ℕ) → length bs ≡ 1 → get_or bs 0 0 ≡ 0 → false ≡ is_small_atom bs
unfolding number_after
zero_listed [] h z = absurd (omega arith)
zero_listed (a ∷ []) h z = let q : number (a ∷ []) ≡ 0 = omega arith in listed (a ∷ []) (λ l e. omega (arith, ap len_for_value q, len_zero))
zero_listed (a ∷ b ∷ bs) h z = absurd (omega arith)

-- After a first zero the next byte's top bit decides.
pub next_decides : (bs : List ℕ) → Bytes bs → 1 < length bs → length bs ≤ 4 → get_or bs 0 0 ≡ 0 → leb 128 (get_or bs 1 0) ≡ is_small_atom bs
unfolding number_after
next_decides [] bytes h k z = absurd (omega arith)
next_decides (a ∷ []) bytes h k z = absurd (omega arith)
next_decides (a ∷ b ∷ bs) bytes h k z = by_lt b 128 redundant needed
  where
    same_number : number (a ∷ b ∷ bs) ≡ number (b ∷ bs)
    same_number = ap (λ (x : ℕ). number (x ∷ b ∷ bs)) z

    redundant : b < 128 → leb 128 b ≡ is_small_atom (a ∷ b ∷ bs)
    redundant l =
        lt-leb 128 b l
        ∙ listed (a ∷ b ∷ bs) (λ n e. omega (arith, ap len_for_value same_number, len_at_most (length bs) (number (b ∷ bs)) (first_below 128 b bs bytes.1.1 l)))

    under : number (b ∷ bs) < 256 ^ suc (length bs)
    under = number_bound (b ∷ bs) bytes.1

    needed : 128 ≤ b → leb 128 b ≡ is_small_atom (a ∷ b ∷ bs)
    needed l =
        let s : 256 ^ suc (length bs) ≤ 256 ^ 3 = three_bytes (suc (length bs)) (omega arith) in
        le-leb 128 b l
        ∙ small (a ∷ b ∷ bs) bytes (omega (arith, same_number, under))
        (omega (
          arith,
          ap len_for_value same_number,
          len_at_least (length bs) (number (b ∷ bs)) (first_at_least 128 b bs l),
          len_at_most (suc (length bs)) (number (b ∷ bs)) (omega (arith, under)),
        ))

-- A number takes as many bytes as there are from a first byte that is neither zero nor has its top bit set.
len_from_first : (a : ℕ) (bs : List ℕ) → Bytes bs → 0 < a → a < 128 → len_for_value (number (a ∷ bs)) ≡ suc (length bs)
unfolding number_after
len_from_first a bs bytes l h = omega (arith, len_at_most (length bs) (number (a ∷ bs)) (first_below 128 a bs bytes h), go bs)
  where
    go : (cs : List ℕ) → suc (length cs) ≤ len_for_value (number (a ∷ cs))
    go [] = len_some (number (a ∷ [])) (omega arith)
    go (c ∷ cs) = omega (arith, len_at_least (length cs) (number (a ∷ c ∷ cs)) (omega (arith, first_at_least 1 a (c ∷ cs) l, pow-suc 256 (length cs))))

pub short_small : (bs : List ℕ) → Bytes bs → 0 < length bs → length bs < 4 → 0 < get_or bs 0 0 → get_or bs 0 0 < 128 → true ≡ is_small_atom bs
short_small [] bytes h k l m = absurd (omega arith)
short_small (a ∷ bs) bytes h k l m =
    let s : 256 ^ suc (length bs) ≤ 256 ^ 3 = three_bytes (suc (length bs)) (omega arith) in
    small (a ∷ bs) bytes (omega (arith, number_bound (a ∷ bs) bytes)) (len_from_first a bs bytes.1 l m)

-- Of four bytes the first decides.
pub first_decides : (bs : List ℕ) → Bytes bs → length bs ≡ 4 → 0 < get_or bs 0 0 → get_or bs 0 0 < 128 → leb (get_or bs 0 0) 3 ≡ is_small_atom bs
first_decides [] bytes h l m = absurd (omega arith)
first_decides (a ∷ bs) bytes h l m = by_lt a 4 narrow wide
  where
    power : 256 ^ length bs ≡ 256 ^ 3
    power = let q : length bs ≡ 3 = omega arith in ap (λ (n : ℕ). 256 ^ n) q

    narrow : a < 4 → leb a 3 ≡ is_small_atom (a ∷ bs)
    narrow k = le-leb a 3 (omega arith) ∙ small (a ∷ bs) bytes (omega (arith, power, first_below 4 a bs bytes.1 k)) (len_from_first a bs bytes.1 l m)

    wide : 4 ≤ a → leb a 3 ≡ is_small_atom (a ∷ bs)
    wide k = lt-leb a 3 (omega arith) ∙ listed (a ∷ bs) (λ n e. omega (arith, power, first_at_least 4 a bs k))

pub small_length : (bs : List ℕ) → true ≡ is_small_atom bs → length bs ≤ 4
small_length bs e =
    let p : (number bs < 2 ^ 26) × (small_bytes (number bs) ≡ bs) = is_small_true bs (sym e) in
    omega (arith, p.0, ap length p.1, length_small_bytes (number bs), len_at_most 3 (number bs) (omega (arith, p.0)))

pub answer_small : (bs : List ℕ) (n : ℕ) → true ≡ is_small_atom bs → n ≡ number bs → some n ≡ fits_in_small_atom bs
unfolding fits_in_small_atom
answer_small bs n e q = rw (sym e, q)

pub answer_listed : (bs : List ℕ) → false ≡ is_small_atom bs → none ≡ fits_in_small_atom bs
unfolding fits_in_small_atom
answer_listed bs e = rw (sym e)
