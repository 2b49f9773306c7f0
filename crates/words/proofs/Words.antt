-- Laws of words: parts, tables, and what a store leaves.
use mathlib.Core.Path.{◌≡◌, refl, sym, ap, ◌∙◌}
use mathlib.Core.List.{List, [], ◌∷◌, ◌++◌, map}
use Prim.Native.Nat.{ℕ, zero, suc, min, ◌+◌, ◌-◌, ◌≤◌, ◌<◌}
use native.Mathlib.Omega.{arith}
use native.Mathlib.Nat.{not-suc-le-zero, le_of_suc-le-suc}
use native.Mathlib.Numerals.{add-one}
use native.Mathlib.Decide.{ℕ_discrete, dec_lt, dec_le}
use borrow.Rule.Slice.PartMut.{put_mid, same_len_mid}
use lib.ListN.{length, get_or, take, drop, set, replicate, length-set, length-take, length-drop, get_or-append}
use lib.Seq.{ext_get_or, get_or-take, get_or-drop, get_or-set_same, get_or-set_other, take-suc, take_at, drop_at, drop-drop, take_all, length-take-le}
use Rattle.std.proofs.Common.{Fits, w8}
use Rattle.words.specs.Choice.{by_lt}
use Rattle.words.specs.Lists.{Bytes, all_of}
use Rattle.words.specs.Words.{part, tabulate, at}

-- A list whose first n members are v: one more of them, and all.
pub filled_more : {A : Type 0} (n : ℕ) (v : A) (d : List A) → n < length d → set (replicate n v ++ drop n d) n v ≡ replicate (n + 1) v ++ drop (n + 1) d
filled_more {A} n v d h = rw (add-one n) (go n d h)
  where
    go : (n : ℕ) (d : List A) → n < length d → set (replicate n v ++ drop n d) n v ≡ replicate (suc n) v ++ drop (suc n) d
    go n [] h = absurd (not-suc-le-zero h)
    go zero (x ∷ d) h = refl
    go (suc n) (x ∷ d) h = ap (λ (t : List A). v ∷ t) (go n d (le_of_suc-le-suc h))

-- What a slice of bytes holds are bytes.
pub each_byte : (bs : List ℕ) → ((i : ℕ) → Fits w8 (get_or bs i 0)) → Bytes bs
each_byte bs f = all_of (λ (x : ℕ). x < 256) bs 0 (λ i l. omega (arith, f i))

module _ {A : Type 0} where
  pub length_tabulate : (n : ℕ) (f : ℕ → A) → length (tabulate n f) ≡ n
  unfolding tabulate
  length_tabulate zero f = refl
  length_tabulate (suc n) f = ap suc (length_tabulate n (λ k. f (suc k)))

  pub get_d_tabulate : (n : ℕ) (f : ℕ → A) (i : ℕ) (d : A) → i < n → get_or (tabulate n f) i d ≡ f i
  unfolding tabulate
  get_d_tabulate zero f i d h = absurd (not-suc-le-zero h)
  get_d_tabulate (suc n) f zero d h = refl
  get_d_tabulate (suc n) f (suc i) d h = get_d_tabulate n (λ k. f (suc k)) i d (le_of_suc-le-suc h)

  -- two tables that differ in row e alone
  pub tabulate_set : (n : ℕ) (f g : ℕ → A) (e : ℕ) → e < n → ((k : ℕ) → k < n → (k ≡ e → ⊥) → g k ≡ f k)
      → tabulate n g ≡ set (tabulate n f) e (g e)
  tabulate_set n f g e h same =
      ext_get_or (g 0) _ _ (length_tabulate n g ∙ sym (length_tabulate n f) ∙ sym (length-set (tabulate n f) e (g e)))
      (λ i l. let p : i < n = rw length_tabulate at l in go i p (ℕ_discrete i e))
    where
      go : (i : ℕ) → i < n → Dec (i ≡ e) → get_or (tabulate n g) i (g 0) ≡ get_or (set (tabulate n f) e (g e)) i (g 0)
      go i p (yes q) = get_d_tabulate n g i (g 0) p ∙ rw q (sym (get_or-set_same (tabulate n f) e (g e) (g 0) (rw length_tabulate h)))
      go i p (no q) = get_d_tabulate n g i (g 0) p ∙ same i p q ∙ sym (get_d_tabulate n f i (g 0) p) ∙ sym (get_or-set_other (tabulate n f) e i (g e) (g 0) q)

  pub map_append : {B : Type 0} (f : A → B) (xs ys : List A) → map f (xs ++ ys) ≡ map f xs ++ map f ys
  map_append f [] ys = refl
  map_append f (x ∷ xs) ys = ap {B = List _} (λ r. f x ∷ r) (map_append f xs ys)

-- A part's length and its words.
pub part_length : (w : List ℕ) (off n : ℕ) → off + n ≤ length w → length (part w off n) ≡ n
unfolding part
part_length w off n h = simp (length-take, length-drop) (omega arith)

pub part_at : (w : List ℕ) (off n i : ℕ) → i < n → get_or (part w off n) i 0 ≡ at w (off + i)
unfolding part
part_at w off n i h = rw (get_or-take, get_or-drop)

-- one word more
pub part_more : (w : List ℕ) (off n : ℕ) → off + n < length w → part w off (n + 1) ≡ part w off n ++ (at w (off + n) ∷ [])
unfolding part
part_more w off n h =
    let l : n < length (drop off w) = simp length-drop (omega arith) in
    ap (λ (k : ℕ). take k (drop off w)) (add-one n) ∙ take-suc (drop off w) n 0 l ∙ ap (λ (x : ℕ). take n (drop off w) ++ (x ∷ [])) (get_or-drop off w n 0)

-- A part that was lent and came back: w with r in the place of its k words from a on.
module _ (a k : ℕ) (w r : List ℕ) (h : a + k ≤ length w) (len : length r ≡ k) where
  pub put_length : length (put_mid a k w r) ≡ length w
  put_length = same_len_mid a k w r (len ∙ sym (length-take-le k (drop a w) (simp length-drop (omega arith))))

  pub put_part : part (put_mid a k w r) a k ≡ r
  unfolding part
  put_part = ap (take k) (drop_at (take a w) _ a (length-take-le a w (omega arith))) ∙ take_at r _ k len

  pub put_at : (j : ℕ) → j < k → at (put_mid a k w r) (a + j) ≡ at r j
  put_at j l = sym (part_at (put_mid a k w r) a k j l) ∙ ap (λ (x : List ℕ). at x j) put_part

  -- a word outside is as it was
  pub put_other : (i : ℕ) → ((j : ℕ) → j < k → i ≡ a + j → ⊥) → at (put_mid a k w r) i ≡ at w i
  put_other i q = go (dec_lt i a) (dec_le (a + k) i)
    where
      rest : List ℕ
      rest = r ++ drop k (drop a w)

      long : length (take a w) ≡ a
      long = length-take-le a w (omega arith)

      after : drop (a + k) (put_mid a k w r) ≡ drop (a + k) w
      after =
          sym (drop-drop k a (put_mid a k w r)) ∙ ap (drop k) (drop_at (take a w) rest a long) ∙ drop_at r (drop k (drop a w)) k len ∙ drop-drop k a w

      go : Dec (i < a) → Dec (a + k ≤ i) → at (put_mid a k w r) i ≡ at w i
      go (yes l) _ = get_or-append (take a w) rest 0 i (rw long l) ∙ get_or-take a w i 0 l
      go (no l) (yes m) =
          let e : a + k + (i - (a + k)) ≡ i = omega arith in
          rw (← e, ← get_or-drop (a + k) (put_mid a k w r) (i - (a + k)) 0, after, get_or-drop)
      go (no l) (no m) = absurd (q (i - a) (omega arith) (omega arith))

-- A run of stores. `stores w ((a , v) ∷ ..)` computes to the nested `set`s that the code leaves.
pub record Store : Type 0 where
  pub to : ℕ
  pub word : ℕ

abbrev pub stores : List ℕ → List Store → List ℕ
stores w [] = w
stores w (s ∷ ss) = stores (set w s.to s.word) ss

-- k is the place of none of them: a product that `omega` proves at once
abbrev pub Misses : ℕ → List Store → Type 0
Misses k [] = Unit {0}
Misses k (s ∷ ss) = (k ≡ s.to → ⊥) × Misses k ss

pub length_stores : (ss : List Store) (w : List ℕ) → length (stores w ss) ≡ length w
length_stores [] w = refl
length_stores (s ∷ ss) w = length_stores ss (set w s.to s.word) ∙ length-set w s.to s.word

pub miss : (ss : List Store) (w : List ℕ) (k : ℕ) → Misses k ss → at (stores w ss) k ≡ at w k
miss [] w k m = refl
miss (s ∷ ss) w k m = miss ss (set w s.to s.word) k m.1 ∙ get_or-set_other w s.to k s.word 0 m.0

-- the word of a store that no later one overwrites
pub hit : (ss : List Store) (w : List ℕ) (k v : ℕ) → k < length w → Misses k ss → at (stores (set w k v) ss) k ≡ v
hit ss w k v l m = miss ss (set w k v) k m ∙ get_or-set_same w k v 0 l

pub tabulate_more : {A : Type 0} (n : ℕ) (f g : ℕ → A) → ((k : ℕ) → k < n → g k ≡ f k) → tabulate (n + 1) g ≡ tabulate n f ++ (g n ∷ [])
unfolding tabulate
tabulate_more {A} n f g same = ap (λ (m : ℕ). tabulate m g) (add-one n) ∙ go n f g same
  where
    go : (n : ℕ) (f g : ℕ → A) → ((k : ℕ) → k < n → g k ≡ f k) → tabulate (suc n) g ≡ tabulate n f ++ (g n ∷ [])
    go zero f g h = refl
    go (suc n) f g h = λ i. h 0 (omega arith) i ∷ go n (λ k. f (suc k)) (λ k. g (suc k)) (λ k l. h (suc k) (omega arith)) i

abbrev pub nth : List Store → ℕ → Store
nth ss i = get_or ss i (record { to = 0; word = 0 })

-- store i, which no later one overwrites
pub hits : (ss : List Store) (i : ℕ) (w : List ℕ) → i < length ss → (nth ss i).to < length w → Misses (nth ss i).to (drop (suc i) ss)
    → at (stores w ss) (nth ss i).to ≡ (nth ss i).word
hits [] i w h l m = absurd (not-suc-le-zero h)
hits (s ∷ ss) zero w h l m = hit ss w s.to s.word l m
hits (s ∷ ss) (suc i) w h l m = hits ss i (set w s.to s.word) (le_of_suc-le-suc h) (rw (length-set w s.to s.word) l) m

pub tabulate_same : {A : Type 0} (n : ℕ) (f g : ℕ → A) → ((k : ℕ) → k < n → g k ≡ f k) → tabulate n g ≡ tabulate n f
unfolding tabulate
tabulate_same zero f g h = refl
tabulate_same (suc n) f g h = λ i. h 0 (omega arith) i ∷ tabulate_same n (λ k. f (suc k)) (λ k. g (suc k)) (λ k l. h (suc k) (omega arith)) i

-- Where more is asked for than there is, all is taken.
pub take_lesser : {A : Type 0} (m n : ℕ) (l : List A) → m ≡ min n (length l) → take m l ≡ take n l
take_lesser m n l e =
    by_lt n (length l) (λ h. let same : m ≡ n = omega arith in ap (λ (k : ℕ). take k l) same)
    (λ h. take_all m l (omega arith) ∙ sym (take_all n l h))
