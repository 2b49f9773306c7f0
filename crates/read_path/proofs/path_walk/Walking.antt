-- A walk by a loop: i bits are passed. What the whole gives is what is left gives.
-- Assumes nothing.
use Prim.Native.Nat.{ℕ, zero, suc, ◌+◌, ◌-◌, ◌*◌, ◌≤◌, ◌<◌, min}
use mathlib.Core.Path.{◌≡◌, refl, sym, ap, subst, ◌∙◌}
use mathlib.Core.Bool.{Bool, true, false}
use mathlib.Core.List.{List, [], ◌∷◌}
use mathlib.Core.Option.{none, some}
use native.Mathlib.Omega.{arith}
use native.Mathlib.Numerals.{add-one}
use lib.ListN.{length, get_or, take, drop, drop_of_length-le}
use lib.Seq.{drop-cons, get_or-take}
use Rattle.std.specs.Int.{from_bool}
use Rattle.words.specs.Choice.{clash, by_lt}
use Rattle.words.specs.Words.{at}
use Rattle.allocator.specs.Handle.{Node, pair, listed_atom, small_atom, unknown, node_of, index_of, is_pair}
use Rattle.spec_reading.specs.Store.{Store, walk, pick_word}
use Rattle.read_path.specs.Answers.{down, Within, Reachable}

-- ---- down the stack

down_end : (bits : List Bool) (d : ℕ) → length bits ≤ 0 → down bits d ≡ 0
unfolding down
down_end [] d h = refl
down_end (b ∷ bs) d h = absurd (omega arith)

down_zero : (bits : List Bool) → down bits 0 ≡ 0
unfolding down
down_zero [] = refl
down_zero (b ∷ bs) = refl

down_clear : (b : Bool) (bs : List Bool) (d : ℕ) → b ≡ false → down (b ∷ bs) d ≡ 0
unfolding down
down_clear false bs zero e = refl
down_clear false bs (suc d) e = refl
down_clear true bs d e = clash cc

down_set : (b : Bool) (bs : List Bool) (d : ℕ) → b ≡ true → 0 < d → down (b ∷ bs) d ≡ 1 + down bs (d - 1)
unfolding down
down_set true bs zero e h = absurd (omega arith)
down_set true bs (suc d) e h = ap suc (ap (down bs) less) ∙ omega arith
  where
    less : d ≡ suc d - 1
    less = omega arith
down_set false bs d e h = clash cc

-- i set bits are passed.
abbrev pub Down : List Bool → (depth i : ℕ) → Type 0
Down bits depth i = down bits depth ≡ i + down (drop i bits) (depth - i)

pub down_start : (bits : List Bool) (depth : ℕ) → Down bits depth 0
down_start bits depth = ap (down bits) less ∙ omega arith
  where
    less : depth ≡ depth - 0
    less = omega arith

pub down_deep : (bits : List Bool) (depth i : ℕ) → Down bits depth i → depth ≤ i → i ≡ down bits depth
down_deep bits depth i d h = sym (d ∙ ap (λ (n : ℕ). i + down (drop i bits) n) none_left ∙ ap (λ (n : ℕ). i + n) (down_zero (drop i bits)) ∙ omega arith)
  where
    none_left : depth - i ≡ 0
    none_left = omega arith

pub down_over : (bits : List Bool) (depth i : ℕ) → Down bits depth i → length bits ≤ i → i ≡ down bits depth
down_over bits depth i d h =
    sym (d ∙ ap (λ (l : List Bool). i + down l (depth - i)) (drop_of_length-le bits h) ∙ ap (λ (n : ℕ). i + n) (down_end [] (depth - i) (omega arith)) ∙ omega arith)

pub down_most : (bits : List Bool) (depth i : ℕ) → Down bits depth i → (most : ℕ) → most ≡ min (length bits) depth → i ≡ most → most ≡ down bits depth
down_most bits depth i d most m e =
    by_lt (length bits) depth
    (λ h. sym e ∙ down_over bits depth i d (omega arith))
    (λ h. sym e ∙ down_deep bits depth i d (omega arith))

pub down_stop : (bits : List Bool) (depth i : ℕ) → Down bits depth i → i < length bits → get_or bits i false ≡ false → i ≡ down bits depth
down_stop bits depth i d h e =
    sym
    (d ∙ ap (λ (l : List Bool). i + down l (depth - i)) (drop-cons bits i false h)
    ∙ ap (λ (n : ℕ). i + n) (down_clear (get_or bits i false) (drop (suc i) bits) (depth - i) e) ∙ omega arith)

pub down_more : (bits : List Bool) (depth i : ℕ) → Down bits depth i → i < length bits → i < depth → get_or bits i false ≡ true → Down bits depth (i + 1)
down_more bits depth i d h l e =
    d ∙ ap (λ (l : List Bool). i + down l (depth - i)) (drop-cons bits i false h)
    ∙ ap (λ (n : ℕ). i + n) (down_set (get_or bits i false) (drop (suc i) bits) (depth - i) e (omega arith))
    ∙ ap (λ (n : ℕ). i + (1 + down (drop (suc i) bits) n)) less
    ∙ ap (λ (n : ℕ). i + (1 + down (drop n bits) (depth - (i + 1)))) (sym (add-one i)) ∙ omega arith
  where
    less : depth - i - 1 ≡ depth - (i + 1)
    less = omega arith

-- ---- down the store

pub pair_within : (m : ℕ) (n : Node) → is_pair n ≡ true → Within m n → index_of n < m
pair_within m (pair i) e w = w
pair_within m (listed_atom i) e w = clash cc
pair_within m (small_atom v) e w = clash cc
pair_within m (unknown k i) e w = clash cc

walk_into : (s : Store) (b : Bool) (bs : List Bool) (n : Node) → is_pair n ≡ false → walk s (b ∷ bs) n ≡ none
unfolding walk
walk_into s b bs (pair i) e = clash cc
walk_into s b bs (listed_atom i) e = refl
walk_into s b bs (small_atom v) e = refl
walk_into s b bs (unknown k i) e = refl

walk_down : (s : Store) (b : Bool) (bs : List Bool) (n : Node) → is_pair n ≡ true
    → walk s (b ∷ bs) n ≡ walk s bs (node_of (at s.pairs (2 * index_of n + pick_word b)))
unfolding walk
walk_down s b bs (pair i) e = refl
walk_down s b bs (listed_atom i) e = clash cc
walk_down s b bs (small_atom v) e = clash cc
walk_down s b bs (unknown k i) e = clash cc

side_low : (b : Bool) (k n : ℕ) → k < n → 2 * k + pick_word b < 2 * n
side_low false k n l = omega arith
side_low true k n l = omega arith

walk_nil : (s : Store) (n : Node) → walk s [] n ≡ some n
unfolding walk
walk_nil s n = refl

-- From h by the bits from `from` on is from g by those from i on.
abbrev pub Onward : List ℕ → ℕ → List Bool → ℕ → ℕ → ℕ → ℕ → Type 0
Onward p used bits from h i g = (s : Store) → s.pairs ≡ take (2 * used) p → walk s (drop from bits) (node_of h) ≡ walk s (drop i bits) (node_of g)

module _ (p : List ℕ) (used : ℕ) (bits : List Bool) (from h i g : ℕ) (o : Onward p used bits from h i g) where
  pub onward_end : length bits ≤ i → (s : Store) → s.pairs ≡ take (2 * used) p → some (node_of g) ≡ walk s (drop from bits) (node_of h)
  onward_end l s e = sym (o s e ∙ ap (λ (b : List Bool). walk s b (node_of g)) (drop_of_length-le bits l) ∙ walk_nil s (node_of g))

  pub onward_atom : i < length bits → is_pair (node_of g) ≡ false → (s : Store) → s.pairs ≡ take (2 * used) p → none ≡ walk s (drop from bits) (node_of h)
  onward_atom l a s e =
      sym (o s e ∙ ap (λ (b : List Bool). walk s b (node_of g)) (drop-cons bits i false l) ∙ walk_into s (get_or bits i false) (drop (suc i) bits) (node_of g) a)

  onward_more : i < length bits → is_pair (node_of g) ≡ true → index_of (node_of g) < used → (b : Bool) → get_or bits i false ≡ b
      → Onward p used bits from h (i + 1) (at p (2 * index_of (node_of g) + pick_word b))
  onward_more l a w b q s e =
      o s e
      ∙ ap (λ (r : List Bool). walk s r (node_of g)) (drop-cons bits i false l)
      ∙ walk_down s (get_or bits i false) (drop (suc i) bits) (node_of g) a
      ∙ ap (λ (c : Bool). walk s (drop (suc i) bits) (node_of (at s.pairs (2 * index_of (node_of g) + pick_word c)))) q
      ∙ ap (λ (l : List ℕ). walk s (drop (suc i) bits) (node_of (at l (2 * index_of (node_of g) + pick_word b)))) e
      ∙ ap (λ (n : ℕ). walk s (drop (suc i) bits) (node_of n)) (get_or-take (2 * used) p (2 * index_of (node_of g) + pick_word b) 0 (side_low b (index_of (node_of g)) used w))
      ∙ ap (λ (n : ℕ). walk s (drop n bits) (node_of (at p (2 * index_of (node_of g) + pick_word b)))) (sym (add-one i))

  pub onward_next : i < length bits → is_pair (node_of g) ≡ true → index_of (node_of g) < used → (b : Bool) → get_or bits i false ≡ b
      → (n : ℕ) → n ≡ at p (2 * index_of (node_of g) + pick_word b) → Onward p used bits from h (i + 1) n
  onward_next l a w b q n e = subst (λ (m : ℕ). Onward p used bits from h (i + 1) m) (sym e) (onward_more l a w b q)

-- The walk stays within the pairs.
pub reachable_next : (p : List ℕ) (used g : ℕ) → Reachable p used g → is_pair (node_of g) ≡ true → (b : Bool) (n : ℕ)
    → n ≡ at p (2 * index_of (node_of g) + pick_word b) → Reachable p used n
reachable_next p used g r a b n e =
    record {
      room = r.room;
      here = subst (λ (m : ℕ). Within used (node_of m)) (sym e)
          (r.there (2 * index_of (node_of g) + pick_word b) (side_low b (index_of (node_of g)) used (pair_within used (node_of g) a r.here)));
      there = r.there;
    }

-- The words of a pair.
pub side_is : (p : List ℕ) (j k : ℕ) → j ≡ k → (b : Bool) (n : ℕ) → n ≡ from_bool b → at p (2 * j + n) ≡ at p (2 * k + pick_word b)
side_is p j k e true n q = rw (e, q)
side_is p j k e false n q = rw (e, q)
