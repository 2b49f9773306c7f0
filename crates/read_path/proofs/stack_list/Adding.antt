-- A value is put on the list of those below it: its cached list is taken, or a pair is made and kept with it. The list of the lowest values, one after the other.
-- Assumes nothing.
use Prim.Native.Nat.{ℕ, zero, suc, ◌+◌, ◌-◌, ◌*◌, ◌^◌, ◌≤◌, ◌<◌}
use mathlib.Core.Path.{◌≡◌, refl, sym, ap, subst, ◌∙◌}
use mathlib.Core.List.{List, [], ◌∷◌, ◌++◌}
use mathlib.Core.Option.{Option, none, some}
use native.Mathlib.Omega.{arith}
use native.Mathlib.Numerals.{add-one}
use lib.ListN.{length, take, drop, set}
use lib.Seq.{paste, get_or-set_same, get_or-set_other, drop-drop}
use Rattle.words.specs.Words.{at}
use Rattle.allocator.specs.Handle.{handle_of, pair, nil}
use Rattle.spec_reading.specs.Store.{Store, Value, Listed, add_to_list, list_of}
use Rattle.read_store.specs.Layout.{VALUES, cached_list, value_at, values_of}
use Rattle.read_store.proofs.reader_stacks.Stacks.{values_same, values_more}
use Rattle.read_store.proofs.Stored.{take_two, drop_two, half}
use Rattle.read_path.specs.declared.stack_list.Built.{Built}
use Rattle.spec_reading.specs.Sound.{unlisted}
use Rattle.read_path.specs.Lists.{unlisted_of, Holds, Adds, Lists}

-- ---- a list that the value has

list_of_word : (n : ℕ) → (n ≡ 0 → ⊥) → cached_list n ≡ some (n - 1)
list_of_word zero h = absurd (h refl)
list_of_word (suc n) h = ap some less
  where
    less : n ≡ suc n - 1
    less = omega arith

module _ (w p : List ℕ) (i : ℕ) (below b : Built) (listed : at w (VALUES + 2 * i + 1) ≡ 0 → ⊥) (node : b.node.0 ≡ at w (VALUES + 2 * i + 1) - 1)
    (pairs : b.counts.pairs ≡ below.counts.pairs) (ghosts : b.counts.ghosts ≡ below.counts.ghosts) (listed_is : b.counts.listed ≡ i + 1) where
  cached : cached_list (at w (VALUES + 2 * i + 1)) ≡ some b.node.0
  cached = list_of_word (at w (VALUES + 2 * i + 1)) listed ∙ ap some (sym node)

  pub adds_cached : Adds w p i below w p b
  adds_cached =
      record {
        list_is = λ l h. subst (λ (o : Option ℕ). Holds p b (add_to_list o (at w (VALUES + 2 * i)) l)) (sym cached)
            record { node_is = refl; pairs_are = ap (λ (n : ℕ). take (2 * n) p) pairs ∙ h.pairs_are; ghosts_are = ghosts ∙ h.ghosts_are };
        values_are = λ l h. rw cached;
        others = λ k q. refl;
        pairs_rest = refl;
        total = omega arith;
        spent = rw cached (omega (arith, ghosts));
        listed_is = listed_is;
      }

-- ---- a pair that is made

module _ (w p : List ℕ) (i : ℕ) (below : Built) (p' : List ℕ) (b : Built) (room : VALUES + 2 * i + 1 < length w) (free : 2 * below.counts.pairs + 2 ≤ length p)
    (bare : at w (VALUES + 2 * i + 1) ≡ 0) (some_left : 1 ≤ below.counts.ghosts) (node : b.node.0 ≡ handle_of (pair below.counts.pairs))
    (pairs : b.counts.pairs ≡ below.counts.pairs + 1) (ghosts : b.counts.ghosts ≡ below.counts.ghosts - 1) (listed_is : b.counts.listed ≡ i + 1)
    (appended : p' ≡ paste p (2 * below.counts.pairs) (at w (VALUES + 2 * i) ∷ below.node.0 ∷ []) 2) where
  kept : List ℕ
  kept = set w (VALUES + 2 * i + 1) (b.node.0 + 1)

  none_yet : cached_list (at w (VALUES + 2 * i + 1)) ≡ none
  none_yet = ap cached_list bare

  elsewhere : (k : ℕ) → (k ≡ VALUES + 2 * i + 1 → ⊥) → at kept k ≡ at w k
  unfolding kept
  elsewhere k q = get_or-set_other w (VALUES + 2 * i + 1) k (b.node.0 + 1) 0 q

  kept_list : cached_list (at kept (VALUES + 2 * i + 1)) ≡ some b.node.0
  unfolding kept
  kept_list = ap cached_list (get_or-set_same w (VALUES + 2 * i + 1) (b.node.0 + 1) 0 room ∙ add-one b.node.0)

  made : (l : Listed) → Holds p below l → Holds p' b (add_to_list none (at w (VALUES + 2 * i)) l)
  made l h =
      record {
        node_is = node ∙ ap (λ (n : ℕ). handle_of (pair n)) (sym (half p l.store.pairs below.counts.pairs (omega arith) (sym h.pairs_are)));
        pairs_are =
            (λ j. take (2 * pairs j) (appended j)) ∙ take_two p below.counts.pairs (at w (VALUES + 2 * i)) below.node.0 free
            ∙ (λ j. h.pairs_are j ++ at w (VALUES + 2 * i) ∷ h.node_is j ∷ []);
        ghosts_are = ghosts ∙ ap (λ (n : ℕ). n - 1) h.ghosts_are;
      }

  pub adds_made : Adds w p i below (set w (VALUES + 2 * i + 1) (b.node.0 + 1)) p' b
  unfolding kept
  adds_made =
      record {
        list_is = λ l h. subst (λ (o : Option ℕ). Holds p' b (add_to_list o (at w (VALUES + 2 * i)) l)) (sym none_yet) (made l h);
        values_are = λ l h.
            (λ j. record { node = elsewhere (VALUES + 2 * i) (λ q. omega arith) j; list = (kept_list ∙ ap some (made l h).node_is) j } ∷ l.values)
            ∙ ap (λ (o : Option ℕ). (add_to_list o (at w (VALUES + 2 * i)) l).values) (sym none_yet);
        others = elsewhere;
        pairs_rest =
            (λ j. drop (2 * pairs j) (appended j)) ∙ drop_two p below.counts.pairs (at w (VALUES + 2 * i)) below.node.0 free
            ∙ (λ j. drop (2 * sym pairs j) p);
        total = omega arith;
        spent = ap (λ (o : Option ℕ). unlisted_of o b.counts.ghosts) none_yet ∙ omega arith;
        listed_is = listed_is;
      }

-- ---- the lowest values, one after the other

unlisted_more : (w : List ℕ) (i : ℕ) → unlisted (values_of w (i + 1)) ≡ unlisted_of (value_at w i).list (unlisted (values_of w i))
unlisted_more w i = ap unlisted (values_more w i)

list_more : (w : List ℕ) (i : ℕ) (s : Store) → list_of (values_of w (i + 1)) s ≡ add_to_list (value_at w i).list (value_at w i).node (list_of (values_of w i) s)
unfolding list_of
list_more w i s = ap (λ (vs : List Value). list_of vs s) (values_more w i)

unlisted_at : (o : Option ℕ) (n m : ℕ) → unlisted_of o n + m ≡ n + unlisted_of o m
unlisted_at none n m = omega arith
unlisted_at (some h) n m = omega arith

unlisted_least : (o : Option ℕ) (n m k : ℕ) → unlisted_of o n ≤ m + n → unlisted_of o 0 ≤ m
unlisted_least none n m k h = omega arith
unlisted_least (some h) n m k l = omega arith

-- More values have as many without a list, or more.
pub unlisted_up : (w : List ℕ) (i k : ℕ) → unlisted (values_of w i) ≤ unlisted (values_of w (i + k))
unlisted_up w i zero = omega (arith, ap (λ (n : ℕ). unlisted (values_of w n)) same)
  where
    same : i ≡ i + 0
    same = omega arith
unlisted_up w i (suc k) =
    omega (arith, unlisted_up w i k, unlisted_more w (i + k), ap (λ (n : ℕ). unlisted (values_of w n)) next, grows (value_at w (i + k)).list (unlisted (values_of w (i + k))))
  where
    next : i + k + 1 ≡ i + suc k
    next = omega arith

    grows : (o : Option ℕ) (n : ℕ) → n ≤ unlisted_of o n
    grows none n = omega arith
    grows (some h) n = omega arith

-- ---- values that have their lists

-- The list of such values changes neither them nor the store.
list_there : (vs : List Value) (s : Store) → unlisted vs ≡ 0 → ((list_of vs s).values ≡ vs) × ((list_of vs s).store ≡ s)
unfolding list_of
list_there [] s e = (refl, refl)
list_there (v ∷ vs) s e = one v.list refl e (λ z. list_there vs s z)
  where
    one : (o : Option ℕ) → v.list ≡ o → unlisted_of o (unlisted vs) ≡ 0 → (unlisted vs ≡ 0 → ((list_of vs s).values ≡ vs) × ((list_of vs s).store ≡ s))
        → ((add_to_list v.list v.node (list_of vs s)).values ≡ v ∷ vs) × ((add_to_list v.list v.node (list_of vs s)).store ≡ s)
    one none q z f = absurd (omega arith)
    one (some h) q z f =
        let below = f (omega arith) in (
          ap (λ (o : Option ℕ). (add_to_list o v.node (list_of vs s)).values) q
              ∙ (λ j. record { node = v.node; list = sym q j } ∷ below.0 j),
          ap (λ (o : Option ℕ). (add_to_list o v.node (list_of vs s)).store) q ∙ below.1,
        )

-- All values have a list where the list of them was made.
all_listed : (vs : List Value) (s : Store) → unlisted (list_of vs s).values ≡ 0
unfolding list_of
all_listed [] s = refl
all_listed (v ∷ vs) s = one v.list (all_listed vs s)
  where
    one : (o : Option ℕ) → unlisted (list_of vs s).values ≡ 0 → unlisted (add_to_list o v.node (list_of vs s)).values ≡ 0
    one none e = omega (arith, e)
    one (some h) e = omega (arith, e)

-- Fewer of the lowest values have theirs too.
pub fewer_listed : (w : List ℕ) (m n : ℕ) → m ≤ n → unlisted (values_of w n) ≡ 0 → unlisted (values_of w m) ≡ 0
fewer_listed w m n h e = omega (arith, unlisted_up w m (n - m), ap (λ (k : ℕ). unlisted (values_of w k)) whole)
  where
    whole : m + (n - m) ≡ n
    whole = omega arith

-- The topmost of such values has a list.
pub top_listed : (w : List ℕ) (n : ℕ) → 0 < n → unlisted (values_of w n) ≡ 0 → at w (VALUES + 2 * (n - 1) + 1) ≡ 0 → ⊥
top_listed w n h e z = absurd (omega (arith, unlisted_more w (n - 1), ap (λ (k : ℕ). unlisted (values_of w k)) less, bare))
  where
    less : n - 1 + 1 ≡ n
    less = omega arith

    bare : unlisted_of (value_at w (n - 1)).list (unlisted (values_of w (n - 1))) ≡ 1 + unlisted (values_of w (n - 1))
    bare = ap (λ (k : ℕ). unlisted_of (cached_list k) (unlisted (values_of w (n - 1)))) z

-- It is the list of them all.
pub top_list : (w : List ℕ) (n : ℕ) → 0 < n → unlisted (values_of w n) ≡ 0 → (s : Store) → at w (VALUES + 2 * (n - 1) + 1) - 1 ≡ (list_of (values_of w n) s).node
top_list w n h e s =
    sym (ap (λ (k : ℕ). (list_of (values_of w k) s).node) (sym less) ∙ ap (λ (l : Listed). l.node) (list_more w (n - 1) s)
    ∙ ap (λ (o : Option ℕ). (add_to_list o (value_at w (n - 1)).node (list_of (values_of w (n - 1)) s)).node)
    (list_of_word (at w (VALUES + 2 * (n - 1) + 1)) (top_listed w n h e)))
  where
    less : n - 1 + 1 ≡ n
    less = omega arith

pub no_list : (w : List ℕ) (n : ℕ) → n ≡ 0 → (s : Store) → handle_of nil ≡ (list_of (values_of w n) s).node
unfolding values_of list_of
no_list w n e s = ap (λ (k : ℕ). (list_of (values_of w k) s).node) (sym e)

-- The lowest i of the values that have their lists.
pub lists_start : (w p : List ℕ) (i listed used ghosts : ℕ) (b : Built) → i ≤ listed → unlisted (values_of w listed) ≡ 0
    → ((s : Store) → b.node.0 ≡ (list_of (values_of w i) s).node) → b.counts.pairs ≡ used → b.counts.ghosts ≡ ghosts → b.counts.listed ≡ listed
    → Lists w p i listed used ghosts w p b
lists_start w p i listed used ghosts b h a n u g m =
    record {
      node_is = λ s e f. n s;
      values_are = λ s e f. sym (list_there (values_of w i) s (fewer_listed w i listed h a)).0;
      pairs_are = λ s e f. ap (λ (k : ℕ). take (2 * k) p) u ∙ sym e ∙ ap (λ (t : Store). t.pairs) (sym (list_there (values_of w i) s (fewer_listed w i listed h a)).1);
      ghosts_are = λ s e f. g ∙ sym f ∙ ap (λ (t : Store). t.ghosts) (sym (list_there (values_of w i) s (fewer_listed w i listed h a)).1);
      pairs_rest = refl;
      low = λ k l. refl;
      high = λ k l. refl;
      total = omega arith;
      more = omega arith;
      listed_is = omega arith;
      lists = ap (λ (j : ℕ). unlisted (values_of w j)) m ∙ a;
    }

-- What is past n pairs is past more of them.
drop_more : (n m : ℕ) (p q : List ℕ) → n ≤ m → drop (2 * n) p ≡ drop (2 * n) q → drop (2 * m) p ≡ drop (2 * m) q
drop_more n m p q l e =
    ap (λ (k : ℕ). drop k p) split ∙ sym (drop-drop (2 * (m - n)) (2 * n) p) ∙ ap (drop (2 * (m - n))) e ∙ drop-drop (2 * (m - n)) (2 * n) q ∙ ap (λ (k : ℕ). drop k q) (sym split)
  where
    split : 2 * m ≡ 2 * n + 2 * (m - n)
    split = omega arith

module _ (w₀ p₀ : List ℕ) (listed used ghosts i : ℕ) (w p : List ℕ) (below : Built) (l : Lists w₀ p₀ i listed used ghosts w p below) (w' p' : List ℕ) (b : Built)
    (a : Adds w p i below w' p' b) where
  same_value : value_at w i ≡ value_at w₀ i
  same_value = λ j. record { node = l.high (VALUES + 2 * i) (omega arith) j; list = cached_list (l.high (VALUES + 2 * i + 1) (omega arith) j) }

  next_list : (s : Store) → add_to_list (value_at w i).list (value_at w i).node (list_of (values_of w₀ i) s) ≡ list_of (values_of w₀ (i + 1)) s
  next_list s = ap (λ (v : Value). add_to_list v.list v.node (list_of (values_of w₀ i) s)) same_value ∙ sym (list_more w₀ i s)

  held : (s : Store) → s.pairs ≡ take (2 * used) p₀ → s.ghosts ≡ ghosts → Holds p below (list_of (values_of w₀ i) s)
  held s e f = record { node_is = l.node_is s e f; pairs_are = l.pairs_are s e f; ghosts_are = l.ghosts_are s e f }

  holds : (s : Store) → s.pairs ≡ take (2 * used) p₀ → s.ghosts ≡ ghosts → Holds p' b (list_of (values_of w₀ (i + 1)) s)
  holds s e f = subst (Holds p' b) (next_list s) (a.list_is (list_of (values_of w₀ i) s) (held s e f))

  grown : below.counts.pairs ≤ b.counts.pairs
  grown = go (value_at w i).list a.spent
    where
      go : (o : Option ℕ) → unlisted_of o b.counts.ghosts ≡ below.counts.ghosts → below.counts.pairs ≤ b.counts.pairs
      go none e = omega (arith, a.total)
      go (some h) e = omega (arith, a.total)

  values_next : (s : Store) → s.pairs ≡ take (2 * used) p₀ → s.ghosts ≡ ghosts → values_of w' (i + 1) ≡ (list_of (values_of w₀ (i + 1)) s).values
  values_next s e f =
      values_more w' i
      ∙ ap {B = List Value} (λ vs. value_at w' i ∷ vs) (values_same w w' i (λ k m n. a.others k (λ q. omega arith)) ∙ l.values_are s e f)
      ∙ a.values_are (list_of (values_of w₀ i) s) (held s e f) ∙ ap (λ (r : Listed). r.values) (next_list s)

  listed_next : unlisted (values_of w' b.counts.listed) ≡ 0
  listed_next =
      let s : Store = record { pairs = take (2 * used) p₀; atoms = []; bytes = []; ghosts = ghosts } in
      ap (λ (n : ℕ). unlisted (values_of w' n)) a.listed_is ∙ ap unlisted (values_next s refl refl) ∙ all_listed (values_of w₀ (i + 1)) s

  pub lists_more : listed ≤ i → Lists w₀ p₀ (i + 1) listed used ghosts w' p' b
  lists_more past =
      record {
        node_is = λ s e f. (holds s e f).node_is;
        values_are = values_next;
        pairs_are = λ s e f. (holds s e f).pairs_are;
        ghosts_are = λ s e f. (holds s e f).ghosts_are;
        pairs_rest = a.pairs_rest ∙ drop_more below.counts.pairs b.counts.pairs p p₀ grown l.pairs_rest;
        low = λ k m. a.others k (λ q. omega arith) ∙ l.low k m;
        high = λ k m. a.others k (λ q. omega arith) ∙ l.high k (omega arith);
        total = a.total ∙ l.total;
        more = omega (arith, grown, l.more);
        listed_is = omega (arith, a.listed_is);
        lists = listed_next;
      }

  -- A ghost pair is spent for each value without a list.
  pub spent_more : below.counts.ghosts + unlisted (values_of w₀ i) ≡ ghosts → b.counts.ghosts + unlisted (values_of w₀ (i + 1)) ≡ ghosts
  spent_more e =
      ap (λ (n : ℕ). b.counts.ghosts + n) (unlisted_more w₀ i) ∙ sym (unlisted_at (value_at w₀ i).list b.counts.ghosts (unlisted (values_of w₀ i)))
      ∙ ap (λ (v : Value). unlisted_of v.list b.counts.ghosts + unlisted (values_of w₀ i)) (sym same_value)
      ∙ ap (λ (n : ℕ). n + unlisted (values_of w₀ i)) a.spent ∙ e

-- One is left for the next value, if it has no list.
pub one_left : (w₀ p₀ : List ℕ) (listed used ghosts i count : ℕ) (w p : List ℕ) (b : Built) → Lists w₀ p₀ i listed used ghosts w p b → i < count
    → unlisted (values_of w₀ count) ≤ ghosts → b.counts.ghosts + unlisted (values_of w₀ i) ≡ ghosts → unlisted_of (value_at w i).list 0 ≤ b.counts.ghosts
one_left w₀ p₀ listed used ghosts i count w p b l h r e =
    subst (λ (v : Value). unlisted_of v.list 0 ≤ b.counts.ghosts) (sym same)
    (unlisted_least (value_at w₀ i).list (unlisted (values_of w₀ i)) b.counts.ghosts 0
    (omega (arith, unlisted_more w₀ i, unlisted_up w₀ (i + 1) (count - (i + 1)), ap (λ (n : ℕ). unlisted (values_of w₀ n)) whole)))
  where
    same : value_at w i ≡ value_at w₀ i
    same = λ j. record { node = l.high (VALUES + 2 * i) (omega arith) j; list = cached_list (l.high (VALUES + 2 * i + 1) (omega arith) j) }

    whole : i + 1 + (count - (i + 1)) ≡ count
    whole = omega arith

-- ---- room

-- There is a ghost pair for a value without a list.
pub bare_ghost : (w : List ℕ) (i g : ℕ) → at w (VALUES + 2 * i + 1) ≡ 0 → unlisted_of (value_at w i).list 0 ≤ g → 1 ≤ g
bare_ghost w i g e h = subst (λ (o : Option ℕ). unlisted_of o 0 ≤ g) (ap cached_list e) h

pub pair_handle_small : (n : ℕ) → n < 2 ^ 26 → handle_of (pair n) + 1 < 2 ^ 32
unfolding handle_of
pair_handle_small n h = omega arith

pub spent_start : (w : List ℕ) (i listed ghosts : ℕ) → i ≤ listed → unlisted (values_of w listed) ≡ 0 → ghosts + unlisted (values_of w i) ≡ ghosts
spent_start w i listed ghosts h e = omega (arith, fewer_listed w i listed h e)

pub lists_end : (w p : List ℕ) (i count listed used ghosts : ℕ) (w' p' : List ℕ) (b : Built) → i ≡ count → Lists w p i listed used ghosts w' p' b → Lists w p count listed used ghosts w' p' b
lists_end w p i count listed used ghosts w' p' b e l = subst (λ (n : ℕ). Lists w p n listed used ghosts w' p' b) e l
