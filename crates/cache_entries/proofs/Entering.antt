-- A tree entered: the sentinel, an atom, a pair that is known, and a pair whose sides are entered first.
-- Assumes nothing.
use Prim.Native.Nat.{ℕ, suc, ◌+◌, ◌*◌, ◌≤◌, ◌<◌}
use mathlib.Core.Path.{◌≡◌, refl, sym, ap, ◌∙◌, subst}
use mathlib.Core.Bool.{Bool, true, false, false≢true}
use mathlib.Core.List.{List}
use mathlib.Core.Option.{Option, none, some}
use native.Mathlib.Omega.{arith}
use lib.Dec.{eqb}
use lib.ListN.{length, get_or}
use borrow.Author.Tests.{eq-eqb, ne_eqb, eqb-true, ltb-true, lt-ltb}
use Rattle.words.specs.Words.{at}
use Rattle.atom.specs.Write.{serialized_length}
use Rattle.allocator.specs.Handle.{Node, pair, listed_atom, small_atom, unknown, node_of, index_of, is_atom}
use Rattle.spec_session.specs.File.{File, named}
use Rattle.spec_session.specs.Unfold.{Unfolded, hole, leaf, node, is_sentinel, unfolded}
use Rattle.spec_session.proofs.UnfoldLaws.{unfolded_sentinel, unfolded_listed, unfolded_small, unfolded_pair}
use Rattle.spec_session.specs.Cache.{Cache, lookup, atom_key, find_or_add, meet_sentinel, join_pair, known_or, enter}
use Rattle.work_layout.specs.Layout.{PAIRS, ATOM_COUNT, PAIR_COUNT, SENTINEL, MAPS, USED, ENTRIES}
use Rattle.spec_session.specs.Sentinel.{sentinel_word}
use Rattle.cache_entries.specs.Meaning.{bytes_named, no_pair, Tables, Names, entry_or_none, unmapped, Whole, Holds}
use Rattle.cache_entries.specs.Effects.{Action, sentinel_action, atom_action, join_action, enter_action, Acts, Made, Joined, span, Bounded, Entered, Room}
use Rattle.cache_entries.proofs.table.Rows.{word_some}
use Rattle.cache_entries.proofs.Frames.{tables_kept, unmapped_same, unmapped_above, unmapped_more, unmapped_none, unmapped_grows}

-- ---- the definition's equations

enter_hole : (c : Cache) → enter hole c ≡ meet_sentinel c
unfolding enter
enter_hole c = refl

enter_leaf : (h : ℕ) (bytes : List ℕ) (c : Cache) → enter (leaf h bytes) c ≡ find_or_add (atom_key bytes) (serialized_length bytes) c
unfolding enter
enter_leaf h bytes c = refl

enter_node : (h : ℕ) (l r : Unfolded) (c : Cache)
    → enter (node h l r) c ≡ known_or (lookup h c.mapped) c (join_pair h (enter l c).1 (enter r (enter l c).0))
unfolding enter
enter_node h l r c = refl

-- ---- handles

names_span_of : (a p : ℕ) (n : Node) → named a p n ≡ true → span n ≤ p
names_span_of a p (pair i) e = ltb-true i p e
names_span_of a p (listed_atom i) e = omega arith
names_span_of a p (small_atom v) e = omega arith
names_span_of a p (unknown k i) e = omega arith

-- A handle that names none but the first p pairs reaches no further.
pub names_span : (w : List ℕ) (p h : ℕ) → Names w p h → span (node_of h) ≤ p
names_span w p h n = names_span_of (at w ATOM_COUNT) p (node_of h) n

grown : (a p q : ℕ) (n : Node) → p ≤ q → named a p n ≡ true → named a q n ≡ true
grown a p q (pair i) l e = let z = ltb-true i p e in lt-ltb i q (omega arith)
grown a p q (listed_atom i) l e = e
grown a p q (small_atom v) l e = e
grown a p q (unknown k i) l e = e

pub names_grow : (w : List ℕ) (p q h : ℕ) → p ≤ q → Names w p h → Names w q h
names_grow w p q h l n = grown (at w ATOM_COUNT) p q (node_of h) l n

no_name : node_of 0xffffffff ≡ unknown 63 0x3ffffff
unfolding node_of
no_name = refl

-- The handle that says that there is no sentinel names nothing.
nothing_named : (w : List ℕ) (p h : ℕ) → Names w p h → h ≡ 0xffffffff → ⊥
nothing_named w p h n e = false≢true (subst (λ (m : Node). named (at w ATOM_COUNT) p m ≡ true) (ap node_of e ∙ no_name) n)

-- A handle that names something and no atom names a pair.
pair_of : (a p : ℕ) (n : Node) → named a p n ≡ true → is_atom n ≡ false → n ≡ pair (index_of n)
pair_of a p (pair i) e q = refl
pair_of a p (listed_atom i) e q = absurd (false≢true (sym q))
pair_of a p (small_atom v) e q = absurd (false≢true (sym q))
pair_of a p (unknown k i) e q = absurd (false≢true e)

pub names_pair : (w : List ℕ) (p h : ℕ) → Names w p h → is_atom (node_of h) ≡ false → node_of h ≡ pair (index_of (node_of h))
names_pair w p h n q = pair_of (at w ATOM_COUNT) p (node_of h) n q

pub pair_low : (w : List ℕ) (p h i : ℕ) → Names w p h → node_of h ≡ pair i → i < p
pair_low w p h i n e = ltb-true i p (subst (λ (m : Node). named (at w ATOM_COUNT) p m ≡ true) e n)

-- ---- the sentinel, in the words and in the file

module _ (f : File) (w : List ℕ) (h : ℕ) (t : Tables f w) where
  pub sentinel_is : Names w (at w PAIR_COUNT) h → at w SENTINEL ≡ h → is_sentinel f.sentinel h ≡ true
  sentinel_is n e = go f.sentinel (sym e ∙ t.sentinel)
    where
      go : (o : Option ℕ) → h ≡ sentinel_word o → is_sentinel o h ≡ true
      go none q = absurd (nothing_named w (at w PAIR_COUNT) h n q)
      go (some s) q = eq-eqb h s q

  pub sentinel_not : (at w SENTINEL ≡ h → ⊥) → is_sentinel f.sentinel h ≡ false
  sentinel_not q = go f.sentinel t.sentinel
    where
      go : (o : Option ℕ) → at w SENTINEL ≡ sentinel_word o → is_sentinel o h ≡ false
      go none e = refl
      go (some s) e = ne_eqb h s (λ r. q (e ∙ sym r))

-- ---- no pair is mapped

made_entered : (a : Action) (w w' : List ℕ) (h x : ℕ) → Made a w w' x
    → ((f : File) (c : Cache) → Tables f w → Holds f w c → a f c ≡ enter (unfolded f h) c) → Entered w w' h x
made_entered a w w' h x m is =
    record {
      whole = m.whole;
      low = m.low;
      more = m.more;
      bounded = λ p l k.
          let u = unmapped_same w w' p (λ i h. m.maps i (omega arith)) in
          let n = m.counts in
          record { room = omega (arith, m.few); counts = omega arith };
      maps = λ k l n. m.maps k n;
      outside = m.outside;
      does = λ f c t ho.
          let d = m.does f c t ho in
          record {
            holds = subst (λ (z : Cache × ℕ). Holds f w' z.0) (is f c t ho) d.holds;
            answer = d.answer ∙ ap (λ (z : Cache × ℕ). z.1) (is f c t ho);
          };
    }

pub sentinel_entered : {w w' : List ℕ} {h x : ℕ} → Names w (at w PAIR_COUNT) h → at w SENTINEL ≡ h → Made sentinel_action w w' x → Entered w w' h x
sentinel_entered {w} {w'} {h} {x} n e m =
    made_entered sentinel_action w w' h x m
    (λ f c t ho. sym (ap (λ (u : Unfolded). enter u c) (unfolded_sentinel f h (sentinel_is f w h t n e)) ∙ enter_hole c))

-- The unfolding of an atom.
pub is_leaf : (w : List ℕ) (h : ℕ) → (at w SENTINEL ≡ h → ⊥) → is_atom (node_of h) ≡ true → (f : File) → Tables f w
    → unfolded f h ≡ leaf h (bytes_named f (node_of h))
is_leaf w h q a f t = go (node_of h) refl a
  where
    go : (n : Node) → node_of h ≡ n → is_atom n ≡ true → unfolded f h ≡ leaf h (bytes_named f (node_of h))
    go (pair i) e b = absurd (false≢true b)
    go (listed_atom i) e b = unfolded_listed f h i (sentinel_not f w h t q) e ∙ ap (λ (m : Node). leaf h (bytes_named f m)) (sym e)
    go (small_atom v) e b = unfolded_small f h v (sentinel_not f w h t q) e ∙ ap (λ (m : Node). leaf h (bytes_named f m)) (sym e)
    go (unknown k i) e b = absurd (false≢true b)

pub atom_entered : {w w' : List ℕ} {h x : ℕ} → (at w SENTINEL ≡ h → ⊥) → is_atom (node_of h) ≡ true → Made (atom_action h) w w' x → Entered w w' h x
atom_entered {w} {w'} {h} {x} q a m =
    made_entered (atom_action h) w w' h x m
    (λ f c t ho. sym (ap (λ (u : Unfolded). enter u c) (is_leaf w h q a f t) ∙ enter_leaf h (bytes_named f (node_of h)) c))

-- ---- a pair

-- The unfolding of a pair of the file, by its words.
module _ (w : List ℕ) (h i : ℕ) (wh : Whole w) (n : Names w (at w PAIR_COUNT) h) (q : at w SENTINEL ≡ h → ⊥) (e : node_of h ≡ pair i) where
  pub low : i < at w PAIR_COUNT
  low = pair_low w (at w PAIR_COUNT) h i n e

  abbrev left : ℕ
  left = at w (PAIRS + 2 * i)

  abbrev right : ℕ
  right = at w (PAIRS + 2 * i + 1)

  pub is_node : (f : File) → Tables f w → unfolded f h ≡ node i (unfolded f left) (unfolded f right)
  is_node f t =
      let c = t.pair_count in
      let b : i < length f.pairs = omega (arith, low) in
      let l = t.lefts i b in
      let r = t.rights i b in
      let nl : named (at w ATOM_COUNT) i (node_of (get_or f.pairs i no_pair).left) ≡ true =
      subst (λ (g : ℕ). named (at w ATOM_COUNT) i (node_of g) ≡ true) l (wh.handles.lefts i low) in
      let nr : named (at w ATOM_COUNT) i (node_of (get_or f.pairs i no_pair).right) ≡ true =
      subst (λ (g : ℕ). named (at w ATOM_COUNT) i (node_of g) ≡ true) r (wh.handles.rights i low) in
      unfolded_pair f (at w ATOM_COUNT) h i (sentinel_not f w h t q) e b nl nr
      ∙ (λ k. node i (unfolded f (sym l k)) (unfolded f (sym r k)))

  entering : (f : File) (c : Cache) → Tables f w
      → enter (unfolded f h) c
      ≡ known_or (lookup i c.mapped) c (join_pair i (enter (unfolded f left) c).1 (enter (unfolded f right) (enter (unfolded f left) c).0))
  entering f c t = ap (λ (u : Unfolded). enter u c) (is_node f t) ∙ enter_node i (unfolded f left) (unfolded f right) c

  mapped_is : (f : File) (c : Cache) → Tables f w → Holds f w c → lookup i c.mapped ≡ entry_or_none (at w (MAPS + i))
  mapped_is f c t ho = let p = t.pair_count in ho.mapped i (omega (arith, low))

  -- A pair that is not known: its sides are entered, and it is joined.
  entering_sides : (f : File) (c : Cache) → Tables f w → Holds f w c → at w (MAPS + i) ≡ 0
      → enter (unfolded f h) c ≡ join_pair i (enter (unfolded f left) c).1 (enter (unfolded f right) (enter (unfolded f left) c).0)
  entering_sides f c t ho z =
      entering f c t
      ∙ ap (λ (o : Option ℕ). known_or o c (join_pair i (enter (unfolded f left) c).1 (enter (unfolded f right) (enter (unfolded f left) c).0)))
      (mapped_is f c t ho ∙ ap entry_or_none z)

  -- A pair that is known stays as it is.
  pub known_entered : {x : ℕ} → some x ≡ entry_or_none (at w (MAPS + i)) → Entered w w h x
  known_entered {x} k =
      record {
        whole = wh;
        low = omega (arith, wh.maps i low, word_some (at w (MAPS + i)) x k);
        more = omega arith;
        bounded = λ p l k. record { room = omega arith; counts = omega arith };
        maps = λ k l m. refl;
        outside = record { below = λ k l. refl; above = λ k l. refl };
        does = λ f c t ho.
            let is : enter (unfolded f h) c ≡ (c, x) =
            entering f c t
            ∙ ap (λ (o : Option ℕ). known_or o c (join_pair i (enter (unfolded f left) c).1 (enter (unfolded f right) (enter (unfolded f left) c).0)))
            (mapped_is f c t ho ∙ sym k) in
            record {
              holds = subst (λ (z : Cache × ℕ). Holds f w z.0) (sym is) ho;
              answer = ap (λ (z : Cache × ℕ). z.1) (sym is);
            };
      }

-- ---- a pair that is not known: left, right, and the pair itself

-- Handle h names pair i, which has no entry yet, and whose sides are a and b. There is room for it.
pub record NewPair (w : List ℕ) (h i a b : ℕ) : Type 0 where
  pub whole : Whole w
  pub names : Names w (at w PAIR_COUNT) h
  pub other : at w SENTINEL ≡ h → ⊥
  pub is_pair : node_of h ≡ pair i
  pub empty : at w (MAPS + i) ≡ 0
  pub room : Room w h
  pub left : a ≡ at w (PAIRS + 2 * i)
  pub right : b ≡ at w (PAIRS + 2 * i + 1)

module _ {w : List ℕ} {h i a b : ℕ} (d : NewPair w h i a b) where
  here : i < at w PAIR_COUNT
  here = pair_low w (at w PAIR_COUNT) h i d.names d.is_pair

  few : at w PAIR_COUNT ≤ 1024
  few = d.whole.handles.few_pairs

  names_a : Names w i a
  names_a = subst (λ (g : ℕ). Names w i g) (sym d.left) (d.whole.handles.lefts i here)

  names_b : Names w i b
  names_b = subst (λ (g : ℕ). Names w i g) (sym d.right) (d.whole.handles.rights i here)

  pub span_a : span (node_of a) ≤ i
  span_a = names_span w i a names_a

  pub span_b : span (node_of b) ≤ i
  span_b = names_span w i b names_b

  pub span_h : span (node_of h) ≡ suc i
  span_h = ap span d.is_pair

  -- Two entries are kept for the pair, and none for its sides.
  room_i : at w USED + 2 * unmapped w i + 2 < ENTRIES
  room_i =
      let r : at w USED + 2 * unmapped w (suc i) < ENTRIES = subst (λ (s : ℕ). at w USED + 2 * unmapped w s < ENTRIES) span_h d.room in
      let u = unmapped_none w i d.empty in
      omega arith

  -- What the left side's call asks for.
  pub left_asks : Names w (at w PAIR_COUNT) a × Room w a
  left_asks =
      let g = unmapped_grows w (span (node_of a)) i span_a in
      let r = room_i in
      let l = here in
      (names_grow w i (at w PAIR_COUNT) a (omega arith) names_a, omega arith)

  module _ {w₁ : List ℕ} {l : ℕ} (p : Entered w w₁ a l) where
    zero₁ : at w₁ (MAPS + i) ≡ 0
    zero₁ = p.maps i span_a (omega (arith, here, few)) ∙ d.empty

    room₁ : at w₁ USED + 2 * unmapped w₁ i ≤ at w USED + 2 * unmapped w i + 1
    room₁ = (p.bounded i span_a (omega (arith, here, few))).room

    names-b₁ : Names w₁ i b
    names-b₁ = subst (λ (k : ℕ). named k i (node_of b) ≡ true) (sym (p.outside.below ATOM_COUNT (omega arith))) names_b

    pairs₁ : at w₁ PAIR_COUNT ≡ at w PAIR_COUNT
    pairs₁ = p.outside.below PAIR_COUNT (omega arith)

    -- What the right side's call asks for.
    pub right_asks : Names w₁ (at w₁ PAIR_COUNT) b × Room w₁ b
    right_asks =
        let g = unmapped_grows w₁ (span (node_of b)) i span_b in
        let r = room_i in
        let s = room₁ in
        let t = pairs₁ in
        let k = here in
        (names_grow w₁ i (at w₁ PAIR_COUNT) b (omega arith) names-b₁, omega arith)

    module _ {w₂ : List ℕ} {r : ℕ} (s : Entered w₁ w₂ b r) where
      zero₂ : at w₂ (MAPS + i) ≡ 0
      zero₂ = s.maps i span_b (omega (arith, here, few)) ∙ zero₁

      room₂ : at w₂ USED + 2 * unmapped w₂ i ≤ at w₁ USED + 2 * unmapped w₁ i + 1
      room₂ = (s.bounded i span_b (omega (arith, here, few))).room

      pairs₂ : at w₂ PAIR_COUNT ≡ at w PAIR_COUNT
      pairs₂ = s.outside.below PAIR_COUNT (omega arith) ∙ pairs₁

      -- What joining the pair asks for.
      pub join_asks : (i < at w₂ PAIR_COUNT) × (at w₂ (MAPS + i) ≡ 0) × (l < at w₂ USED) × (r < at w₂ USED) × (at w₂ USED < ENTRIES)
      join_asks =
          let t = pairs₂ in
          let k = here in
          let lo = p.low in
          let mo = s.more in
          let c = room₂ in
          let d = room₁ in
          let g = room_i in
          (omega arith, zero₂, omega arith, s.low, omega arith)

      module _ {w₃ : List ℕ} {x : ℕ} (j : Joined w₂ w₃ i l r x) where
        bounded_here : Bounded w w₃ (suc i)
        bounded_here =
            let u = unmapped_none w i d.empty in
            let v = unmapped_none w₂ i zero₂ in
            let mp = j.mapped in
            let y = unmapped_more w₂ w₃ i zero₂ (omega arith) (omega (arith, here, few)) j.maps in
            let c = room₂ in
            let d = room₁ in
            let n₁ = (p.bounded i span_a (omega (arith, here, few))).counts in
            let n₂ = (s.bounded i span_b (omega (arith, here, few))).counts in
            record { room = omega (arith, j.few); counts = omega (arith, j.counts) }

        maps_above : (k : ℕ) → suc i ≤ k → k < 1024 → at w₃ (MAPS + k) ≡ at w (MAPS + k)
        maps_above k g y =
            j.maps k y (λ o. omega arith) ∙ s.maps k (omega (arith, span_b)) y ∙ p.maps k (omega (arith, span_a)) y

        bounded : (m : ℕ) → suc i ≤ m → m ≤ 1024 → Bounded w w₃ m
        bounded m g y =
            let c = bounded_here in
            let u = unmapped_above w w₃ (suc i) m g y maps_above in
            record { room = omega (arith, c.room); counts = omega (arith, c.counts) }

        acts : (f : File) (c : Cache) → Tables f w → Holds f w c → Acts (enter_action h) w₃ x f c
        acts f c t ho =
            record {
              holds = subst (λ (y : Cache × ℕ). Holds f w₃ y.0) (sym is) dj.holds;
              answer = dj.answer ∙ ap (λ (y : Cache × ℕ). y.1) (sym is);
            }
          where
            t₁ : Tables f w₁
            t₁ = tables_kept w w₁ (λ k y. p.outside.below k (omega arith)) f d.whole.handles t

            t₂ : Tables f w₂
            t₂ = tables_kept w₁ w₂ (λ k y. s.outside.below k (omega arith)) f p.whole.handles t₁

            da : Acts (enter_action a) w₁ l f c
            da = p.does f c t ho

            db : Acts (enter_action b) w₂ r f (enter (unfolded f a) c).0
            db = s.does f (enter (unfolded f a) c).0 t₁ da.holds

            dj : Acts (join_action i l r) w₃ x f (enter (unfolded f b) (enter (unfolded f a) c).0).0
            dj = j.does f (enter (unfolded f b) (enter (unfolded f a) c).0).0 t₂ db.holds

            sides : join_pair i (enter (unfolded f a) c).1 (enter (unfolded f b) (enter (unfolded f a) c).0)
                ≡ join_pair i l ((enter (unfolded f b) (enter (unfolded f a) c).0).0, r)
            sides = λ k. join_pair i (sym da.answer k) ((enter (unfolded f b) (enter (unfolded f a) c).0).0, sym db.answer k)

            is : enter (unfolded f h) c ≡ join_pair i l ((enter (unfolded f b) (enter (unfolded f a) c).0).0, r)
            is =
                entering_sides w h i d.whole d.names d.other d.is_pair f c t ho d.empty
                ∙ (λ k. join_pair i (enter (unfolded f (sym d.left k)) c).1 (enter (unfolded f (sym d.right k)) (enter (unfolded f (sym d.left k)) c).0))
                ∙ sides

        -- The pair is entered.
        pub pair_entered : Entered w w₃ h x
        pair_entered =
            record {
              whole = j.whole;
              low = j.low;
              more = omega (arith, p.more, s.more, j.more);
              bounded = λ m g y. bounded m (subst (λ (k : ℕ). k ≤ m) span_h g) y;
              maps = λ k g y. maps_above k (subst (λ (m : ℕ). m ≤ k) span_h g) y;
              outside =
                  record {
                    below = λ k y. j.outside.below k y ∙ s.outside.below k y ∙ p.outside.below k y;
                    above = λ k y. j.outside.above k y ∙ s.outside.above k y ∙ p.outside.above k y;
                  };
              does = acts;
            }

-- ---- what the tests of the code say

pub test_same : {r : Bool} {a b : ℕ} → r ≡ eqb a b → r ≡ true → a ≡ b
test_same {r} {a} {b} e t = eqb-true a b (sym e ∙ t)

pub test_other : {r : Bool} {a b : ℕ} → r ≡ eqb a b → r ≡ false → a ≡ b → ⊥
test_other {r} {a} {b} e t q = false≢true (sym (sym e ∙ t) ∙ eq-eqb a b q)

-- A handle that is no atom's names the pair of its index.
pub test_pair : (w : List ℕ) (h : ℕ) {i : ℕ} {r : Bool} → Names w (at w PAIR_COUNT) h → r ≡ is_atom (node_of h) → r ≡ false → i ≡ index_of (node_of h)
    → node_of h ≡ pair i
test_pair w h {i} {r} n e t q = names_pair w (at w PAIR_COUNT) h n (sym e ∙ t) ∙ ap pair (sym q)

-- There is room for one entry at least.
pub room_one : (w : List ℕ) (h : ℕ) → Room w h → at w USED < ENTRIES
room_one w h r = omega arith
