-- What a path leads to from the stack, by the number of set bits in front: below the stack, the list from a value down, or into a value.
-- Assumes nothing.
use Prim.Native.Nat.{ℕ, zero, suc, ◌+◌, ◌-◌, ◌*◌, ◌≤◌, ◌<◌}
use Rattle.std.specs.Prelude.{Result, Ok, Err}
use mathlib.Core.Path.{◌≡◌, refl, sym, ap, subst, ◌∙◌}
use mathlib.Core.Bool.{Bool, true, false}
use mathlib.Core.List.{List, [], ◌∷◌, ◌++◌}
use mathlib.Core.Option.{Option, none, some}
use native.Mathlib.Omega.{arith}
use native.Mathlib.Numerals.{add-one}
use lib.ListN.{length, get_or, take, drop}
use Rattle.words.specs.Choice.{clash}
use Rattle.words.specs.Words.{at}
use Rattle.words.specs.Lists.{Bytes, all_of}
use Rattle.path.specs.Bytes.{read_path}
use Rattle.allocator.specs.Handle.{Node, node_of, nil}
use Rattle.allocator.specs.HandleLaws.{handle_of_node_of, node_of_nil}
use Rattle.spec_reading.specs.Store.{Store, Value, Listed, Led, walk, node_handle, led_to, list_of, above, lead}
use Rattle.read_store.specs.Layout.{VALUES, cached_list, value_at, values_of}
use Rattle.read_store.proofs.reader_stacks.Stacks.{length_values, drop_values}
use Rattle.path.specs.Answers.{counted}
use Rattle.path.proofs.path_bits.Bits.{lowest}
use Rattle.read_path.specs.declared.path_walk.PathIntoAtom.{PathIntoAtom}
use Rattle.read_path.specs.Answers.{down, Within, Reachable, walked_to, Walks}
use Rattle.read_path.specs.declared.stack_list.Built.{Built}
use Rattle.read_path.specs.declared.stack_list.Counts.{Counts}
use Rattle.allocator.specs.declared.NodePtr.{NodePtr}
use Rattle.spec_reading.specs.Sound.{unlisted}
use Rattle.read_path.specs.Lists.{HaveLists, ListRoom, Lists}
use Rattle.read_path.specs.Leads.{led, Walkable, Leads, LeadsTo, SameTotal}
use Rattle.read_path.proofs.stack_list.Adding.{unlisted_up}

-- ---- the bits of the path

-- The bits that are counted.
pub record Counted (path : List ℕ) (count : ℕ) : Type 0 where
  pub bits : List Bool
  pub is : read_path path ≡ some bits
  pub long : count ≡ length bits

pub counted_some : (path : List ℕ) (count : ℕ) → some count ≡ counted (read_path path) → Counted path count
counted_some path count e = go (read_path path) refl e
  where
    go : (o : Option (List Bool)) → read_path path ≡ o → some count ≡ counted o → Counted path count
    go none q f = clash cc
    go (some bits) q f = let l : count ≡ length bits = cc in record { bits = bits; is = q; long = l }

pub counted_none : (o : Option (List Bool)) → none ≡ counted o → o ≡ none
counted_none none e = refl
counted_none (some bits) e = clash cc

pub count_within : (path : List ℕ) (count : ℕ) → Bytes path → Counted path count → count ≤ 8 * length path
count_within path count b q = omega (arith, q.long, (lowest path q.bits b q.is).short)

pub down_within : (bits : List Bool) (d : ℕ) → (down bits d ≤ length bits) × (down bits d ≤ d)
unfolding down
down_within [] d = omega arith
down_within (b ∷ bs) zero = omega arith
down_within (false ∷ bs) (suc d) = omega arith
down_within (true ∷ bs) (suc d) = omega (arith, down_within bs d)

-- The bits, and how many of them go down the stack.
pub record Taken (path : List ℕ) (count steps values : ℕ) : Type 0 where
  pub has : Counted path count
  pub steps_are : steps ≡ down has.bits values
  pub within : (steps ≤ count) × (steps ≤ values)

pub taken : (path : List ℕ) (count steps values : ℕ) → some count ≡ counted (read_path path)
    → ((bits : List Bool) → read_path path ≡ some bits → count ≡ length bits → steps ≡ down bits values) → Taken path count steps values
taken path count steps values e f =
    let q = counted_some path count e in
    let d : steps ≡ down q.bits values = f q.bits q.is q.long in
    record { has = q; steps_are = d; within = omega (arith, d, q.long, down_within q.bits values) }

-- There are no more bits than the bytes have.
pub count_short : (path : List ℕ) (count : ℕ) → ((i : ℕ) → get_or path i 0 < 256) → some count ≡ counted (read_path path) → count ≤ 8 * length path
count_short path count small e = count_within path count (all_of (λ (n : ℕ). n < 256) path 0 (λ i l. small i)) (counted_some path count e)

-- ---- the definition by the number of set bits in front

pub lead_below : (bits : List Bool) (vs : List Value) (s : Store) → down bits (length vs) ≡ length vs → lead bits vs s ≡ led_to (walk s (drop (length vs) bits) nil) vs s
unfolding down lead
lead_below bits [] s e = refl
lead_below [] (v ∷ vs) s e = absurd (omega arith)
lead_below (false ∷ bs) (v ∷ vs) s e = absurd (omega arith)
lead_below (true ∷ bs) (v ∷ vs) s e = ap (above v) (lead_below bs vs s (omega arith))

-- Values above a list that was made.
abbrev values_above : List Value → Listed → Led
values_above vs l = record { node = some l.node; stored = record { values = vs ++ l.values; store = l.store } }

pub lead_list : (bits : List Bool) (vs : List Value) (s : Store) → down bits (length vs) ≡ length bits → length bits < length vs
    → lead bits vs s ≡ values_above (take (length bits) vs) (list_of (drop (length bits) vs) s)
unfolding down lead
lead_list bits [] s e h = absurd (omega arith)
lead_list [] (v ∷ vs) s e h = refl
lead_list (false ∷ bs) (v ∷ vs) s e h = absurd (omega arith)
lead_list (true ∷ bs) (v ∷ vs) s e h = ap (above v) (lead_list bs vs s (omega arith) (omega arith))

pub lead_value : (bits : List Bool) (vs : List Value) (s : Store) (k : ℕ) → down bits (length vs) ≡ k → k < length bits → (v : Value) (below : List Value)
    → drop k vs ≡ v ∷ below → lead bits vs s ≡ led_to (walk s (drop (suc k) bits) (node_of v.node)) vs s
unfolding down lead
lead_value [] vs s k e h v below q = absurd (omega arith)
lead_value (b ∷ bs) [] s zero e h v below q = clash cc
lead_value (b ∷ bs) [] s (suc k) e h v below q = absurd (omega arith)
lead_value (false ∷ bs) (u ∷ vs) s zero e h v below q = let f : u ≡ v = cc in ap (λ (x : Value). led_to (walk s bs (node_of x.node)) (u ∷ vs) s) f
lead_value (false ∷ bs) (u ∷ vs) s (suc k) e h v below q = absurd (omega arith)
lead_value (true ∷ bs) (u ∷ vs) s zero e h v below q = absurd (omega arith)
lead_value (true ∷ bs) (u ∷ vs) s (suc k) e h v below q = ap (above u) (lead_value bs vs s k (omega arith) (omega arith) v below q)

-- ---- the values in work

pub value_next : (w : List ℕ) (n k : ℕ) → k < n → drop k (values_of w n) ≡ value_at w (n - 1 - k) ∷ values_of w (n - 1 - k)
unfolding values_of
value_next w n k h = drop_values w n k (omega arith) ∙ ap (values_of w) next
  where
    next : n - k ≡ suc (n - 1 - k)
    next = omega arith

-- The k topmost values keep where their words keep.
pub values_split : (w w' : List ℕ) (n k : ℕ) → k ≤ n → ((j : ℕ) → VALUES + 2 * (n - k) ≤ j → at w' j ≡ at w j)
    → values_of w' n ≡ take k (values_of w n) ++ values_of w' (n - k)
unfolding values_of
values_split w w' n zero h f = ap (values_of w') less
  where
    less : n ≡ n - 0
    less = omega arith
values_split w w' zero (suc k) h f = absurd (omega arith)
values_split w w' (suc n) (suc k) h f =
    (λ i. record { node = f (VALUES + 2 * n) (omega arith) i; list = cached_list (f (VALUES + 2 * n + 1) (omega arith) i) }
    ∷ values_split w w' n k (omega arith) (λ j l. f j (omega arith)) i)
    ∙ ap (λ (m : ℕ). value_at w n ∷ take k (values_of w n) ++ values_of w' m) less
  where
    less : n - k ≡ suc n - suc k
    less = omega arith

-- ---- what is left where a path leads to a node of the store

-- A node of the store is reached with no pair made.
abbrev pub reached : Result NodePtr PathIntoAtom → Counts → Result Built PathIntoAtom
reached (Ok h) c = Ok (record { node = h; counts = c })
reached (Err into) c = Err into

leads_to : (w p : List ℕ) (values listed used ghosts : ℕ) → HaveLists w listed values → (r : Result NodePtr PathIntoAtom) (n : Option Node) (s : Store) → s.pairs ≡ take (2 * used) p
    → s.ghosts ≡ ghosts → walked_to r ≡ n
    → LeadsTo w p values used (led_to n (values_of w values) s) w p (reached r (record { listed = listed; pairs = used; ghosts = ghosts }))
leads_to w p values listed used ghosts a (Ok h) n s e f q =
    record {
      node_is = ap node_handle (sym q) ∙ ap some (handle_of_node_of h.0);
      values_are = refl;
      pairs_are = sym e;
      ghosts_are = sym f;
      pairs_rest = refl;
      low = λ k l. refl;
      lists = a;
    }
leads_to w p values listed used ghosts a (Err into) n s e f q = ap node_handle (sym q)

abbrev pub nil_reached : Result NodePtr PathIntoAtom
nil_reached = Ok (record { 0 = 134217728 })

module _ (path w p : List ℕ) (values listed used ghosts : ℕ) (a : HaveLists w listed values) where
  abbrev counts : Counts
  counts = record { listed = listed; pairs = used; ghosts = ghosts }

  -- A node of the store, or none, where the definition leads.
  reaches : (r : Result NodePtr PathIntoAtom) (n : Option Node) (s : Store)
      → led (read_path path) (values_of w values) s ≡ led_to n (values_of w values) s → s.pairs ≡ take (2 * used) p → s.ghosts ≡ ghosts
      → walked_to r ≡ n → LeadsTo w p values used (led (read_path path) (values_of w values) s) w p (reached r counts)
  reaches r n s l e f g =
      subst (λ (y : Led). LeadsTo w p values used y w p (reached r counts)) (sym l) (leads_to w p values listed used ghosts a r n s e f g)

  -- A path with no set bit is nil.
  pub leads_nil : read_path path ≡ none → (s : Store) → s.pairs ≡ take (2 * used) p → s.ghosts ≡ ghosts
      → LeadsTo w p values used (led (read_path path) (values_of w values) s) w p (reached nil_reached counts)
  leads_nil z s e f =
      reaches nil_reached (some nil) s (ap (λ (o : Option (List Bool)). led o (values_of w values) s) z) e f (ap some node_of_nil)

  module _ (count : ℕ) (q : Counted path count) (steps : ℕ) (d : steps ≡ down q.bits values) where
    led_some : (s : Store) → led (read_path path) (values_of w values) s ≡ lead q.bits (values_of w values) s
    led_some s = ap (λ (o : Option (List Bool)). led o (values_of w values) s) q.is

    down_values : down q.bits (length (values_of w values)) ≡ steps
    down_values = ap (down q.bits) (length_values w values) ∙ sym d

    module _ (r : Result NodePtr PathIntoAtom) where
      -- Below the lowest value is nil.
      pub leads_below : steps ≡ values → Walks p used (drop steps q.bits) 134217728 r → (s : Store) → s.pairs ≡ take (2 * used) p → s.ghosts ≡ ghosts
          → LeadsTo w p values used (led (read_path path) (values_of w values) s) w p (reached r counts)
      leads_below z g s e f =
          reaches r (walk s (drop steps q.bits) nil) s
          (led_some s
          ∙ lead_below q.bits (values_of w values) s (down_values ∙ z ∙ sym (length_values w values))
          ∙ ap (λ (k : ℕ). led_to (walk s (drop k q.bits) nil) (values_of w values) s) (length_values w values ∙ sym z))
          e f (g s e ∙ ap (walk s (drop steps q.bits)) node_of_nil)

      -- Into the value that a clear bit comes to.
      pub leads_value : steps < values → steps < count → Walks p used (drop (steps + 1) q.bits) (at w (VALUES + 2 * (values - 1 - steps))) r
          → (s : Store) → s.pairs ≡ take (2 * used) p → s.ghosts ≡ ghosts → LeadsTo w p values used (led (read_path path) (values_of w values) s) w p (reached r counts)
      leads_value m n g s e f =
          reaches r (walk s (drop (suc steps) q.bits) (node_of (at w (VALUES + 2 * (values - 1 - steps))))) s
          (led_some s
          ∙ lead_value q.bits (values_of w values) s steps down_values (omega (arith, q.long)) (value_at w (values - 1 - steps)) (values_of w (values - 1 - steps))
          (value_next w values steps m))
          e f (g s e ∙ ap (λ (k : ℕ). walk s (drop k q.bits) (node_of (at w (VALUES + 2 * (values - 1 - steps))))) (add-one steps))

    -- The list from the value that the path ends on.
    module _ (w' p' : List ℕ) (b : Built) (m : steps < values) (z : steps ≡ count) (l : Lists w p (values - steps) listed used ghosts w' p' b) where
      led_listed : (s : Store) → led (read_path path) (values_of w values) s ≡ values_above (take steps (values_of w values)) (list_of (values_of w (values - steps)) s)
      led_listed s =
          led_some s
          ∙ lead_list q.bits (values_of w values) s (down_values ∙ z ∙ q.long) (omega (arith, q.long, length_values w values))
          ∙ ap (λ (k : ℕ). values_above (take k (values_of w values)) (list_of (drop k (values_of w values)) s)) (sym (z ∙ q.long))
          ∙ ap (λ (vs : List Value). values_above (take steps (values_of w values)) (list_of vs s)) (drop_values w values steps (omega arith))

      pub leads_list : (s : Store) → s.pairs ≡ take (2 * used) p → s.ghosts ≡ ghosts → Leads w p values used (led (read_path path) (values_of w values) s) w' p' b
      leads_list s e f =
          subst (λ (y : Led). Leads w p values used y w' p' b) (sym (led_listed s))
          record {
            node_is = ap some (sym (l.node_is s e f));
            values_are =
                values_split w w' values steps (omega arith) (λ j h. l.high j h)
                ∙ ap (λ (vs : List Value). take steps (values_of w values) ++ vs) (l.values_are s e f);
            pairs_are = l.pairs_are s e f;
            ghosts_are = l.ghosts_are s e f;
            pairs_rest = l.pairs_rest;
            low = l.low;
            lists = record { all = l.lists; few = omega (arith, l.listed_is, a.few) };
          }

-- ---- what the walk and the list ask for

pub nil_reachable : (w p : List ℕ) (values listed used ghosts : ℕ) → Walkable w p values listed used ghosts → Reachable p used 134217728
nil_reachable w p values listed used ghosts k =
    record { room = omega (arith, k.room.pairs, k.room.room); here = subst (Within used) (sym node_of_nil) tt; there = k.there }

pub value_reachable : (w p : List ℕ) (values listed used ghosts : ℕ) → Walkable w p values listed used ghosts → (k : ℕ) → k < values → Reachable p used (at w (VALUES + 2 * k))
value_reachable w p values listed used ghosts r k l =
    record { room = omega (arith, r.room.pairs, r.room.room); here = r.nodes k l; there = r.there }

pub fewer_room : (w p : List ℕ) (values steps listed used ghosts : ℕ) → ListRoom w p values listed used ghosts → steps ≤ values → ListRoom w p (values - steps) listed used ghosts
fewer_room w p values steps listed used ghosts r l =
    record {
      work = r.work;
      pairs = r.pairs;
      few = omega (arith, r.few);
      ghost = omega (arith, r.ghost, unlisted_up w (values - steps) steps, ap (λ (n : ℕ). unlisted (values_of w n)) whole);
      room = r.room;
      lists = r.lists;
    }
  where
    whole : values - steps + steps ≡ values
    whole = omega arith

-- The lists that the stack has.
pub lists_of : {w p : List ℕ} {values listed used ghosts : ℕ} → Walkable w p values listed used ghosts → HaveLists w listed values
lists_of k = record { all = k.room.lists; few = k.listed_few }

-- A node that was reached changes no count.
pub total_reached : (w : Result NodePtr PathIntoAtom) (c : Counts) → SameTotal c.pairs c.ghosts (reached w c)
total_reached (Ok h) c = (omega arith, refl)
total_reached (Err into) c = tt
