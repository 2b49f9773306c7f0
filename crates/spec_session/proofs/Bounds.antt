-- How large the cache grows: its entries, their parents, and the handles mapped; the bounds of a whole run.
-- Assumes nothing.
use Prim.Native.Nat.{ℕ, zero, suc, ◌+◌, ◌-◌, ◌*◌, ◌%◌, ◌^◌, ◌≤◌, ◌<◌}
use Rattle.std.specs.Prelude.{◌≡◌, refl, Bool, true, false, cond, eqb, ltb, set, take}
use Rattle.std.proofs.Common.{subst, sym, ap, ◌∙◌, length-set, length-drop, eqb-true, eq-eqb, ne_eqb, ltb-true, ltb-false}
use Rattle.std.proofs.Math.Path.{subst}
use mathlib.Core.List.{List, [], ◌∷◌, ◌++◌}
use Rattle.std.proofs.Math.Option.{Option, none, some, none-ne-some, some-injective}
use native.Mathlib.Omega.{arith}
use Rattle.std.proofs.Math.ListN.{length, length-append}
use Rattle.std.proofs.lemmas.Bool.{eqb-false}
use Rattle.spec_reading.specs.Sound.{one_if_none}
use Rattle.spec_session.proofs.Cached.{lookup_both}
use Rattle.allocator.specs.HandleLaws.{pair_handle}
use Rattle.words.specs.Choice.{by_cond, by_lt}
use Rattle.words.specs.Lists.{All, all_append, all_drop, all_take, all_map, all_or}
use Rattle.path.specs.Bytes.{bit}
use Rattle.allocator.specs.Handle.{Node, pair, listed_atom, small_atom, unknown, node_of, handle_of}
use Rattle.spec_session.specs.File.{File, Pair, Step, add, restore, forget, quote, take_quote}
use Rattle.spec_session.specs.Unfold.{Unfolded, hole, leaf, node, is_sentinel, named_by, unfold_with, unfold_pairs, unfolded}
use Rattle.spec_session.specs.Cache.{Key, Parent, Entry, Cache, same_key, later, find_key, lookup, adjust, parents_at, add_parent, move_parents}
use Rattle.spec_session.specs.Cache.{no_parents, new_entry, with_entries, keep_or_add, find_or_add, link_pair, join_pair, known_or, fresh}
use Rattle.atom.specs.Write.{serialized_length}
use Rattle.spec_session.specs.Cache.{atom_key, pair_key, pair_length, length_at, enter, sentinel_parents, clear_sentinel, place_root, update}
use Rattle.spec_session.specs.Items.{Item}
use Rattle.spec_session.specs.Writer.{Todo, parse, Outcome, done, stopped, refused, resume, Session, start, Added, added, turned_down, settle, add_at, add_tree}
use Rattle.spec_session.specs.Trees.{nth}
use Rattle.spec_session.proofs.Trees.{both_more, both_fewer}
use Rattle.spec_session.specs.FindPath.{find_in}
use Rattle.spec_session.specs.Steps.{or_known, restored, room_in, State, at_start, Stepped, went, halted, Run, after_add, after_restore}
use Rattle.spec_session.specs.Steps.{after_forget, add_handle, add_step, take_step, run_step, after_step, run_steps}
use Rattle.spec_session.proofs.StepLaws.{by_full, as_quote, quote_by_add}

-- ---- all parents

-- The lengths of all parent lists, together.
abbrev pub all_parents : List Entry → ℕ
all_parents [] = 0
all_parents (x ∷ es) = length x.parents + all_parents es

pub all_parents_append : (xs ys : List Entry) → all_parents (xs ++ ys) ≡ all_parents xs + all_parents ys
all_parents_append [] ys = omega arith
all_parents_append (x ∷ xs) ys = omega (arith, all_parents_append xs ys)

pub length_adjust : (e : ℕ) (f : List Parent → List Parent) (es : List Entry) → length (adjust e f es) ≡ length es
length_adjust e f [] = refl
length_adjust zero f (x ∷ es) = refl
length_adjust (suc e) f (x ∷ es) = ap suc (length_adjust e f es)

-- A change that adds at most n parents to a list adds at most n to all.
pub all_parents_adjust : (n e : ℕ) (f : List Parent → List Parent) (es : List Entry) → ((ps : List Parent) → length (f ps) ≤ length ps + n)
    → all_parents (adjust e f es) ≤ all_parents es + n
all_parents_adjust n e f [] h = omega arith
all_parents_adjust n zero f (x ∷ es) h = omega (arith, h x.parents)
all_parents_adjust n (suc e) f (x ∷ es) h = omega (arith, all_parents_adjust n e f es h)

-- The parents taken away are as many as the entry had.
pub all_parents_clear : (e : ℕ) (es : List Entry) → all_parents (adjust e no_parents es) + length (parents_at e es) ≡ all_parents es
all_parents_clear e [] = omega arith
all_parents_clear zero (x ∷ es) = omega arith
all_parents_clear (suc e) (x ∷ es) = omega (arith, all_parents_clear e es)

pub length_add_parent : (p : ℕ) (side : Bool) (ps : List Parent) → length (add_parent p side ps) ≤ length ps + 1
length_add_parent p side ps =
    by_cond (λ (l : List Parent). length l ≤ length ps + 1) (ltb (length ps) 100) (ps ++ (p, side) ∷ []) (set ps ((p + bit side) % 100) (p, side))
    (λ c. omega (arith, length-append ps ((p, side) ∷ [])))
    (λ c. omega (arith, length-set ps ((p + bit side) % 100) (p, side)))

pub length_move_parents : (moved ps : List Parent) → length (move_parents moved ps) ≤ length ps + length moved
length_move_parents moved ps = omega (arith, length-drop (length (ps ++ moved) - 100) (ps ++ moved), length-append ps moved)

-- ---- each list of parents

-- At most 100 parents, and each an entry below n.
abbrev pub ParentsOK : ℕ → List Parent → Type 0
ParentsOK n ps = (length ps ≤ 100) × All (λ (p : Parent). p.0 < n) ps

abbrev pub EntryOK : ℕ → Entry → Type 0
EntryOK n x = ParentsOK n x.parents

pub parents_mono : (n m : ℕ) → n ≤ m → (ps : List Parent) → ParentsOK n ps → ParentsOK m ps
parents_mono n m h ps k = (k.0, all_map (λ (p : Parent). p.0 < n) (λ (p : Parent). p.0 < m) (λ p l. omega arith) ps k.1)

entries_mono : (n m : ℕ) → n ≤ m → (es : List Entry) → All (EntryOK n) es → All (EntryOK m) es
entries_mono n m h es k = all_map (EntryOK n) (EntryOK m) (λ x. parents_mono n m h x.parents) es k

pub adjust_ok : (n e : ℕ) (f : List Parent → List Parent) (es : List Entry) → ((ps : List Parent) → ParentsOK n ps → ParentsOK n (f ps))
    → All (EntryOK n) es → All (EntryOK n) (adjust e f es)
adjust_ok n e f [] g h = tt
adjust_ok n zero f (x ∷ es) g h = (g x.parents h.0, h.1)
adjust_ok n (suc e) f (x ∷ es) g h = (h.0, adjust_ok n e f es g h.1)

pub parents_at_ok : (n e : ℕ) (es : List Entry) → All (EntryOK n) es → ParentsOK n (parents_at e es)
parents_at_ok n e [] h = (omega arith, tt)
parents_at_ok n zero (x ∷ es) h = h.0
parents_at_ok n (suc e) (x ∷ es) h = parents_at_ok n e es h.1

all_set : (P : Parent → Type 0) (ps : List Parent) (i : ℕ) (p : Parent) → All P ps → P p → All P (set ps i p)
all_set P [] i p h k = tt
all_set P (q ∷ ps) zero p h k = (k, h.1)
all_set P (q ∷ ps) (suc i) p h k = (h.0, all_set P ps i p h.1 k)

pub add_parent_ok : (n p : ℕ) (side : Bool) (ps : List Parent) → p < n → ParentsOK n ps → ParentsOK n (add_parent p side ps)
add_parent_ok n p side ps l h =
    by_cond (ParentsOK n) (ltb (length ps) 100) (ps ++ (p, side) ∷ []) (set ps ((p + bit side) % 100) (p, side))
    (λ c. (omega (arith, ltb-true (length ps) 100 c, length-append ps ((p, side) ∷ [])), all_append (λ (q : Parent). q.0 < n) ps ((p, side) ∷ []) h.1 (l, tt)))
    (λ c. (omega (arith, length-set ps ((p + bit side) % 100) (p, side)), all_set (λ (q : Parent). q.0 < n) ps ((p + bit side) % 100) (p, side) h.1 l))

pub move_parents_ok : (n : ℕ) (moved ps : List Parent) → ParentsOK n moved → ParentsOK n ps → ParentsOK n (move_parents moved ps)
move_parents_ok n moved ps h k = (
  omega (arith, length-drop (length (ps ++ moved) - 100) (ps ++ moved)),
  all_drop (λ (q : Parent). q.0 < n) (length (ps ++ moved) - 100) (ps ++ moved) (all_append (λ (q : Parent). q.0 < n) ps moved k.1 h.1),
)

-- ---- the handles mapped

-- The handle h is not mapped.
abbrev pub Absent : ℕ → List (ℕ × ℕ) → Type 0
Absent h = All (λ (m : ℕ × ℕ). m.0 ≡ h → ⊥)

-- No handle is mapped twice.
abbrev pub Distinct : List (ℕ × ℕ) → Type 0
Distinct [] = Unit {0}
Distinct (m ∷ ms) = Absent m.0 ms × Distinct ms

-- The handles mapped are below n, and distinct.
pub record MappedIn (n : ℕ) (ms : List (ℕ × ℕ)) : Type 0 where
  pub handles : All (λ (m : ℕ × ℕ). m.0 < n) ms
  pub distinct : Distinct ms

pub absent : (h : ℕ) (ms : List (ℕ × ℕ)) → lookup h ms ≡ none → Absent h ms
absent h [] q = tt
absent h (m ∷ ms) q = go (eqb h m.0) refl q (absent h ms)
  where
    go : (b : Bool) → eqb h m.0 ≡ b → cond b (some m.1) (lookup h ms) ≡ none → (lookup h ms ≡ none → Absent h ms) → Absent h (m ∷ ms)
    go true e q ih = absurd (none-ne-some m.1 (sym q))
    go false e q ih = (λ k. eqb-false h m.0 e (sym k), ih q)

pub lookup_absent : (h : ℕ) (ms : List (ℕ × ℕ)) → Absent h ms → lookup h ms ≡ none
lookup_absent h [] a = refl
lookup_absent h (m ∷ ms) a = rw (ne_eqb h m.0 (λ k. a.0 (sym k))) (lookup_absent h ms a.1)

distinct_more : (ms : List (ℕ × ℕ)) (h e : ℕ) → Distinct ms → Absent h ms → Distinct (ms ++ (h, e) ∷ [])
distinct_more [] h e d a = (tt, tt)
distinct_more (m ∷ ms) h e d a =
    (all_append (λ (q : ℕ × ℕ). q.0 ≡ m.0 → ⊥) ms ((h, e) ∷ []) d.0 (λ k. a.0 (sym k), tt), distinct_more ms h e d.1 a.1)

pub mapped_more : (n : ℕ) (ms : List (ℕ × ℕ)) (h e : ℕ) → MappedIn n ms → h < n → Absent h ms → MappedIn n (ms ++ (h, e) ∷ [])
mapped_more n ms h e m l a = record {
  handles = all_append (λ (q : ℕ × ℕ). q.0 < n) ms ((h, e) ∷ []) m.handles (l, tt);
  distinct = distinct_more ms h e m.distinct a;
}

-- How many of the handles below n are not mapped.
abbrev pub free : ℕ → List (ℕ × ℕ) → ℕ
free zero ms = 0
free (suc n) ms = one_if_none (lookup n ms) + free n ms

pub free_none : (n : ℕ) → free n [] ≡ n
free_none zero = refl
free_none (suc n) = omega (arith, free_none n)

lookup_other : (j h e : ℕ) (ms : List (ℕ × ℕ)) → (j ≡ h → ⊥) → lookup j ((h, e) ∷ ms) ≡ lookup j ms
lookup_other j h e ms ne = rw (ne_eqb j h ne)

lookup_this : (h e : ℕ) (ms : List (ℕ × ℕ)) → lookup h ((h, e) ∷ ms) ≡ some e
lookup_this h e ms = rw (eq-eqb h h refl)

-- A handle that is not below n changes nothing below n.
free_above : (n h e : ℕ) (ms : List (ℕ × ℕ)) → n ≤ h → free n ((h, e) ∷ ms) ≡ free n ms
free_above zero h e ms l = refl
free_above (suc n) h e ms l =
    rw (lookup_other n h e ms (λ q. omega arith)) (omega (arith, free_above n h e ms (omega arith)))

-- One handle fewer is free once one more is mapped.
free_front : (n h e : ℕ) (ms : List (ℕ × ℕ)) → h < n → Absent h ms → free n ms ≡ 1 + free n ((h, e) ∷ ms)
free_front zero h e ms l a = absurd (omega arith)
free_front (suc n) h e ms l a =
    by_lt h n
    (λ k. rw (lookup_other n h e ms (λ q. omega arith)) (omega (arith, free_front n h e ms k a)))
    (λ k. let alike : n ≡ h = omega arith in
    subst (λ (m : ℕ). free (suc m) ms ≡ 1 + free (suc m) ((h, e) ∷ ms)) (sym alike)
    (rw (lookup_this h e ms, lookup_absent h ms a) (omega (arith, free_above h h e ms (omega arith)))))

-- The handles mapped and those free are n together.
pub mapped_and_free : (n : ℕ) (ms : List (ℕ × ℕ)) → MappedIn n ms → length ms + free n ms ≡ n
mapped_and_free n [] m = omega (arith, free_none n)
mapped_and_free n (q ∷ ms) m =
    omega (arith, free_front n q.0 q.1 ms m.handles.0 m.distinct.0, mapped_and_free n ms (record { handles = m.handles.1; distinct = m.distinct.1 }))

-- At most n handles are mapped.
pub mapped_few : (n : ℕ) (ms : List (ℕ × ℕ)) → MappedIn n ms → length ms ≤ n
mapped_few n ms m = omega (arith, mapped_and_free n ms m)

-- A new handle's place in the list is all one to a lookup.
lookup_moved : (j h e : ℕ) (ms : List (ℕ × ℕ)) → Absent h ms → lookup j (ms ++ (h, e) ∷ []) ≡ lookup j ((h, e) ∷ ms)
lookup_moved j h e ms a = lookup_both j ms ((h, e) ∷ []) ∙ go (eqb j h) refl
  where
    or_none : (o : Option ℕ) → or_known o none ≡ o
    or_none none = refl
    or_none (some x) = refl

    go : (b : Bool) → eqb j h ≡ b → or_known (lookup j ms) (cond b (some e) none) ≡ cond b (some e) (lookup j ms)
    go true p = rw (eqb-true j h p, lookup_absent h ms a) refl
    go false p = or_none (lookup j ms)

free_same : (n : ℕ) (xs ys : List (ℕ × ℕ)) → ((j : ℕ) → lookup j xs ≡ lookup j ys) → free n xs ≡ free n ys
free_same zero xs ys h = refl
free_same (suc n) xs ys h = rw (h n) (omega (arith, free_same n xs ys h))

pub free_more : (n h e : ℕ) (ms : List (ℕ × ℕ)) → h < n → Absent h ms → free n ms ≡ 1 + free n (ms ++ (h, e) ∷ [])
free_more n h e ms l a =
    omega (arith, free_front n h e ms l a, free_same n (ms ++ (h, e) ∷ []) ((h, e) ∷ ms) (λ j. lookup_moved j h e ms a))

-- ---- what is found is an entry

pub find_below : (k : Key) (es : List Entry) (e : ℕ) → find_key k es ≡ some e → e < length es
find_below k [] e q = absurd (none-ne-some e q)
find_below k (x ∷ es) e q = go (same_key k x.key) (find_key k es) refl q (find_below k es)
  where
    go : (b : Bool) (o : Option ℕ) → find_key k es ≡ o → cond b (some 0) (later o) ≡ some e → ((i : ℕ) → find_key k es ≡ some i → i < length es) → e < suc (length es)
    go true o f q ih = omega (arith, some-injective 0 e q)
    go false none f q ih = absurd (none-ne-some e q)
    go false (some i) f q ih = omega (arith, some-injective (suc i) e q, ih i f)

pub lookup_below : (n h : ℕ) (ms : List (ℕ × ℕ)) (e : ℕ) → All (λ (m : ℕ × ℕ). m.1 < n) ms → lookup h ms ≡ some e → e < n
lookup_below n h [] e a q = absurd (none-ne-some e q)
lookup_below n h (m ∷ ms) e a q = go (eqb h m.0) q (lookup_below n h ms e a.1)
  where
    go : (b : Bool) → cond b (some m.1) (lookup h ms) ≡ some e → (lookup h ms ≡ some e → e < n) → e < n
    go true q ih = omega (arith, a.0, some-injective m.1 e q)
    go false q ih = ih q

-- ---- entry numbers

-- A parent's entry number is below 4,096, and what a parent list holds, entry × 2 + position, takes 16 bits.
abbrev pub ParentFits : Parent → Type 0
ParentFits p = (p.0 < 4096) × (p.0 * 2 + bit p.1 < 2 ^ 16)

-- "Entry numbers never pass 4,096, so the parent lists hold them in 16 bits." Entries are numbered from 0 in the order of the list.
pub record EntryNumbersFit (c : Cache) : Type 0 where
  pub entries_fit : length c.entries ≤ 4096
  -- Each parent of each entry.
  pub parents_fit : All (λ (x : Entry). All ParentFits x.parents) c.entries

parent_fits : (n : ℕ) → n ≤ 4096 → (p : Parent) → p.0 < n → ParentFits p
parent_fits n h (e, false) l = (omega arith, omega arith)
parent_fits n h (e, true) l = (omega arith, omega arith)

all_parents_fit : (n : ℕ) → n ≤ 4096 → (es : List Entry) → All (EntryOK n) es → All (λ (x : Entry). All ParentFits x.parents) es
all_parents_fit n h es k =
    all_map (EntryOK n) (λ (x : Entry). All ParentFits x.parents)
    (λ x o. all_map (λ (p : Parent). p.0 < n) ParentFits (parent_fits n h) x.parents o.1) es k

-- ---- a cache within its bounds

abbrev pub Below : ℕ → Option ℕ → Type 0
Below n none = Unit {0}
Below n (some s) = s < n

pub below_mono : (n m : ℕ) → n ≤ m → (o : Option ℕ) → Below n o → Below m o
below_mono n m h none b = tt
below_mono n m h (some s) b = omega arith

-- Of a file with n pairs: each entry has at most 100 parents; parents, mapped entries and the sentinel's entry are entries; the handles mapped are handles
-- of pairs.
pub record Bounded (n : ℕ) (c : Cache) : Type 0 where
  pub parents_ok : All (EntryOK (length c.entries)) c.entries
  pub mapped_in : MappedIn n c.mapped
  pub mapped_below : All (λ (m : ℕ × ℕ). m.1 < length c.entries) c.mapped
  pub sentinel_below : Below (length c.entries) c.sentinel_entry

-- The handles of pairs in a tree are below n, and those below a pair are below the pair's.
abbrev pub Under : ℕ → Unfolded → Type 0
Under n hole = Unit {0}
Under n (leaf h bytes) = Unit {0}
Under n (node h l r) = (h < n) × Under h l × Under h r

-- What is left, with the tree's entry, once a tree is entered whose handles are below t, in a file with n pairs.
pub record Grown (t n : ℕ) (c : Cache) (r : Cache × ℕ) : Type 0 where
  pub bounded : Bounded n r.0
  pub entry_below : r.1 < length r.0.entries
  pub entries_grow : length c.entries ≤ length r.0.entries
  pub mapped_grow : length c.mapped ≤ length r.0.mapped
  -- At most one entry more than two for each handle newly mapped.
  pub entries_most : length r.0.entries + 2 * length c.mapped ≤ length c.entries + 2 * length r.0.mapped + 1
  -- At most two parents for each handle newly mapped.
  pub parents_most : all_parents r.0.entries + 2 * length c.mapped ≤ all_parents c.entries + 2 * length r.0.mapped
  -- Each handle newly mapped is below t, and was free.
  pub stays_absent : (j : ℕ) → t ≤ j → Absent j c.mapped → Absent j r.0.mapped
  pub free_fall : (m : ℕ) → t ≤ m → length c.mapped + free m c.mapped ≡ length r.0.mapped + free m r.0.mapped

known_mono : (n m : ℕ) → n ≤ m → (ms : List (ℕ × ℕ)) → All (λ (q : ℕ × ℕ). q.1 < n) ms → All (λ (q : ℕ × ℕ). q.1 < m) ms
known_mono n m h ms k = all_map (λ (q : ℕ × ℕ). q.1 < n) (λ (q : ℕ × ℕ). q.1 < m) (λ q l. omega arith) ms k

-- One entry more, with no parents.
entries_more : (es : List Entry) (k : Key) (n : ℕ) → All (EntryOK (length es)) es → All (EntryOK (length (es ++ new_entry k n ∷ []))) (es ++ new_entry k n ∷ [])
entries_more es k n h =
    let l : length (es ++ new_entry k n ∷ []) ≡ length es + 1 = length-append es (new_entry k n ∷ []) in
    all_append (EntryOK (length (es ++ new_entry k n ∷ []))) es (new_entry k n ∷ [])
    (entries_mono (length es) (length (es ++ new_entry k n ∷ [])) (omega (arith, l)) es h) ((omega arith, tt), tt)

module _ (t n : ℕ) where
  -- Nothing is added.
  same_grown : (c : Cache) (e : ℕ) → Bounded n c → e < length c.entries → Grown t n c (c, e)
  same_grown c e b l = record {
    bounded = b;
    entry_below = l;
    entries_grow = omega arith;
    mapped_grow = omega arith;
    entries_most = omega arith;
    parents_most = omega arith;
    stays_absent = λ j h a. a;
    free_fall = λ m h. refl;
  }

  -- An entry is added, and may be the sentinel's.
  new_grown : (c : Cache) (k : Key) (len : ℕ) (o : Option ℕ) → Bounded n c → Below (suc (length c.entries)) o
      → Grown t n c (record { entries = c.entries ++ new_entry k len ∷ []; mapped = c.mapped; sentinel_entry = o }, length c.entries)
  new_grown c k len o b s =
      let l : length (c.entries ++ new_entry k len ∷ []) ≡ length c.entries + 1 = length-append c.entries (new_entry k len ∷ []) in
      record {
        bounded = record {
          parents_ok = entries_more c.entries k len b.parents_ok;
          mapped_in = b.mapped_in;
          mapped_below = known_mono (length c.entries) (length (c.entries ++ new_entry k len ∷ [])) (omega (arith, l)) c.mapped b.mapped_below;
          sentinel_below = below_mono (suc (length c.entries)) (length (c.entries ++ new_entry k len ∷ [])) (omega (arith, l)) o s;
        };
        entry_below = omega (arith, l);
        entries_grow = omega (arith, l);
        mapped_grow = omega arith;
        entries_most = omega (arith, l);
        parents_most = omega (arith, all_parents_append c.entries (new_entry k len ∷ []));
        stays_absent = λ j h a. a;
        free_fall = λ m h. refl;
      }

  found_grown : (c : Cache) (k : Key) (len : ℕ) → Bounded n c → Grown t n c (find_or_add k len c)
  found_grown c k len b = go (find_key k c.entries) refl
    where
      go : (o : Option ℕ) → find_key k c.entries ≡ o → Grown t n c (keep_or_add o k len c)
      go (some e) q = same_grown c e b (find_below k c.entries e q)
      go none q = new_grown c k len c.sentinel_entry b (below_mono (length c.entries) (suc (length c.entries)) (omega arith) c.sentinel_entry b.sentinel_below)

  module _ (h a b : ℕ) (f : Cache × ℕ) where
    abbrev linked_entries : List Entry
    linked_entries = adjust b (add_parent f.1 true) (adjust a (add_parent f.1 false) f.0.entries)

    linked_length : length linked_entries ≡ length f.0.entries
    linked_length =
        length_adjust b (add_parent f.1 true) (adjust a (add_parent f.1 false) f.0.entries) ∙ length_adjust a (add_parent f.1 false) f.0.entries

    linked_parents : all_parents linked_entries ≤ all_parents f.0.entries + 2
    linked_parents =
        omega (
          arith,
          all_parents_adjust 1 b (add_parent f.1 true) (adjust a (add_parent f.1 false) f.0.entries) (length_add_parent f.1 true),
          all_parents_adjust 1 a (add_parent f.1 false) f.0.entries (length_add_parent f.1 false),
        )

    linked_ok : f.1 < length f.0.entries → All (EntryOK (length f.0.entries)) f.0.entries → All (EntryOK (length f.0.entries)) linked_entries
    linked_ok l k =
        let m = length f.0.entries in
        adjust_ok m b (add_parent f.1 true) (adjust a (add_parent f.1 false) f.0.entries) (λ ps. add_parent_ok m f.1 true ps l)
        (adjust_ok m a (add_parent f.1 false) f.0.entries (λ ps. add_parent_ok m f.1 false ps l) k)

    link_bounded : Bounded n f.0 → f.1 < length f.0.entries → h < n → Absent h f.0.mapped → Bounded n (link_pair h a b f).0
    link_bounded k l hn ab = record {
      parents_ok = rw linked_length (linked_ok l k.parents_ok);
      mapped_in = mapped_more n f.0.mapped h f.1 k.mapped_in hn ab;
      mapped_below =
          rw linked_length (all_append (λ (m : ℕ × ℕ). m.1 < length f.0.entries) f.0.mapped ((h, f.1) ∷ []) k.mapped_below (l, tt));
      sentinel_below = rw linked_length k.sentinel_below;
    }

    -- A pair's entry is there, and so are those of both sides.
    link_grown : (c c₁ c₂ : Cache) (e₁ e₂ : ℕ) → h < t → t ≤ n → Absent h c.mapped → Grown h n c (c₁, e₁) → Grown h n c₁ (c₂, e₂) → Grown h n c₂ f
        → Grown t n c (link_pair h a b f)
    link_grown c c₁ c₂ e₁ e₂ ht tn ab L R F =
        let away : Absent h f.0.mapped =
        F.stays_absent h (omega arith) (R.stays_absent h (omega arith) (L.stays_absent h (omega arith) ab)) in
        let more : length (f.0.mapped ++ (h, f.1) ∷ []) ≡ length f.0.mapped + 1 = length-append f.0.mapped ((h, f.1) ∷ []) in
        record {
          bounded = link_bounded F.bounded F.entry_below (omega arith) away;
          entry_below = omega (arith, linked_length, F.entry_below);
          entries_grow = omega (arith, linked_length, L.entries_grow, R.entries_grow, F.entries_grow);
          mapped_grow = omega (arith, more, L.mapped_grow, R.mapped_grow, F.mapped_grow);
          entries_most = omega (arith, linked_length, more, L.entries_most, R.entries_most, F.entries_most);
          parents_most = omega (arith, linked_parents, more, L.parents_most, R.parents_most, F.parents_most);
          stays_absent = λ j tj aj.
              all_append (λ (m : ℕ × ℕ). m.0 ≡ j → ⊥) f.0.mapped ((h, f.1) ∷ [])
              (F.stays_absent j (omega arith) (R.stays_absent j (omega arith) (L.stays_absent j (omega arith) aj))) (λ q. omega arith, tt);
          free_fall = λ m tm.
              omega (
                arith,
                more,
                free_more m h f.1 f.0.mapped (omega arith) away,
                L.free_fall m (omega arith),
                R.free_fall m (omega arith),
                F.free_fall m (omega arith),
              );
        }

known_grown : (t n h : ℕ) (c : Cache) (new : Cache × ℕ) → Bounded n c → (o : Option ℕ) → lookup h c.mapped ≡ o
    → (Absent h c.mapped → Grown t n c new) → Grown t n c (known_or o c new)
known_grown t n h c new b none q g = g (absent h c.mapped q)
known_grown t n h c new b (some e) q g = same_grown t n c e b (lookup_below (length c.entries) h c.mapped e b.mapped_below q)

-- Entering a tree grows the cache within its bounds.
pub enter_grown : (n t : ℕ) (u : Unfolded) (c : Cache) → t ≤ n → Under t u → Bounded n c → Grown t n c (enter u c)
unfolding enter
enter_grown n t hole c l u b = new_grown t n c _ 0 (some (length c.entries)) b (omega arith)
enter_grown n t (leaf h bytes) c l u b = found_grown t n c (atom_key bytes) (serialized_length bytes) b
enter_grown n t (node h x y) c l u b =
    let L : Grown h n c (enter x c) = enter_grown n h x c (omega (arith, u.0)) u.1 b in
    let R : Grown h n (enter x c).0 (enter y (enter x c).0) = enter_grown n h y (enter x c).0 (omega (arith, u.0)) u.2 L.bounded in
    known_grown t n h c (join_pair h (enter x c).1 (enter y (enter x c).0)) b (lookup h c.mapped) refl
    (λ ab.
    let a : ℕ = (enter x c).1 in
    let right : Cache × ℕ = enter y (enter x c).0 in
    let k : Key = pair_key a right.1 in
    let len : ℕ = pair_length (length_at a right.0.entries) (length_at right.1 right.0.entries) in
    link_grown t n h a right.1 (find_or_add k len right.0) c (enter x c).0 right.0 a right.1 u.0 l ab L R (found_grown h n right.0 k len R.bounded))

-- ---- an add

-- The sentinel's parents, and all parents without them.
clear_parents : (o : Option ℕ) (es : List Entry) → all_parents (clear_sentinel o es) + length (sentinel_parents o es) ≡ all_parents es
clear_parents none es = omega arith
clear_parents (some s) es = all_parents_clear s es

clear_length : (o : Option ℕ) (es : List Entry) → length (clear_sentinel o es) ≡ length es
clear_length none es = refl
clear_length (some s) es = length_adjust s no_parents es

clear_ok : (n : ℕ) (o : Option ℕ) (es : List Entry) → All (EntryOK n) es → All (EntryOK n) (clear_sentinel o es)
clear_ok n none es h = h
clear_ok n (some s) es h = adjust_ok n s no_parents es (λ ps k. (omega arith, tt)) h

moved_ok : (n : ℕ) (o : Option ℕ) (es : List Entry) → All (EntryOK n) es → ParentsOK n (sentinel_parents o es)
moved_ok n none es h = (omega arith, tt)
moved_ok n (some s) es h = parents_at_ok n s es h

-- Entries with other parents, as many, keep a cache within its bounds.
with_bounded : (n : ℕ) (es : List Entry) (c : Cache) → Bounded n c → length es ≡ length c.entries → All (EntryOK (length c.entries)) es
    → Bounded n (with_entries es c)
with_bounded n es c b l k = record {
  parents_ok = rw l k;
  mapped_in = b.mapped_in;
  mapped_below = rw l b.mapped_below;
  sentinel_below = rw l b.sentinel_below;
}

-- What an add leaves of the cache c, in a file with n pairs.
pub record Updated (n : ℕ) (c c' : Cache) : Type 0 where
  pub bounded : Bounded n c'
  pub entries_grow : length c.entries ≤ length c'.entries
  pub mapped_grow : length c.mapped ≤ length c'.mapped
  pub entries_most : length c'.entries + 2 * length c.mapped ≤ length c.entries + 2 * length c'.mapped + 1
  pub parents_most : all_parents c'.entries + 2 * length c.mapped ≤ all_parents c.entries + 2 * length c'.mapped

place_updated : (n : ℕ) (c c₁ : Cache) (moved : List Parent) (r : Cache × ℕ) → length c₁.entries ≡ length c.entries → c₁.mapped ≡ c.mapped
    → all_parents c₁.entries + length moved ≡ all_parents c.entries → ParentsOK (length c.entries) moved → Grown n n c₁ r
    → Updated n c (place_root moved r)
place_updated n c c₁ moved r e m p k G =
    let l : length (adjust r.1 (move_parents moved) r.0.entries) ≡ length r.0.entries = length_adjust r.1 (move_parents moved) r.0.entries in
    let d : length c₁.mapped ≡ length c.mapped = ap length m in
    record {
      bounded =
          with_bounded n (adjust r.1 (move_parents moved) r.0.entries) r.0 G.bounded l
          (adjust_ok (length r.0.entries) r.1 (move_parents moved) r.0.entries
          (λ ps. move_parents_ok (length r.0.entries) moved ps
          (parents_mono (length c.entries) (length r.0.entries) (omega (arith, e, G.entries_grow)) moved k))
          G.bounded.parents_ok);
      entries_grow = omega (arith, l, e, G.entries_grow);
      mapped_grow = omega (arith, d, G.mapped_grow);
      entries_most = omega (arith, l, d, e, G.entries_most);
      parents_most =
          omega (
            arith,
            d,
            p,
            G.parents_most,
            all_parents_adjust (length moved) r.1 (move_parents moved) r.0.entries (length_move_parents moved),
          );
    }

-- An add grows the cache within its bounds: the parents that are moved are not more than before.
pub update_grown : (n : ℕ) (t : Unfolded) (c : Cache) → Under n t → Bounded n c → Updated n c (update t c)
unfolding update
update_grown n t c u b =
    let o = c.sentinel_entry in
    let es : List Entry = clear_sentinel o c.entries in
    let l : length es ≡ length c.entries = clear_length o c.entries in
    place_updated n c (with_entries es c) (sentinel_parents o c.entries) (enter t (with_entries es c)) l refl
    (clear_parents o c.entries) (moved_ok (length c.entries) o c.entries b.parents_ok)
    (enter_grown n n t (with_entries es c) (omega arith) u
    (with_bounded n es c b l (clear_ok (length c.entries) o c.entries b.parents_ok)))

-- ---- a file's trees

under_mono : (n m : ℕ) → n ≤ m → (u : Unfolded) → Under n u → Under m u
under_mono n m l hole u = tt
under_mono n m l (leaf h bytes) u = tt
under_mono n m l (node h x y) u = (omega (arith, u.0), u.1, u.2)

module _ (f : File) where
  named_under : (n : ℕ) (rows : List Unfolded) (h : ℕ) (m : Node) → All (Under n) rows → Under n (named_by f rows h m)
  named_under n rows h (pair i) k = all_or (Under n) rows (leaf h []) i k tt
  named_under n rows h (listed_atom i) k = tt
  named_under n rows h (small_atom v) k = tt
  named_under n rows h (unknown j i) k = tt

  with_under : (n : ℕ) (rows : List Unfolded) (h : ℕ) → All (Under n) rows → Under n (unfold_with f rows h)
  with_under n rows h k =
      by_cond (Under n) (is_sentinel f.sentinel h) hole (named_by f rows h (node_of h)) (λ c. tt) (λ c. named_under n rows h (node_of h) k)

  pairs_under : (ps : List Pair) (rows : List Unfolded) → All (Under (length rows)) rows → All (Under (length rows + length ps)) (unfold_pairs f ps rows)
  pairs_under [] rows k = all_map (Under (length rows)) (Under (length rows + 0)) (under_mono (length rows) (length rows + 0) (omega arith)) rows k
  pairs_under (p ∷ ps) rows k =
      let new : Unfolded = node (handle_of (pair (length rows))) (unfold_with f rows p.left) (unfold_with f rows p.right) in
      let l : length (rows ++ new ∷ []) ≡ length rows + 1 = length-append rows (new ∷ []) in
      let e : length (rows ++ new ∷ []) + length ps ≡ length rows + suc (length ps) = omega (arith, l) in
      let here : Under (length rows + 1) new = (
        omega (arith, pair_handle (length rows)),
        rw (pair_handle (length rows)) (with_under (length rows) rows p.left k),
        rw (pair_handle (length rows)) (with_under (length rows) rows p.right k),
      ) in
      subst (λ (m : ℕ). All (Under m) (unfold_pairs f ps (rows ++ new ∷ []))) e
      (pairs_under ps (rows ++ new ∷ []) (subst (λ (m : ℕ). All (Under m) (rows ++ new ∷ [])) (sym l)
      (all_append (Under (length rows + 1)) rows (new ∷ [])
      (all_map (Under (length rows)) (Under (length rows + 1)) (under_mono (length rows) (length rows + 1) (omega arith)) rows k) (here, tt))))

  -- The handles of pairs in an unfolded handle are handles of the file's pairs.
  pub unfolded_under : (h : ℕ) → Under (length f.pairs) (unfolded f h)
  unfolding unfolded
  unfolded_under h =
      let e : 0 + length f.pairs ≡ length f.pairs = omega arith in
      with_under (length f.pairs) (unfold_pairs f f.pairs []) h
      (subst (λ (m : ℕ). All (Under m) (unfold_pairs f f.pairs [])) e (pairs_under f.pairs [] tt))

-- ---- a session

-- The cache after at most k adds, in a file with n pairs.
pub record Held (n k : ℕ) (c : Cache) : Type 0 where
  pub bounded : Bounded n c
  pub entries_held : length c.entries ≤ k + 2 * length c.mapped
  pub parents_held : all_parents c.entries ≤ 2 * length c.mapped

pub held_start : (n : ℕ) → Held n 0 fresh
held_start n = record {
  bounded = record { parents_ok = tt; mapped_in = record { handles = tt; distinct = tt }; mapped_below = tt; sentinel_below = tt };
  entries_held = omega arith;
  parents_held = omega arith;
}

pub held_later : (n k m : ℕ) (c : Cache) → k ≤ m → Held n k c → Held n m c
held_later n k m c l h = record { bounded = h.bounded; entries_held = omega (arith, h.entries_held); parents_held = h.parents_held }

pub held_update : (n k : ℕ) (t : Unfolded) (c : Cache) → Under n t → Held n k c → Held n (suc k) (update t c)
held_update n k t c u h =
    let g = update_grown n t c u h.bounded in
    record {
      bounded = g.bounded;
      entries_held = omega (arith, g.entries_most, h.entries_held, g.mapped_grow);
      parents_held = omega (arith, g.parents_most, h.parents_held, g.mapped_grow);
    }

-- What that comes to: at most 2 entries and 2 parents for each pair, and one entry more for each add.
module _ (n k : ℕ) (c : Cache) (h : Held n k c) where
  pub held_mapped : length c.mapped ≤ n
  held_mapped = mapped_few n c.mapped h.bounded.mapped_in

  pub held_entries : length c.entries ≤ k + 2 * n
  held_entries = omega (arith, h.entries_held, held_mapped)

  pub held_parents : all_parents c.entries ≤ 2 * n
  held_parents = omega (arith, h.parents_held, held_mapped)

-- A session whose sentinel's entry is one of the first m.
abbrev pub SentinelBelow : ℕ → Session → Type 0
SentinelBelow m u = Below m u.cache.sentinel_entry

-- A session after at most k adds, and the sessions before the adds on its history.
pub record Stood (n k : ℕ) (past : List Session) (s : Session) : Type 0 where
  pub held : Held n k s.cache
  pub past_below : All (SentinelBelow (length s.cache.entries)) past

-- The same of each session before an add, which may come back.
pub record InBounds (n k : ℕ) (past : List Session) (s : Session) : Type 0 where
  pub stood : Stood n k past s
  pub past_stood : (i : ℕ) (u : Session) → nth past i ≡ some u → Stood n k (take i past) u

pub in_bounds_start : (n : ℕ) → InBounds n 0 [] start
in_bounds_start n = record {
  stood = record { held = held_start n; past_below = tt };
  past_stood = λ i u q. absurd (none-ne-some u q);
}

stood_later : (n k m : ℕ) (past : List Session) (s : Session) → k ≤ m → Stood n k past s → Stood n m past s
stood_later n k m past s l h = record { held = held_later n k m s.cache l h.held; past_below = h.past_below }

abbrev pub session_of : Added → Session
session_of (added s) = s
session_of (turned_down m s) = s

pub settled : (s : Session) (c : Cache) (o : Outcome) → (session_of (settle s c o)).cache ≡ c
settled s c (done w) = refl
settled s c (stopped k w) = refl
settled s c (refused m w) = refl

past_more : (s : Session) (m : ℕ) → length s.cache.entries ≤ m → Below (length s.cache.entries) s.cache.sentinel_entry
    → (past : List Session) → All (SentinelBelow (length s.cache.entries)) past → All (SentinelBelow m) (past ++ s ∷ [])
past_more s m l b past h =
    all_append (SentinelBelow m) past (s ∷ [])
    (all_map (SentinelBelow (length s.cache.entries)) (SentinelBelow m) (λ u. below_mono (length s.cache.entries) m l u.cache.sentinel_entry) past h)
    (below_mono (length s.cache.entries) m l s.cache.sentinel_entry b, tt)

module _ (find : Cache → List ℕ → List ℕ → ℕ → ℕ → Option (List Bool)) (room : List Todo → List Item → Item → ℕ) (n k : ℕ) (past : List Session) where
  stood_add : (t : Unfolded) (s : Session) → Under n t → Stood n k past s → Stood n (suc k) (past ++ s ∷ []) (session_of (add_tree find room t s))
  stood_add t s u h = go s.waiting
    where
      go : (o : Option (List Todo)) → Stood n (suc k) (past ++ s ∷ []) (session_of (add_at find room t s o))
      go none = record {
        held = held_later n k (suc k) s.cache (omega arith) h.held;
        past_below = past_more s (length s.cache.entries) (omega arith) h.held.bounded.sentinel_below past h.past_below;
      }
      go (some w) =
          let c : Cache = update t s.cache in
          let r : Session = session_of (settle s c (resume find room c (parse t ∷ w) s.written)) in
          let e : r.cache ≡ c = settled s c (resume find room c (parse t ∷ w) s.written) in
          record {
            held = subst (Held n (suc k)) (sym e) (held_update n k t s.cache u h.held);
            past_below =
                subst (λ (d : Cache). All (SentinelBelow (length d.entries)) (past ++ s ∷ [])) (sym e)
                (past_more s (length c.entries) (update_grown n t s.cache u h.held.bounded).entries_grow h.held.bounded.sentinel_below past h.past_below);
          }

  -- An add, refused or not.
  pub in_bounds_add : (t : Unfolded) (s : Session) → Under n t → InBounds n k past s → InBounds n (suc k) (past ++ s ∷ []) (session_of (add_tree find room t s))
  in_bounds_add t s u h = record {
    stood = stood_add t s u h.stood;
    past_stood =
        both_more (Stood n (suc k)) past past s s refl (λ i v q. stood_later n k (suc k) (take i past) v (omega arith) (h.past_stood i v q))
        (stood_later n k (suc k) past s (omega arith) h.stood);
  }

pub all_nth : {A : Type 0} (P : A → Type 0) (xs : List A) (i : ℕ) (x : A) → All P xs → nth xs i ≡ some x → P x
all_nth P [] i x h q = absurd (none-ne-some x q)
all_nth P (y ∷ xs) zero x h q = subst P (some-injective y x q) h.0
all_nth P (y ∷ xs) (suc i) x h q = all_nth P xs i x h.1 q

or_known_below : (m : ℕ) (o now : Option ℕ) → Below m o → Below m now → Below m (or_known o now)
or_known_below m none now h k = k
or_known_below m (some s) now h k = h

-- A `02`.
pub in_bounds_restore : (n k i : ℕ) (past : List Session) (u s : Session) → nth past i ≡ some u → InBounds n k past s
    → InBounds n k (take i past) (restored u s)
in_bounds_restore n k i past u s q h = record {
  stood = record {
    held = record {
      bounded = record {
        parents_ok = h.stood.held.bounded.parents_ok;
        mapped_in = h.stood.held.bounded.mapped_in;
        mapped_below = h.stood.held.bounded.mapped_below;
        sentinel_below =
            or_known_below (length s.cache.entries) u.cache.sentinel_entry s.cache.sentinel_entry
            (all_nth (SentinelBelow (length s.cache.entries)) past i u h.stood.past_below q) h.stood.held.bounded.sentinel_below;
      };
      entries_held = h.stood.held.entries_held;
      parents_held = h.stood.held.parents_held;
    };
    past_below = all_take (SentinelBelow (length s.cache.entries)) i past h.stood.past_below;
  };
  past_stood = both_fewer (Stood n k) i past past refl h.past_stood;
}

-- A `03`.
pub in_bounds_forget : (n k i : ℕ) (past : List Session) (u s : Session) → nth past i ≡ some u → InBounds n k past s → InBounds n k (take i past) u
in_bounds_forget n k i past u s q h = record { stood = h.past_stood i u q; past_stood = both_fewer (Stood n k) i past past refl h.past_stood }

-- ---- a run

-- The steps that may add a tree. What a quote enters is dropped again.
abbrev pub adds : List Step → ℕ
adds [] = 0
adds (add h ∷ steps) = suc (adds steps)
adds (restore i ∷ steps) = adds steps
adds (forget i ∷ steps) = adds steps
adds (quote h ∷ steps) = adds steps
adds (take_quote ∷ steps) = suc (adds steps)

pub adds_few : (steps : List Step) → adds steps ≤ length steps
adds_few [] = omega arith
adds_few (add h ∷ steps) = omega (arith, adds_few steps)
adds_few (restore i ∷ steps) = omega (arith, adds_few steps)
adds_few (forget i ∷ steps) = omega (arith, adds_few steps)
adds_few (quote h ∷ steps) = omega (arith, adds_few steps)
adds_few (take_quote ∷ steps) = omega (arith, adds_few steps)

-- To show R of the session where a run ends: I, of how many adds are left, the sessions before the adds and the session, is kept by each step, and gives R.
module _ (measure : List Bool → ℕ) (space : ℕ) (f : File) (I : ℕ → List Session → Session → Type 0) (R : Session → Type 0) where
  abbrev pub AddKept : ℕ → List Session → Added → Type 0
  AddKept left past (added s) = I left past s
  AddKept left past (turned_down m s) = R s

  pub record StepsKept : Type 0 where
    pub stop_kept : (left : ℕ) (past : List Session) (s : Session) → I left past s → R s
    pub add_kept : (h left : ℕ) (past : List Session) (s : Session) (k : List Todo) → s.waiting ≡ some k → length past ≤ 15
        → I (suc left) past s → AddKept left (past ++ s ∷ []) (add_handle measure space f h s)
    pub restore_kept : (i left : ℕ) (past : List Session) (u s : Session) → nth past i ≡ some u → I left past s → I left (take i past) (restored u s)
    pub forget_kept : (i left : ℕ) (past : List Session) (u s : Session) → nth past i ≡ some u → I left past s → I left (take i past) u

  -- What a step leaves.
  abbrev pub StepKept : ℕ → Stepped → Type 0
  StepKept left (went w st) = I left st.past st.now
  StepKept left (halted n s) = R s

  kept_add : (left : ℕ) (a : Added) (st : State) → AddKept left (st.past ++ st.now ∷ []) a → StepKept left (after_add a st)
  kept_add left (added s) st h = h
  kept_add left (turned_down m s) st h = h

  kept_quote : (left h : ℕ) (x : Stepped) (st : State) → I left st.past st.now → R st.now → StepKept left (as_quote measure space f h st x)
  kept_quote left h (went w t) st i r = i
  kept_quote left h (halted n s) st i r = r

  module _ (K : StepsKept) where
    add_step_kept : (h left : ℕ) (st : State) → I (suc left) st.past st.now → StepKept left (add_step measure space f h st)
    add_step_kept h left st i =
        let r = K.stop_kept (suc left) st.past st.now i in
        by_full (StepKept left) st.now.waiting (ltb 15 (length st.past)) st.now _ r r (λ k w e.
        kept_add left (add_handle measure space f h st.now) st (K.add_kept h left st.past st.now k w (ltb-false 15 (length st.past) e) i))

    take_step_kept : (o : Option ℕ) (left : ℕ) (st : State) → I (suc left) st.past st.now → StepKept left (take_step measure space f o st)
    take_step_kept none left st i = K.stop_kept (suc left) st.past st.now i
    take_step_kept (some h) left st i = add_step_kept h left st i

    restore_step_kept : (o : Option Session) (n left : ℕ) (st : State) → nth st.past n ≡ o → I left st.past st.now → StepKept left (after_restore o n st)
    restore_step_kept none n left st q i = K.stop_kept left st.past st.now i
    restore_step_kept (some u) n left st q i = K.restore_kept n left st.past u st.now q i

    forget_step_kept : (o : Option Session) (n left : ℕ) (st : State) → nth st.past n ≡ o → I left st.past st.now → StepKept left (after_forget o n st)
    forget_step_kept none n left st q i = K.stop_kept left st.past st.now i
    forget_step_kept (some u) n left st q i = K.forget_kept n left st.past u st.now q i

    pub step_kept : (x : Step) (steps : List Step) (st : State) → I (adds (x ∷ steps)) st.past st.now → StepKept (adds steps) (run_step measure space f x st)
    step_kept (add h) steps st i = add_step_kept h (adds steps) st i
    step_kept (restore n) steps st i = restore_step_kept (nth st.past n) n (adds steps) st refl i
    step_kept (forget n) steps st i = forget_step_kept (nth st.past n) n (adds steps) st refl i
    step_kept (quote h) steps st i =
        subst (StepKept (adds steps)) (sym (quote_by_add measure space f h st))
        (kept_quote (adds steps) h (run_step measure space f (add h) st) st i (K.stop_kept (adds steps) st.past st.now i))
    step_kept take_quote steps st i = take_step_kept st.quoted (adds steps) st i

    kept_run : (left : ℕ) (x : Stepped) (next : State → Run) → StepKept left x → ((st : State) → I left st.past st.now → R (next st).last) → R (after_step x next).last
    kept_run left (went w st) next i g = g st i
    kept_run left (halted n s) next i g = i

    pub run_kept : (steps : List Step) (st : State) → I (adds steps) st.past st.now → R (run_steps measure space f steps st).last
    unfolding run_steps
    run_kept [] st i = K.stop_kept 0 st.past st.now i
    run_kept (x ∷ steps) st i =
        kept_run (adds steps) (run_step measure space f x st) (λ t. run_steps measure space f steps t) (step_kept x steps st i) (λ t j. run_kept steps t j)

-- ---- the bounds of a run

-- A session after so many adds that those left make at most m together, in a file with n pairs.
pub record Underway (n m left : ℕ) (past : List Session) (s : Session) : Type 0 where
  pub done_adds : ℕ
  pub adds_most : done_adds + left ≤ m
  pub in_bounds : InBounds n done_adds past s

-- What an add leaves, and the end of the run where it is refused.
added_underway : (measure : List Bool → ℕ) (space : ℕ) (f : File) (n m k left : ℕ) (past : List Session) (a : Added)
    → suc k + left ≤ m → InBounds n (suc k) past (session_of a) → AddKept measure space f (Underway n m) (λ s. Held n m s.cache) left past a
added_underway measure space f n m k left past (added s) l b = record { done_adds = suc k; adds_most = l; in_bounds = b }
added_underway measure space f n m k left past (turned_down i s) l b = held_later n (suc k) m s.cache (omega arith) b.stood.held

module _ (measure : List Bool → ℕ) (space : ℕ) (f : File) where
  pub held_steps : (m : ℕ) → StepsKept measure space f (Underway (length f.pairs) m) (λ s. Held (length f.pairs) m s.cache)
  held_steps m = record {
    stop_kept = λ left past s h. held_later (length f.pairs) h.done_adds m s.cache (omega (arith, h.adds_most)) h.in_bounds.stood.held;
    add_kept = λ g left past s k w l h.
        added_underway measure space f (length f.pairs) m h.done_adds left (past ++ s ∷ [])
        (add_handle measure space f g s) (omega (arith, h.adds_most))
        (in_bounds_add (find_in measure) (room_in space) (length f.pairs) h.done_adds past (unfolded f g) s (unfolded_under f g) h.in_bounds);
    restore_kept = λ i left past u s q h. record {
      done_adds = h.done_adds;
      adds_most = h.adds_most;
      in_bounds = in_bounds_restore (length f.pairs) h.done_adds i past u s q h.in_bounds;
    };
    forget_kept = λ i left past u s q h. record {
      done_adds = h.done_adds;
      adds_most = h.adds_most;
      in_bounds = in_bounds_forget (length f.pairs) h.done_adds i past u s q h.in_bounds;
    };
  }

  -- The cache where a run ends, from a session after k adds.
  pub run_held : (steps : List Step) (st : State) (k : ℕ) → InBounds (length f.pairs) k st.past st.now
      → Held (length f.pairs) (k + adds steps) (run_steps measure space f steps st).last.cache
  run_held steps st k h =
      run_kept measure space f (Underway (length f.pairs) (k + adds steps)) (λ t. Held (length f.pairs) (k + adds steps) t.cache)
      (held_steps (k + adds steps)) steps st (record { done_adds = k; adds_most = omega arith; in_bounds = h })

  module _ (steps : List Step) (pairs_few : length f.pairs ≤ 1024) (few : adds steps ≤ 1024) where
    abbrev end_cache : Cache
    end_cache = (run_steps measure space f steps at_start).last.cache

    end_held : Held (length f.pairs) (0 + adds steps) end_cache
    end_held = run_held steps at_start 0 (in_bounds_start (length f.pairs))

    -- With at most 1,024 pairs and 1,024 adds: 3,072 entries, 2,048 parents and 1,024 handles.
    pub run_entries : length end_cache.entries ≤ 3072
    run_entries = omega (arith, held_entries (length f.pairs) (0 + adds steps) end_cache end_held)

    pub run_parents : all_parents end_cache.entries ≤ 2048
    run_parents = omega (arith, held_parents (length f.pairs) (0 + adds steps) end_cache end_held)

    pub run_mapped : length end_cache.mapped ≤ 1024
    run_mapped = omega (arith, held_mapped (length f.pairs) (0 + adds steps) end_cache end_held)

    pub run_bounded : Bounded (length f.pairs) end_cache
    run_bounded = end_held.bounded

    -- Undo included: the entries and parents of an undone add stay.
    pub run_entry_numbers : EntryNumbersFit end_cache
    run_entry_numbers =
        let most : length end_cache.entries ≤ 4096 = omega (arith, run_entries) in
        record { entries_fit = most; parents_fit = all_parents_fit (length end_cache.entries) most end_cache.entries run_bounded.parents_ok }
