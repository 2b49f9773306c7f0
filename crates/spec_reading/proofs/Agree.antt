-- The store's reader and the plain reader agree on every input within the limit: the same refusal, or the same tree and the same count of pairs.
use Rattle.std.specs.Prelude.{ℕ, ◌+◌, ◌-◌, ◌*◌, ◌^◌, ◌≤◌, ◌<◌, ◌≡◌, refl, Bool, true, false, List, [], ◌∷◌, ◌++◌, length, take, drop}
use Rattle.std.proofs.Common.{sym, ap, ap₂, ◌∙◌, subst, append-nil, arith, length-append, get_or-append-add}
use Rattle.std.proofs.Math.Option.{Option, none, some}
use Rattle.std.proofs.lemmas.List.{get_or_at}
use Rattle.std.proofs.Math.Seq.{drop-append_seam, take-length}
use Rattle.words.specs.Words.{at, part}
use Rattle.words.specs.Lists.{Bytes}
use Rattle.allocator.specs.Handle.{Node, small_atom, node_of, handle_of, nil}
use Rattle.allocator.specs.HandleLaws.{node_of_pair, node_of_listed_atom, node_of_small_atom, handle_of_node_of}
use Rattle.allocator.specs.SmallAtom.{fits_in_small_atom}
use Rattle.allocator.specs.SmallAtomLaws.{fits_some}
use Rattle.spec_reading.specs.Tree.{Tree, atom, cons, follow, as_list}
use Rattle.spec_reading.specs.Format.{ParseOp, SExp, Cons, Read, accepted, turned_down}
use Rattle.spec_reading.specs.Plain.{Plain, no_trees, found, join_trees, plain_values, read_plain}
use Rattle.spec_reading.specs.Store.{Store, Value, Stored, Led, Listed, pair_count, atom_count, nothing_stored, new_pair, new_listed}
use Rattle.spec_reading.specs.Store.{small_or_listed, push_made, add_ghost, remove_ghost, join_values, walk, node_handle, add_to_list, list_of}
use Rattle.spec_reading.specs.Store.{lead, push_led, store_values, read_stored}
use Rattle.spec_reading.specs.Sound.{Holds, Sound}
use Rattle.spec_reading.proofs.Sound.{Relist, SoundOption, sound_start, sound_pair, sound_atom, sound_path, sound_join, relist, lead_known, below_holds, two_more}
use Rattle.spec_reading.specs.Names.{Names, small, listed, paired, NamesHandle, start_of, end_of, right_of}
use Rattle.spec_reading.proofs.Names.{names_nil, Extends, extends_refl, extends_trans, names_more}
use Rattle.spec_reading.proofs.Same.{BothOrNone, Alike, SameRead, read_same}
use Rattle.spec_reading.specs.Call.{root_of}

-- ---- values and trees

abbrev pub NamesOption : Store → Option ℕ → Tree → Type 0
NamesOption s none t = Unit {0}
NamesOption s (some h) t = NamesHandle s h t

-- The values name the trees in order, and each cached list names the list of the trees from there down.
abbrev pub NamesAll : Store → List Value → List Tree → Type 0
NamesAll s [] [] = Unit {0}
NamesAll s [] (t ∷ ts) = ⊥
NamesAll s (v ∷ vs) [] = ⊥
NamesAll s (v ∷ vs) (t ∷ ts) = NamesHandle s v.node t × NamesOption s v.list (as_list (t ∷ ts)) × NamesAll s vs ts

option_more : (s s' : Store) (o : Option ℕ) (t : Tree) → Extends s s' → NamesOption s o t → NamesOption s' o t
option_more s s' none t e n = tt
option_more s s' (some h) t e n = names_more s s' (node_of h) t e n

all_more : (s s' : Store) (vs : List Value) (ts : List Tree) → Extends s s' → NamesAll s vs ts → NamesAll s' vs ts
all_more s s' [] [] e n = tt
all_more s s' [] (t ∷ ts) e n = n
all_more s s' (v ∷ vs) [] e n = n
all_more s s' (v ∷ vs) (t ∷ ts) e n =
    (names_more s s' (node_of v.node) t e n.0, option_more s s' v.list (as_list (t ∷ ts)) e n.1, all_more s s' vs ts e n.2)

-- ---- what is made names what it is made of

ghosts_only : (s : Store) (g : ℕ) → Extends s (record { pairs = s.pairs; atoms = s.atoms; bytes = s.bytes; ghosts = g })
ghosts_only s g =
    record {
      pairs_added = [];
      atoms_added = [];
      bytes_added = [];
      pairs_are = sym (append-nil s.pairs);
      atoms_are = sym (append-nil s.atoms);
      bytes_are = sym (append-nil s.bytes);
    }

extends_pair : (s : Store) (l r : ℕ) → Extends s (new_pair l r s).store
extends_pair s l r =
    record {
      pairs_added = l ∷ r ∷ [];
      atoms_added = [];
      bytes_added = [];
      pairs_are = refl;
      atoms_are = sym (append-nil s.atoms);
      bytes_are = sym (append-nil s.bytes);
    }

first_of_two : (ws : List ℕ) (x y k : ℕ) → length ws ≡ k → at (ws ++ x ∷ y ∷ []) k ≡ x
first_of_two ws x y k e = get_or_at ws x (y ∷ []) 0 k e

second_of_two : (ws : List ℕ) (x y k : ℕ) → length ws ≡ k → at (ws ++ x ∷ y ∷ []) (k + 1) ≡ y
second_of_two ws x y k e = ap (λ (j : ℕ). at (ws ++ x ∷ y ∷ []) (j + 1)) (sym e) ∙ get_or-append-add ws (x ∷ y ∷ []) 1 0

pair_names : (s : Store) (l r : ℕ) (tl tr : Tree) → length s.pairs ≡ 2 * pair_count s → pair_count s < 2 ^ 26 → NamesHandle s l tl → NamesHandle s r tr
    → NamesHandle (new_pair l r s).store (new_pair l r s).node (cons tl tr)
pair_names s l r tl tr even low nl nr =
    rw (node_of_pair (pair_count s) low)
    (paired {i = pair_count s} (omega (arith, two_more s.pairs l r))
    (subst (λ (w : ℕ). Names s' (node_of w) tl) (sym (first_of_two s.pairs l r (2 * pair_count s) even)) (names_more s s' (node_of l) tl (extends_pair s l r) nl))
    (subst (λ (w : ℕ). Names s' (node_of w) tr) (sym (second_of_two s.pairs l r (2 * pair_count s) even)) (names_more s s' (node_of r) tr (extends_pair s l r) nr)))
  where
    s' : Store
    s' = (new_pair l r s).store

extends_listed : (s : Store) (b : List ℕ) → Extends s (new_listed b s).store
extends_listed s b =
    record {
      pairs_added = [];
      atoms_added = length s.bytes ∷ (length s.bytes + length b) ∷ [];
      bytes_added = b;
      pairs_are = sym (append-nil s.pairs);
      atoms_are = refl;
      bytes_are = refl;
    }

part_last : (xs ys : List ℕ) (i j : ℕ) → i ≡ length xs → j ≡ length xs + length ys → part (xs ++ ys) i (j - i) ≡ ys
unfolding part
part_last xs ys i j e f =
    ap₂ (λ (a b : ℕ). take b (drop a (xs ++ ys))) e n ∙ ap (take (length ys)) (drop-append_seam xs ys) ∙ take-length ys
  where
    n : j - i ≡ length ys
    n = omega arith

listed_names : (s : Store) (b : List ℕ) → length s.atoms ≡ 2 * atom_count s → atom_count s < 2 ^ 26 → NamesHandle (new_listed b s).store (new_listed b s).node (atom b)
listed_names s b even low =
    rw (node_of_listed_atom (atom_count s) low)
    (listed {i = atom_count s} (omega (arith, two_more s.atoms (length s.bytes) (length s.bytes + length b))) (omega (arith, starts, ends))
    (omega (arith, ends, length-append s.bytes b)) (part_last s.bytes b (start_of s' (atom_count s)) (end_of s' (atom_count s)) starts ends))
  where
    s' : Store
    s' = (new_listed b s).store

    starts : start_of s' (atom_count s) ≡ length s.bytes
    starts = first_of_two s.atoms (length s.bytes) (length s.bytes + length b) (2 * atom_count s) even

    ends : end_of s' (atom_count s) ≡ length s.bytes + length b
    ends = second_of_two s.atoms (length s.bytes) (length s.bytes + length b) (2 * atom_count s) even

-- ---- the walk and the lists

-- A walk in the store and a walk down the tree: both step into an atom, or both come to the same.
walk_follows : (s : Store) (bs : List Bool) (n : Node) (t : Tree) → node_of (handle_of n) ≡ n → Names s n t
    → BothOrNone (NamesHandle s) (node_handle (walk s bs n)) (follow bs t)
unfolding walk
walk_follows s [] n t e h = rw e h
walk_follows s (b ∷ bs) n t e (small x) = tt
walk_follows s (b ∷ bs) n t e (listed x y z w) = tt
walk_follows s (false ∷ bs) n t e (paired {i} {l} {r} h x y) =
    walk_follows s bs (node_of (at s.pairs (2 * i + 0))) l (ap node_of (handle_of_node_of (at s.pairs (2 * i + 0)))) (subst (λ (k : ℕ). Names s (node_of (at s.pairs k)) l) (omega arith) x)
walk_follows s (true ∷ bs) n t e (paired {i} {l} {r} h x y) =
    walk_follows s bs (node_of (right_of s i)) r (ap node_of (handle_of_node_of (right_of s i))) y

-- The list of the values names the list of their trees.
record ListNames (s : Store) (ts : List Tree) (l : Listed) : Type 0 where
  extends : Extends s l.store
  all_named : NamesAll l.store l.values ts
  list_named : NamesHandle l.store l.node (as_list ts)

list_names_one : (o : Option ℕ) (n : ℕ) (vs : List Value) (s : Store) (l : Listed) (t : Tree) (ts : List Tree) → pair_count s + s.ghosts < 2 ^ 26
    → Relist vs s l → NamesHandle s n t → NamesOption s o (as_list (t ∷ ts)) → ListNames s ts l → ListNames s (t ∷ ts) (add_to_list o n l)
list_names_one (some q) n vs s l t ts low k nt cached h =
    record { extends = h.extends; all_named = (names_more s l.store (node_of n) t h.extends nt, list, h.all_named); list_named = list }
  where
    list : NamesHandle l.store q (as_list (t ∷ ts))
    list = names_more s l.store (node_of q) (as_list (t ∷ ts)) h.extends cached
list_names_one none n vs s l t ts low k nt cached h =
    record { extends = extended; all_named = (names_more s u (node_of n) t extended nt, list, all_more l.store u l.values ts further h.all_named); list_named = list }
  where
    s' : Store
    s' = remove_ghost l.store

    u : Store
    u = (new_pair n l.node s').store

    less : Extends l.store s'
    less = ghosts_only l.store (l.store.ghosts - 1)

    further : Extends l.store u
    further = extends_trans l.store s' u less (extends_pair s' n l.node)

    extended : Extends s u
    extended = extends_trans s l.store u h.extends further

    list : NamesHandle u (new_pair n l.node s').node (as_list (t ∷ ts))
    list =
        pair_names s' n l.node t (as_list ts) k.relisted.holds.pairs_even (omega (arith, k.relisted.total))
        (names_more s s' (node_of n) t (extends_trans s l.store s' h.extends less) nt)
        (names_more l.store s' (node_of l.node) (as_list ts) less h.list_named)

list_names : (vs : List Value) (s : Store) (ts : List Tree) → Holds vs s → pair_count s + s.ghosts < 2 ^ 26 → NamesAll s vs ts → ListNames s ts (list_of vs s)
unfolding list_of
list_names [] s [] h low n = record { extends = extends_refl s; all_named = tt; list_named = rw (node_of_small_atom 0 (omega arith)) (names_nil s) }
list_names [] s (t ∷ ts) h low n = absurd n
list_names (v ∷ vs) s [] h low n = absurd n
list_names (v ∷ vs) s (t ∷ ts) h low n =
    list_names_one v.list v.node vs s (list_of vs s) t ts low (relist vs s (below_holds v vs s h) low) n.0 n.1
    (list_names vs s ts (below_holds v vs s h) low n.2)

-- A path leads to the same, from the values and from their trees as a list.
record LeadNames (s : Store) (ts : List Tree) (l : Led) (o : Option Tree) : Type 0 where
  extends : Extends s l.stored.store
  all_named : NamesAll l.stored.store l.stored.values ts
  leads : BothOrNone (NamesHandle l.stored.store) l.node o

lead_names : (bs : List Bool) (vs : List Value) (s : Store) (ts : List Tree) → Holds vs s → pair_count s + s.ghosts < 2 ^ 26 → NamesAll s vs ts
    → LeadNames s ts (lead bs vs s) (follow bs (as_list ts))
unfolding lead
lead_names bs [] s [] h low n =
    record { extends = extends_refl s; all_named = tt; leads = walk_follows s bs nil (atom []) (node_of_small_atom 0 (omega arith)) (names_nil s) }
lead_names bs [] s (t ∷ ts) h low n = absurd n
lead_names [] (v ∷ vs) s [] h low n = absurd n
lead_names [] (v ∷ vs) s (t ∷ ts) h low n =
    let r = list_names (v ∷ vs) s (t ∷ ts) h low n in
    record { extends = r.extends; all_named = r.all_named; leads = r.list_named }
lead_names (true ∷ bs) (v ∷ vs) s [] h low n = absurd n
lead_names (true ∷ bs) (v ∷ vs) s (t ∷ ts) h low n =
    let r = lead_names bs vs s ts (below_holds v vs s h) low n.2 in
    let s' = (lead bs vs s).stored.store in
    record {
      extends = r.extends;
      all_named = (names_more s s' (node_of v.node) t r.extends n.0, option_more s s' v.list (as_list (t ∷ ts)) r.extends n.1, r.all_named);
      leads = r.leads;
    }
lead_names (false ∷ bs) (v ∷ vs) s [] h low n = absurd n
lead_names (false ∷ bs) (v ∷ vs) s (t ∷ ts) h low n =
    record { extends = extends_refl s; all_named = n; leads = walk_follows s bs (node_of v.node) t (ap node_of (handle_of_node_of v.node)) n.0 }

-- ---- the two readers side by side

-- The values name the trees, and pairs and ghost pairs together are the pairs that the plain way makes.
pub record Agrees (used : ℕ) (ops : List ParseOp) (s : Stored) (p : Plain) : Type 0 where
  pub sound : Sound used ops s
  pub named : NamesAll s.store s.values p.trees
  pub counted : pair_count s.store + s.store.ghosts ≡ p.made

agrees_start : Agrees 0 (SExp ∷ []) nothing_stored no_trees
agrees_start = record { sound = sound_start; named = tt; counted = refl }

-- A node that names a tree is pushed.
push_names : (s : Store) (vs : List Value) (ts : List Tree) (n : ℕ) (t : Tree) → NamesHandle s n t → NamesAll s vs ts
    → NamesAll (add_ghost s) (push_made (record { node = n; store = s }) vs).values (t ∷ ts)
push_names s vs ts n t nt ns =
    (names_more s (add_ghost s) (node_of n) t (ghosts_only s (s.ghosts + 1)) nt, tt, all_more s (add_ghost s) vs ts (ghosts_only s (s.ghosts + 1)) ns)

join_names : (used : ℕ) (ops : List ParseOp) (vs : List Value) (s : Store) (ts : List Tree) (made : ℕ) → used ≤ 65535
    → Agrees used (Cons ∷ ops) (record { values = vs; store = s }) (record { trees = ts; made = made })
    → NamesAll (join_values vs s).store (join_values vs s).values (join_trees ts) × (pair_count (join_values vs s).store + (join_values vs s).store.ghosts ≡ made + 2)
join_names used ops [] s ts made m h = absurd h.sound.fits
join_names used ops (v ∷ []) s ts made m h = absurd h.sound.fits
join_names used ops (r ∷ l ∷ vs) s [] made m h = absurd h.named
join_names used ops (r ∷ l ∷ vs) s (tr ∷ []) made m h = absurd h.named.2
join_names used ops (r ∷ l ∷ vs) s (tr ∷ tl ∷ ts) made m h = (
  push_names u vs ts (new_pair l.node r.node s).node (cons tl tr)
      (pair_names s l.node r.node tl tr h.sound.holds.pairs_even (omega (arith, h.sound.pairs_bound)) h.named.2.0 h.named.0)
      (all_more s u vs ts (extends_pair s l.node r.node) h.named.2.2),
  omega (arith, h.counted, two_more s.pairs l.node r.node),
)
  where
    u : Store
    u = (new_pair l.node r.node s).store

agrees_join : (used : ℕ) (ops : List ParseOp) (s : Stored) (p : Plain) → used ≤ 65535 → Agrees used (Cons ∷ ops) s p
    → Agrees used ops (store_values.join s) (plain_values.join p)
agrees_join used ops s p m h =
    let j = join_names used ops s.values s.store p.trees p.made m h in
    record { sound = sound_join used ops s m h.sound; named = j.0; counted = j.1 }

-- An atom names its bytes.
atom_names : (vs : List Value) (s : Store) (ts : List Tree) (b : List ℕ) → Holds vs s → atom_count s < 2 ^ 26 → NamesAll s vs ts → (o : Option ℕ) → fits_in_small_atom b ≡ o
    → NamesAll (push_made (small_or_listed o b s) vs).store (push_made (small_or_listed o b s) vs).values (atom b ∷ ts)
    × (pair_count (push_made (small_or_listed o b s) vs).store + (push_made (small_or_listed o b s) vs).store.ghosts ≡ pair_count s + s.ghosts + 1)
atom_names vs s ts b h low n (some v) e =
    (push_names s vs ts (handle_of (small_atom v)) (atom b) (rw (node_of_small_atom v (fits_some b v e).0) (small (fits_some b v e).1)) n, omega arith)
atom_names vs s ts b h low n none e = (
  push_names (new_listed b s).store vs ts (new_listed b s).node (atom b) (listed_names s b h.atoms_even low)
      (all_more s (new_listed b s).store vs ts (extends_listed s b) n),
  omega arith,
)

agrees_atom : (used n : ℕ) (ops : List ParseOp) (b : List ℕ) (s : Stored) (p : Plain) → 1 ≤ n → length b ≤ n → used + n ≤ 65535
    → Agrees used (SExp ∷ ops) s p → Agrees (used + n) ops (store_values.push_atom b s) (plain_values.push_atom b p)
agrees_atom used n ops b s p one fit limit h =
    let a = atom_names s.values s.store p.trees b h.sound.holds (omega (arith, h.sound.atoms_bound)) h.named (fits_in_small_atom b) refl in
    record { sound = sound_atom used n ops b s one fit limit h.sound; named = a.0; counted = omega (arith, a.1, h.counted) }

-- A path: both readers refuse it, or both go on.
module _ (used n : ℕ) (ops : List ParseOp) (s : Stored) (p : Plain) (one : 1 ≤ n) (limit : used + n ≤ 65535) (h : Agrees used (SExp ∷ ops) s p) where
  push_agrees : (o : Option ℕ) (t : Stored) (q : Option Tree) → SoundOption (used + n) ops (push_led o t) → NamesAll t.store t.values p.trees
      → pair_count t.store + t.store.ghosts ≡ p.made → BothOrNone (NamesHandle t.store) o q → BothOrNone (Agrees (used + n) ops) (push_led o t) (found q p)
  push_agrees none t none k ns c r = tt
  push_agrees none t (some q) k ns c r = absurd r
  push_agrees (some m) t none k ns c r = absurd r
  push_agrees (some m) t (some q) k ns c r = record { sound = k; named = push_names t.store t.values p.trees m q r ns; counted = omega (arith, c) }

  agrees_path : (path : Option (List Bool)) → BothOrNone (Agrees (used + n) ops) (store_values.push_path path s) (plain_values.push_path path p)
  agrees_path none =
      push_agrees (some (handle_of nil)) s (some (atom [])) (sound_path used n ops s one limit h.sound none) h.named h.counted
      (rw (node_of_small_atom 0 (omega arith)) (names_nil s.store))
  agrees_path (some bits) =
      let low : pair_count s.store + s.store.ghosts < 2 ^ 26 = omega (arith, h.sound.pairs_bound) in
      let l = lead_names bits s.values s.store p.trees h.sound.holds low h.named in
      let k = lead_known bits s.values s.store h.sound.holds low in
      push_agrees (lead bits s.values s.store).node (lead bits s.values s.store).stored (follow bits (as_list p.trees))
      (sound_path used n ops s one limit h.sound (some bits)) l.all_named (k.relisted.total ∙ h.counted) l.leads

agree_alike : (total : ℕ) → total ≤ 65535 → Alike store_values plain_values Agrees total
agree_alike total m =
    record {
      pair_alike = λ used ops s p limit h. record { sound = sound_pair used ops s h.sound; named = h.named; counted = h.counted };
      atom_alike = λ used n ops b s p one fit limit bs h. agrees_atom used n ops b s p one fit (omega arith) h;
      path_alike = λ used n ops path s p one limit h. agrees_path used n ops s p one (omega arith) h path;
      join_alike = λ used ops s p limit h. agrees_join used ops s p (omega arith) h;
    }

pub read_agrees : (input : List ℕ) → Bytes input → length input ≤ 65535 → SameRead Agrees (length input) (read_stored input) (read_plain input)
read_agrees input bs m = read_same store_values plain_values Agrees input nothing_stored no_trees (agree_alike (length input) m) bs agrees_start

-- ---- for the whole input

-- The root names the one tree that was read plainly, and pairs and ghost pairs together are the pairs that the plain way makes.
pub record SameTree (s : Stored) (p : Plain) : Type 0 where
  pub tree : Tree
  pub only_tree : p.trees ≡ tree ∷ []
  pub root_named : NamesHandle s.store (root_of s.values) tree
  pub same_pairs : pair_count s.store + s.store.ghosts ≡ p.made

pub data ReadersAgree (input : List ℕ) : Type 0 where
  both_turned_down : (n : ℕ) → read_stored input ≡ turned_down n → read_plain input ≡ turned_down n → ReadersAgree input
  both_accepted : (s : Stored) (p : Plain) → read_stored input ≡ accepted s → read_plain input ≡ accepted p → SameTree s p → ReadersAgree input

one_tree : (s : Store) (vs : List Value) (ts : List Tree) → length vs ≡ 1 → NamesAll s vs ts → (t : Tree) × (ts ≡ t ∷ []) × NamesHandle s (root_of vs) t
one_tree s [] ts e n = absurd (omega arith)
one_tree s (v ∷ []) [] e n = absurd n
one_tree s (v ∷ []) (t ∷ []) e n = (t, refl, n.0)
one_tree s (v ∷ []) (t ∷ u ∷ us) e n = absurd n.2
one_tree s (v ∷ w ∷ vs) ts e n = absurd (omega arith)

-- On every input within the limit the store's reader and the plain reader agree.
pub readers_agree : (input : List ℕ) → Bytes input → length input ≤ 65535 → ReadersAgree input
readers_agree input bs m = both (read_stored input) (read_plain input) refl refl (read_agrees input bs m)
  where
    both : (x : Read Stored) (y : Read Plain) → read_stored input ≡ x → read_plain input ≡ y → SameRead Agrees (length input) x y → ReadersAgree input
    both (accepted s) (accepted p) e f h =
        let o = one_tree s.store s.values p.trees h.sound.fits h.named in
        both_accepted s p e f (record { tree = o.0; only_tree = o.1; root_named = o.2; same_pairs = h.counted })
    both (accepted s) (turned_down n) e f h = absurd h
    both (turned_down n) (accepted p) e f h = absurd h
    both (turned_down n) (turned_down k) e f h = both_turned_down n e (f ∙ ap turned_down (sym h))
