-- What holds of the store's reader after every item: its stacks fit, its counts are bounded by the bytes used, its handles name what is there.
-- Sound holds at the start and is kept by `ff`, by an atom, by a path and by a join.
use Rattle.std.specs.Prelude.{ℕ, zero, suc, ◌+◌, ◌*◌, ◌^◌, ◌≤◌, ◌<◌, ◌≡◌, refl, Bool, true, false, List, [], ◌∷◌, ◌++◌, length}
use Rattle.std.proofs.Common.{ap, subst, arith, length-append}
use Rattle.std.proofs.Math.Option.{Option, none, some}
use Rattle.words.specs.Words.{at}
use Rattle.words.specs.Lists.{All, all_append, all_map, all_at}
use Rattle.allocator.specs.Handle.{Node, pair, listed_atom, small_atom, unknown, node_of, handle_of, nil}
use Rattle.allocator.specs.HandleLaws.{node_of_pair, node_of_listed_atom, node_of_small_atom, handle_of_node_of}
use Rattle.allocator.specs.SmallAtom.{fits_in_small_atom}
use Rattle.allocator.specs.SmallAtomLaws.{fits_some}
use Rattle.spec_reading.specs.Format.{ParseOp, SExp, Cons}
use Rattle.spec_reading.specs.Store.{Store, Made, Value, Stored, Led, Listed, pair_count, atom_count, nothing_stored, new_pair, new_listed}
use Rattle.spec_reading.specs.Store.{small_or_listed, push_made, remove_ghost, join_values, pick_word, walk, node_handle, add_to_list, list_of}
use Rattle.spec_reading.specs.Store.{lead, push_led, store_values}
use Rattle.spec_reading.specs.Sound.{Fits, Holds, Known, KnownHandle, KnownOption, KnownValue, Sound, unlisted}

-- ---- what is left to do

-- ---- handles

-- ---- soundness

-- ---- laws

pub sound_start : Sound 0 (SExp ∷ []) nothing_stored
sound_start =
    record {
      fits = refl;
      ops_bound = omega arith;
      values_bound = omega arith;
      pairs_bound = omega arith;
      atoms_bound = omega arith;
      bytes_bound = omega arith;
      holds = record { pairs_even = refl; atoms_even = refl; ghosts_enough = omega arith; values_known = tt; words_known = tt };
    }

-- `ff`: two trees are to come, then a join.
pub sound_pair : (used : ℕ) (ops : List ParseOp) (s : Stored) → Sound used (SExp ∷ ops) s → Sound (used + 1) (SExp ∷ SExp ∷ Cons ∷ ops) s
sound_pair used ops s h =
    record {
      fits = h.fits;
      ops_bound = omega arith;
      values_bound = omega arith;
      pairs_bound = omega arith;
      atoms_bound = omega arith;
      bytes_bound = omega arith;
      holds = h.holds;
    }

-- A join finds two values.
pub fits_two : (ops : List ParseOp) (k : ℕ) → Fits (Cons ∷ ops) k → 2 ≤ k
fits_two ops zero h = absurd h
fits_two ops (suc zero) h = absurd h
fits_two ops (suc (suc k)) h = omega arith

pub sound_two : (used : ℕ) (ops : List ParseOp) (s : Stored) → Sound used (Cons ∷ ops) s → 2 ≤ length s.values
sound_two used ops s h = fits_two ops (length s.values) h.fits

-- ---- handles stay known in a store with more

pub known_more : (p a p' a' : ℕ) → p ≤ p' → a ≤ a' → (n : Node) → Known p a n → Known p' a' n
known_more p a p' a' h k (pair i) m = omega arith
known_more p a p' a' h k (listed_atom i) m = omega arith
known_more p a p' a' h k (small_atom v) m = tt
known_more p a p' a' h k (unknown j i) m = m

option_more : (p a p' a' : ℕ) → p ≤ p' → a ≤ a' → (o : Option ℕ) → KnownOption p a o → KnownOption p' a' o
option_more p a p' a' h k none m = tt
option_more p a p' a' h k (some n) m = known_more p a p' a' h k (node_of n) m

pub value_more : (p a p' a' : ℕ) → p ≤ p' → a ≤ a' → (v : Value) → KnownValue p a v → KnownValue p' a' v
value_more p a p' a' h k v m =
    record { node_known = known_more p a p' a' h k (node_of v.node) m.node_known; list_known = option_more p a p' a' h k v.list m.list_known }

pub values_more : (p a p' a' : ℕ) → p ≤ p' → a ≤ a' → (vs : List Value) → All (KnownValue p a) vs → All (KnownValue p' a') vs
values_more p a p' a' h k vs m = all_map (KnownValue p a) (KnownValue p' a') (value_more p a p' a' h k) vs m

pub words_more : (p a p' a' : ℕ) → p ≤ p' → a ≤ a' → (ws : List ℕ) → All (KnownHandle p a) ws → All (KnownHandle p' a') ws
words_more p a p' a' h k ws m = all_map (KnownHandle p a) (KnownHandle p' a') (λ w. known_more p a p' a' h k (node_of w)) ws m

-- A new node's handle is known where its index is.
pub known_pair : (p a i : ℕ) → i < 2 ^ 26 → i < p → KnownHandle p a (handle_of (pair i))
known_pair p a i l h = rw (node_of_pair i l) h

pub known_small : (p a v : ℕ) → v < 2 ^ 26 → KnownHandle p a (handle_of (small_atom v))
known_small p a v l = rw (node_of_small_atom v l) tt

pub known_nil : (p a : ℕ) → KnownHandle p a (handle_of nil)
known_nil p a = known_small p a 0 (omega arith)

-- Two words more are one pair or one atom more.
pub two_more : (ws : List ℕ) (x y : ℕ) → length (ws ++ x ∷ y ∷ []) ≡ length ws + 2
two_more ws x y = length-append ws (x ∷ y ∷ [])

-- ---- a join

-- A pair of two known nodes is added.
pub record PairMade (vs : List Value) (s : Store) (m : Made) : Type 0 where
  pub holds : Holds vs m.store
  pub one_more : pair_count m.store ≡ pair_count s + 1
  pub pair_known : KnownHandle (pair_count m.store) (atom_count m.store) m.node

pub new_pair_holds : (vs : List Value) (s : Store) (l r : ℕ) → Holds vs s → pair_count s < 2 ^ 26
    → KnownHandle (pair_count s) (atom_count s) l → KnownHandle (pair_count s) (atom_count s) r → PairMade vs s (new_pair l r s)
new_pair_holds vs s l r h small kl kr =
    record {
      holds =
          record {
            pairs_even = omega (arith, h.pairs_even, two_more s.pairs l r);
            atoms_even = h.atoms_even;
            ghosts_enough = h.ghosts_enough;
            values_known = values_more p a p' a more (omega arith) vs h.values_known;
            words_known =
                all_append (KnownHandle p' a) s.pairs (l ∷ r ∷ []) (words_more p a p' a more (omega arith) s.pairs h.words_known)
                (known_more p a p' a more (omega arith) (node_of l) kl, (known_more p a p' a more (omega arith) (node_of r) kr, tt));
          };
      one_more = one;
      pair_known = known_pair p' a p small (omega (arith, one));
    }
  where
    p : ℕ
    p = pair_count s

    a : ℕ
    a = atom_count s

    p' : ℕ
    p' = pair_count (new_pair l r s).store

    one : pair_count (new_pair l r s).store ≡ pair_count s + 1
    one = omega (arith, two_more s.pairs l r)

    more : p ≤ p'
    more = omega (arith, one)

-- A known node is pushed, with its ghost pair.
pub push_holds : (vs : List Value) (s : Store) (n : ℕ) → Holds vs s → KnownHandle (pair_count s) (atom_count s) n
    → Holds (push_made (record { node = n; store = s }) vs).values (push_made (record { node = n; store = s }) vs).store
push_holds vs s n h k =
    record {
      pairs_even = h.pairs_even;
      atoms_even = h.atoms_even;
      ghosts_enough = omega (arith, h.ghosts_enough);
      values_known = (record { node_known = k; list_known = tt }, h.values_known);
      words_known = h.words_known;
    }

pub below_holds : (v : Value) (vs : List Value) (s : Store) → Holds (v ∷ vs) s → Holds vs s
below_holds v vs s h =
    record {
      pairs_even = h.pairs_even;
      atoms_even = h.atoms_even;
      ghosts_enough = omega (arith, h.ghosts_enough);
      values_known = h.values_known.1;
      words_known = h.words_known;
    }

join_sound : (used : ℕ) (ops : List ParseOp) (vs : List Value) (s : Store) → used ≤ 65535
    → Sound used (Cons ∷ ops) (record { values = vs; store = s }) → Sound used ops (join_values vs s)
join_sound used ops [] s m h = absurd h.fits
join_sound used ops (v ∷ []) s m h = absurd h.fits
join_sound used ops (r ∷ l ∷ vs) s m h =
    record {
      fits = h.fits;
      ops_bound = omega (arith, h.ops_bound);
      values_bound = omega (arith, h.values_bound);
      pairs_bound = omega (arith, h.pairs_bound, made.one_more);
      atoms_bound = h.atoms_bound;
      bytes_bound = h.bytes_bound;
      holds = push_holds vs m'.store m'.node made.holds made.pair_known;
    }
  where
    m' : Made
    m' = new_pair l.node r.node s

    made : PairMade vs s m'
    made =
        new_pair_holds vs s l.node r.node (below_holds l vs s (below_holds r (l ∷ vs) s h.holds)) (omega (arith, h.pairs_bound))
        h.holds.values_known.1.0.node_known h.holds.values_known.0.node_known

pub sound_join : (used : ℕ) (ops : List ParseOp) (s : Stored) → used ≤ 65535 → Sound used (Cons ∷ ops) s → Sound used ops (store_values.join s)
sound_join used ops s m h = join_sound used ops s.values s.store m h

-- ---- an atom

module _ (used n : ℕ) (ops : List ParseOp) (b : List ℕ) (s : Stored) (some_byte : 1 ≤ n) (blob : length b ≤ n) (limit : used + n ≤ 65535) (h : Sound used (SExp ∷ ops) s) where
  atom_sound : (o : Option ℕ) → fits_in_small_atom b ≡ o → Sound (used + n) ops (push_made (small_or_listed o b s.store) s.values)
  atom_sound (some v) e =
      record {
        fits = h.fits;
        ops_bound = omega (arith, h.ops_bound);
        values_bound = omega (arith, h.values_bound);
        pairs_bound = omega (arith, h.pairs_bound);
        atoms_bound = omega (arith, h.atoms_bound);
        bytes_bound = omega (arith, h.bytes_bound);
        holds = push_holds s.values s.store (handle_of (small_atom v)) h.holds (known_small _ _ v (fits_some b v e).0);
      }
  atom_sound none e =
      record {
        fits = h.fits;
        ops_bound = omega (arith, h.ops_bound);
        values_bound = omega (arith, h.values_bound);
        pairs_bound = omega (arith, h.pairs_bound);
        atoms_bound = omega (arith, h.atoms_bound, one);
        bytes_bound = omega (arith, h.bytes_bound, length-append s.store.bytes b);
        holds = push_holds s.values m.store m.node listed (rw (node_of_listed_atom (atom_count s.store) (omega (arith, h.atoms_bound))) (omega (arith, one)));
      }
    where
      m : Made
      m = new_listed b s.store

      p : ℕ
      p = pair_count s.store

      a : ℕ
      a = atom_count s.store

      a' : ℕ
      a' = atom_count m.store

      one : atom_count m.store ≡ atom_count s.store + 1
      one = omega (arith, two_more s.store.atoms (length s.store.bytes) (length s.store.bytes + length b))

      more : a ≤ a'
      more = omega (arith, one)

      listed : Holds s.values m.store
      listed =
          record {
            pairs_even = h.holds.pairs_even;
            atoms_even = omega (arith, h.holds.atoms_even, two_more s.store.atoms (length s.store.bytes) (length s.store.bytes + length b));
            ghosts_enough = h.holds.ghosts_enough;
            values_known = values_more p a p a' (omega arith) more s.values h.holds.values_known;
            words_known = words_more p a p a' (omega arith) more s.store.pairs h.holds.words_known;
          }

  -- An atom of n bytes with its prefix.
  pub sound_atom : Sound (used + n) ops (store_values.push_atom b s)
  sound_atom = atom_sound (fits_in_small_atom b) refl

-- ---- a path

-- What a path does to values and store: lists are built and cached, a pair for a ghost pair each.
pub record Relisted (vs : List Value) (s : Store) (vs' : List Value) (s' : Store) : Type 0 where
  pub holds : Holds vs' s'
  pub same_length : length vs' ≡ length vs
  pub same_atoms : s'.atoms ≡ s.atoms
  pub same_bytes : s'.bytes ≡ s.bytes
  pub more_pairs : pair_count s ≤ pair_count s'
  pub total : pair_count s' + s'.ghosts ≡ pair_count s + s.ghosts
  pub ghosts_gone : unlisted vs + s'.ghosts ≡ unlisted vs' + s.ghosts

relisted_none : (vs : List Value) (s : Store) → Holds vs s → Relisted vs s vs s
relisted_none vs s h =
    record { holds = h; same_length = refl; same_atoms = refl; same_bytes = refl; more_pairs = omega arith; total = refl; ghosts_gone = refl }

-- A value above stays as it is.
relisted_above : (v : Value) (vs : List Value) (s : Store) (vs' : List Value) (s' : Store) → Holds (v ∷ vs) s → Relisted vs s vs' s' → Relisted (v ∷ vs) s (v ∷ vs') s'
relisted_above v vs s vs' s' h k =
    record {
      holds =
          record {
            pairs_even = k.holds.pairs_even;
            atoms_even = k.holds.atoms_even;
            ghosts_enough = omega (arith, k.ghosts_gone, h.ghosts_enough);
            values_known = (value_more (pair_count s) (atom_count s) (pair_count s') (atom_count s') k.more_pairs same v h.values_known.0, k.holds.values_known);
            words_known = k.holds.words_known;
          };
      same_length = ap suc k.same_length;
      same_atoms = k.same_atoms;
      same_bytes = k.same_bytes;
      more_pairs = k.more_pairs;
      total = k.total;
      ghosts_gone = omega (arith, k.ghosts_gone);
    }
  where
    same : atom_count s ≤ atom_count s'
    same = omega (arith, ap length k.same_atoms)

-- A value's list is cached, or is made of the value and the list below.
pub record Relist (vs : List Value) (s : Store) (l : Listed) : Type 0 where
  pub relisted : Relisted vs s l.values l.store
  pub list_known : KnownHandle (pair_count l.store) (atom_count l.store) l.node

relist_one : (o : Option ℕ) (n : ℕ) (vs : List Value) (s : Store) (l : Listed) → Holds (record { node = n; list = o } ∷ vs) s → pair_count s + s.ghosts < 2 ^ 26
    → Relist vs s l → Relist (record { node = n; list = o } ∷ vs) s (add_to_list o n l)
relist_one (some q) n vs s l h small k = record { relisted = r; list_known = r.holds.values_known.0.list_known }
  where
    r : Relisted (record { node = n; list = some q } ∷ vs) s (record { node = n; list = some q } ∷ l.values) l.store
    r = relisted_above (record { node = n; list = some q }) vs s l.values l.store h k.relisted
relist_one none n vs s l h small k =
    record {
      relisted =
          record {
            holds =
                record {
                  pairs_even = made.holds.pairs_even;
                  atoms_even = made.holds.atoms_even;
                  ghosts_enough = omega (arith, k.relisted.ghosts_gone, h.ghosts_enough);
                  values_known = (
                    record {
                      node_known =
                          known_more (pair_count s) (atom_count s) (pair_count m'.store) (atom_count m'.store) (omega (arith, k.relisted.more_pairs, made.one_more)) same
                          (node_of n) h.values_known.0.node_known;
                      list_known = made.pair_known;
                    },
                    made.holds.values_known,
                  );
                  words_known = made.holds.words_known;
                };
            same_length = ap suc k.relisted.same_length;
            same_atoms = k.relisted.same_atoms;
            same_bytes = k.relisted.same_bytes;
            more_pairs = omega (arith, k.relisted.more_pairs, made.one_more);
            total = omega (arith, k.relisted.total, made.one_more, k.relisted.ghosts_gone, h.ghosts_enough);
            ghosts_gone = omega (arith, k.relisted.ghosts_gone, h.ghosts_enough);
          };
      list_known = made.pair_known;
    }
  where
    s' : Store
    s' = remove_ghost l.store

    m' : Made
    m' = new_pair n l.node s'

    same : atom_count s ≤ atom_count l.store
    same = omega (arith, ap length k.relisted.same_atoms)

    -- The store with one ghost pair less still has enough for the values below.
    less : Holds l.values s'
    less =
        record {
          pairs_even = k.relisted.holds.pairs_even;
          atoms_even = k.relisted.holds.atoms_even;
          ghosts_enough = omega (arith, k.relisted.ghosts_gone, h.ghosts_enough);
          values_known = k.relisted.holds.values_known;
          words_known = k.relisted.holds.words_known;
        }

    made : PairMade l.values s' m'
    made =
        new_pair_holds l.values s' n l.node less (omega (arith, k.relisted.total))
        (known_more (pair_count s) (atom_count s) (pair_count s') (atom_count s') k.relisted.more_pairs same (node_of n) h.values_known.0.node_known)
        k.list_known

pub relist : (vs : List Value) (s : Store) → Holds vs s → pair_count s + s.ghosts < 2 ^ 26 → Relist vs s (list_of vs s)
unfolding list_of
relist [] s h small = record { relisted = relisted_none [] s h; list_known = known_nil (pair_count s) (atom_count s) }
relist (v ∷ vs) s h small = relist_one v.list v.node vs s (list_of vs s) h small (relist vs s (below_holds v vs s h) small)

-- A walk from a known node comes to a known node.
abbrev pub KnownNode : (pairs atoms : ℕ) → Option Node → Type 0
KnownNode p a none = Unit {0}
KnownNode p a (some n) = KnownHandle p a (handle_of n)

pub walk_known : (s : Store) (bs : List Bool) (n : Node) → length s.pairs ≡ 2 * pair_count s → All (KnownHandle (pair_count s) (atom_count s)) s.pairs
    → node_of (handle_of n) ≡ n → Known (pair_count s) (atom_count s) n → KnownNode (pair_count s) (atom_count s) (walk s bs n)
unfolding walk
walk_known s [] n even ws e k = rw e k
walk_known s (b ∷ bs) (pair i) even ws e k =
    walk_known s bs (node_of (at s.pairs (2 * i + pick_word b))) even ws (ap node_of (handle_of_node_of (at s.pairs (2 * i + pick_word b))))
    (all_at (KnownHandle (pair_count s) (atom_count s)) s.pairs 0 (2 * i + pick_word b) ws (within b))
  where
    within : (b : Bool) → 2 * i + pick_word b < length s.pairs
    within false = omega arith
    within true = omega arith
walk_known s (b ∷ bs) (listed_atom i) even ws e k = tt
walk_known s (b ∷ bs) (small_atom v) even ws e k = tt
walk_known s (b ∷ bs) (unknown j i) even ws e k = tt

-- What a path leads to is known, in a store that holds all that was there.
pub record LedTo (vs : List Value) (s : Store) (l : Led) : Type 0 where
  pub relisted : Relisted vs s l.stored.values l.stored.store
  pub node_known : KnownOption (pair_count l.stored.store) (atom_count l.stored.store) l.node

handle_known : (p a : ℕ) (o : Option Node) → KnownNode p a o → KnownOption p a (node_handle o)
handle_known p a none k = tt
handle_known p a (some n) k = k

pub lead_known : (bs : List Bool) (vs : List Value) (s : Store) → Holds vs s → pair_count s + s.ghosts < 2 ^ 26 → LedTo vs s (lead bs vs s)
unfolding lead
lead_known bs [] s h small =
    record {
      relisted = relisted_none [] s h;
      node_known = handle_known (pair_count s) (atom_count s) (walk s bs nil) (walk_known s bs nil h.pairs_even h.words_known (node_of_small_atom 0 (omega arith)) tt);
    }
lead_known [] (v ∷ vs) s h small = let r = relist (v ∷ vs) s h small in record { relisted = r.relisted; node_known = r.list_known }
lead_known (true ∷ bs) (v ∷ vs) s h small =
    let r = lead_known bs vs s (below_holds v vs s h) small in
    record { relisted = relisted_above v vs s (lead bs vs s).stored.values (lead bs vs s).stored.store h r.relisted; node_known = r.node_known }
lead_known (false ∷ bs) (v ∷ vs) s h small =
    record {
      relisted = relisted_none (v ∷ vs) s h;
      node_known =
          handle_known (pair_count s) (atom_count s) (walk s bs (node_of v.node))
          (walk_known s bs (node_of v.node) h.pairs_even h.words_known (ap node_of (handle_of_node_of v.node)) h.values_known.0.node_known);
    }

-- The reader after a path, where it goes on.
abbrev pub SoundOption : (used : ℕ) (ops : List ParseOp) → Option Stored → Type 0
SoundOption used ops none = Unit {0}
SoundOption used ops (some s) = Sound used ops s

module _ (used n : ℕ) (ops : List ParseOp) (s : Stored) (some_byte : 1 ≤ n) (limit : used + n ≤ 65535) (h : Sound used (SExp ∷ ops) s) where
  push_led_sound : (o : Option ℕ) (t : Stored) → Relisted s.values s.store t.values t.store → KnownOption (pair_count t.store) (atom_count t.store) o
      → SoundOption (used + n) ops (push_led o t)
  push_led_sound none t r k = tt
  push_led_sound (some m) t r k =
      record {
        fits = rw r.same_length h.fits;
        ops_bound = omega (arith, h.ops_bound);
        values_bound = omega (arith, h.values_bound, r.same_length);
        pairs_bound = omega (arith, h.pairs_bound, r.total);
        atoms_bound = omega (arith, h.atoms_bound, ap length r.same_atoms);
        bytes_bound = omega (arith, h.bytes_bound, ap length r.same_bytes);
        holds = push_holds t.values t.store m r.holds k;
      }

  -- A reference of n bytes with its path: `fe` and the path's atom.
  pub sound_path : (path : Option (List Bool)) → SoundOption (used + n) ops (store_values.push_path path s)
  sound_path none = push_led_sound (some (handle_of nil)) s (relisted_none s.values s.store h.holds) (known_nil (pair_count s.store) (atom_count s.store))
  sound_path (some bits) =
      let l = lead_known bits s.values s.store h.holds (omega (arith, h.pairs_bound)) in
      push_led_sound (lead bits s.values s.store).node (lead bits s.values s.store).stored l.relisted l.node_known

  pub sound_path_some : (path : Option (List Bool)) (t : Stored) → store_values.push_path path s ≡ some t → Sound (used + n) ops t
  sound_path_some path t e = subst (λ (o : Option Stored). SoundOption (used + n) ops o) e (sound_path path)
