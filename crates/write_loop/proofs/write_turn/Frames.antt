-- What stays where only the open pairs, the stack, the marks and the search's words change.
-- Assumes nothing.
use Prim.Native.Nat.{ℕ, zero, suc, ◌+◌, ◌*◌, ◌/◌, ◌%◌, ◌≤◌, ◌<◌}
use mathlib.Core.Path.{◌≡◌, refl, sym, ap, ◌∙◌}
use mathlib.Core.List.{List}
use native.Mathlib.Omega.{arith}
use lib.ListN.{length}
use Rattle.words.specs.Words.{at}
use Rattle.spec_session.specs.File.{File}
use Rattle.spec_session.specs.Cache.{Cache}
use Rattle.work_layout.specs.Layout.{PAIRS, ATOM_COUNT, PAIR_COUNT, OPEN, STACK, MOVED, MAPS, SENTINEL_ENTRY, USED, SEEN, COPIES, ENTRIES}
use Rattle.work_layout.specs.Rows.{all_counts}
use Rattle.cache_stack.specs.Effects.{Stacked}
use Rattle.cache_entries.specs.Meaning.{entry_or_none, Tables, Names, Whole, Holds}
use Rattle.cache_entries.proofs.Frames.{tables_kept}
use Rattle.write_place.proofs.Frames.{places_kept, atoms_kept, whole_kept, holds_kept, all_counts_kept}
use Rattle.write_place.specs.State.{AtomPlaces, AtomsThere, todo_of, rights_left, Standing, WriterOnly}

pub only_both : (u v w : List ℕ) → WriterOnly u v → WriterOnly v w → WriterOnly u w
only_both u v w a b =
    record {
      low = λ k h. b.low k h ∙ a.low k h;
      cache = λ k h l. b.cache k h l ∙ a.cache k h l;
      high = λ k h. b.high k h ∙ a.high k h;
    }

pub only_same : (w : List ℕ) → WriterOnly w w
only_same w = record { low = λ k h. refl; cache = λ k h l. refl; high = λ k h. refl }

module _ (w w' : List ℕ) (len : length w' ≡ length w) (o : WriterOnly w w') (wh : Whole w) where
  entries_same : (k : ℕ) → USED ≤ k → k < SEEN → at w' k ≡ at w k
  entries_same k a b = o.cache k (omega arith) b

  maps_same : (k : ℕ) → k < 1024 → at w' (MAPS + k) ≡ at w (MAPS + k)
  maps_same k h = o.cache (MAPS + k) (omega arith) (omega arith)

  entry_same : at w' SENTINEL_ENTRY ≡ at w SENTINEL_ENTRY
  entry_same = o.cache SENTINEL_ENTRY (omega arith) (omega arith)

  pub whole_stays : Whole w'
  whole_stays = whole_kept w w' len o.low maps_same entries_same wh (omega (arith, entry_same, wh.sentinel_entry))

  pub counts_stay : all_counts w' ENTRIES ≡ all_counts w ENTRIES
  counts_stay = all_counts_kept w w' len o.low maps_same entries_same wh

  pub holds_stay : (f : File) (c : Cache) → Tables f w → Holds f w c → Holds f w' c
  holds_stay f c t ho =
      holds_kept w w' len o.low maps_same entries_same wh f c c.sentinel_entry t ho (ho.sentinel_entry ∙ ap entry_or_none (sym entry_same))

  pub tables_stay : (f : File) → Tables f w → Tables f w'
  tables_stay f t = tables_kept w w' o.low f wh.handles t

  pub pairs_stay : at w' PAIR_COUNT ≡ at w PAIR_COUNT
  pairs_stay = o.low PAIR_COUNT (omega arith)

  pub names_stay : (p q h : ℕ) → q ≡ p → Names w p h → Names w' q h
  names_stay p q h e n = rw (e, o.low ATOM_COUNT (omega arith)) n

  pub places_stay : (file : List ℕ) → AtomPlaces file w → AtomPlaces file w'
  places_stay file a = places_kept w w' o.low wh.handles.few_atoms file a

  pub atoms_stay : (file : List ℕ) (f : File) → Tables f w → AtomsThere file f w → AtomsThere file f w'
  atoms_stay file f t a = atoms_kept w w' o.low wh.handles.few_atoms file f t a

-- ---- the open pairs

pub todo_same : (f : File) (w w' : List ℕ) (n : ℕ) → ((k : ℕ) → k < OPEN → at w' k ≡ at w k) → ((i : ℕ) → i < n → at w' (OPEN + i) ≡ at w (OPEN + i))
    → ((i : ℕ) → i < n → at w (OPEN + i) / 2 < 1024) → todo_of f w' n ≡ todo_of f w n
unfolding todo_of
todo_same f w w' zero low same few = refl
todo_same f w w' (suc n) low same few =
    let i = few n (omega arith) in
    rw (
      same n (omega arith),
      low (PAIRS + 2 * (at w (OPEN + n) / 2) + 1) (omega arith),
      todo_same f w w' n low (λ i l. same i (omega arith)) (λ i l. few i (omega arith)),
    )

pub rights_same : (w w' : List ℕ) (n : ℕ) → ((i : ℕ) → i < n → at w' (OPEN + i) ≡ at w (OPEN + i)) → rights_left w' n ≡ rights_left w n
unfolding rights_left
rights_same w w' zero same = refl
rights_same w w' (suc n) same = rw (same n (omega arith), rights_same w w' n (λ i l. same i (omega arith)))

pub rights_few : (w : List ℕ) (n : ℕ) → rights_left w n ≤ n
unfolding rights_left
rights_few w zero = omega arith
rights_few w (suc n) = omega (arith, rights_few w n)

pub rights_more : (w : List ℕ) (n : ℕ) → rights_left w (suc n) ≡ at w (OPEN + n) % 2 + rights_left w n
unfolding rights_left
rights_more w n = refl

-- ---- the open pairs stay too

pub record Beside (w w' : List ℕ) : Type 0 where
  pub len : length w' ≡ length w
  pub low : (k : ℕ) → k < STACK → at w' k ≡ at w k
  pub cache : (k : ℕ) → MOVED ≤ k → k < SEEN → at w' k ≡ at w k
  pub high : (k : ℕ) → COPIES ≤ k → at w' k ≡ at w k

pub beside_only : (w w' : List ℕ) → Beside w w' → WriterOnly w w'
beside_only w w' b = record { low = λ k h. b.low k (omega arith); cache = b.cache; high = b.high }

pub beside_both : (u v w : List ℕ) → Beside u v → Beside v w → Beside u w
beside_both u v w a b =
    record {
      len = b.len ∙ a.len;
      low = λ k h. b.low k h ∙ a.low k h;
      cache = λ k h l. b.cache k h l ∙ a.cache k h l;
      high = λ k h. b.high k h ∙ a.high k h;
    }

pub pairs_few : (w : List ℕ) (opens d v : ℕ) → Standing w opens d v → (i : ℕ) → i < opens → at w (OPEN + i) / 2 < 1024
pairs_few w opens d v s i h = omega (arith, s.pairs i h, s.whole.handles.few_pairs)

module _ (w w' : List ℕ) (b : Beside w w') (opens d v : ℕ) (s : Standing w opens d v) where
  open_same : (i : ℕ) → i < opens → at w' (OPEN + i) ≡ at w (OPEN + i)
  open_same i h = b.low (OPEN + i) (omega (arith, s.few_opens))

  pub todo_stays : (f : File) → todo_of f w' opens ≡ todo_of f w opens
  todo_stays f = todo_same f w w' opens (λ k h. b.low k (omega arith)) open_same (pairs_few w opens d v s)

  pub standing_stays : (d' v' : ℕ) → Stacked w' d' → d' + v ≡ d + v' → Standing w' opens d' v'
  standing_stays d' v' st e =
      let o = beside_only w w' b in
      record {
        whole = whole_stays w w' b.len o s.whole;
        stacked = st;
        counts = omega (arith, counts_stay w w' b.len o s.whole, s.counts);
        few_opens = s.few_opens;
        pairs = λ i h. rw (open_same i h, pairs_stay w w' b.len o s.whole) (s.pairs i h);
        balance = omega (arith, rights_same w w' opens open_same, s.balance);
      }
