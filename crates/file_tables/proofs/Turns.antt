-- What a turn of the loader stores, and that the tables rest on the bytes of the atoms alone.
-- Assumes nothing.
use Rattle.std.proofs.Common.{◌≡◌, ℕ, ◌+◌, ◌*◌, ◌<◌, ◌≤◌, List, [], ◌∷◌, length, sym, refl, ap, ◌∙◌, arith}
use native.Mathlib.Decide.{ℕ_discrete}
use Rattle.words.specs.Words.{at}
use Rattle.words.proofs.Words.{Store, stores, Misses, miss, hits, length_stores}
use Rattle.atom.specs.Write.{serialized_length}
use Rattle.work_layout.specs.Layout.{ATOMS, FIRST, ATOM_LENGTHS, ATOM_HEADS, ATOM_NEXT}
use Rattle.work_layout.specs.Rows.{prev}
use Rattle.work_layout.specs.Prev.{prev_same, prev_here, prev_past}
use Rattle.work_layout.specs.Rows.{atom_bytes}
use Rattle.file_tables.specs.Listed.{Inside, slot_of}
use Rattle.file_tables.proofs.listed_atoms.Slots.{slot_low}
use Rattle.file_tables.specs.Load.{Ready, Kept, Loaded}
use Rattle.file_tables.specs.Chains.{first_of, chain_of, Loading}
use Rattle.file_tables.proofs.First.{first_among, first_of_same}
use Rattle.file_tables.proofs.Chains.{chain_first, chain_none, chain_same}

-- ---- one atom more

module _ {b : ℕ → List ℕ} {w : List ℕ} {i s first size : ℕ} (L : Loading b w i) (room : i < 1024) (hs : s ≡ slot_of (b i))
    (hf : first ≡ first_of b i) (hz : size ≡ serialized_length (b i)) where
  s_low : s < 1024
  s_low = omega (arith, slot_low (b i))

  -- Another atom has the same bytes before: two words are stored.
  module _ (ne : first ≡ i → ⊥) where
    abbrev two : List Store
    two = record { to = FIRST + i; word = first } ∷ record { to = ATOM_LENGTHS + i; word = size } ∷ []

    pub known_turn : Loading b (stores w two) (i + 1) × Kept w (stores w two)
    known_turn = (
      record {
        long = omega (arith, length_stores two w, L.long);
        few = omega arith;
        firsts = λ k l. firsts k l (ℕ_discrete k i);
        lengths = λ k l. lengths k l (ℕ_discrete k i);
        heads = λ t l. miss two w (ATOM_HEADS + t) (omega arith) ∙ L.heads t l ∙ sym (prev_past (chain_of b) t i (λ q. apart t l q));
        nexts = λ k l f. nexts k l f (ℕ_discrete k i);
      },
      record { low = λ k h. miss two w k (omega arith); high = λ k h. miss two w k (omega arith) },
    )
      where
        firsts : (k : ℕ) → k < i + 1 → Dec (k ≡ i) → at (stores w two) (FIRST + k) ≡ first_of b k
        firsts k l (yes q) = rw q (hits two 0 w (omega arith) (omega (arith, L.long)) (omega arith) ∙ hf)
        firsts k l (no q) = miss two w (FIRST + k) (omega arith) ∙ L.firsts k (omega arith)

        lengths : (k : ℕ) → k < i + 1 → Dec (k ≡ i) → at (stores w two) (ATOM_LENGTHS + k) ≡ serialized_length (b k)
        lengths k l (yes q) = rw q (hits two 1 w (omega arith) (omega (arith, L.long)) tt ∙ hz)
        lengths k l (no q) = miss two w (ATOM_LENGTHS + k) (omega arith) ∙ L.lengths k (omega arith)

        apart : (t : ℕ) → t < 1024 → chain_of b i ≡ t → ⊥
        apart t l q = omega (arith, chain_none b i (λ f. ne (hf ∙ f)))

        nexts : (k : ℕ) → k < i + 1 → first_of b k ≡ k → Dec (k ≡ i) → at (stores w two) (ATOM_NEXT + k) ≡ prev (chain_of b) (slot_of (b k)) k
        nexts k l f (yes q) = absurd (ne (hf ∙ ap (first_of b) (sym q) ∙ f ∙ q))
        nexts k l f (no q) = miss two w (ATOM_NEXT + k) (omega arith) ∙ L.nexts k (omega arith) f

  -- It is the first one with its bytes, and goes to the front of its chain.
  module _ (e : first ≡ i) where
    abbrev four : List Store
    four =
        record { to = FIRST + i; word = first } ∷
        record { to = ATOM_LENGTHS + i; word = size } ∷
        record { to = ATOM_NEXT + i; word = at w (ATOM_HEADS + s) } ∷
        record { to = ATOM_HEADS + s; word = i + 1 } ∷
        []

    other : (k : ℕ) → Misses k four → at (stores w four) k ≡ at w k
    other k m = miss four w k m

    -- Atom i is in chain s.
    here : chain_of b i ≡ s
    here = chain_first b i (sym hf ∙ e) ∙ sym hs

    pub new_turn : Loading b (stores w four) (i + 1) × Kept w (stores w four)
    new_turn = (
      record {
        long = omega (arith, length_stores four w, L.long);
        few = omega arith;
        firsts = λ k l. firsts k l (ℕ_discrete k i);
        lengths = λ k l. lengths k l (ℕ_discrete k i);
        heads = λ t l. heads t l (ℕ_discrete t s);
        nexts = λ k l f. nexts k l f (ℕ_discrete k i);
      },
      record { low = λ k h. let z = s_low in other k (omega arith); high = λ k h. let z = s_low in other k (omega arith) },
    )
      where
        firsts : (k : ℕ) → k < i + 1 → Dec (k ≡ i) → at (stores w four) (FIRST + k) ≡ first_of b k
        firsts k l (yes q) = let z = s_low in rw q (hits four 0 w (omega arith) (omega (arith, L.long)) (omega arith) ∙ hf)
        firsts k l (no q) = let z = s_low in other (FIRST + k) (omega arith) ∙ L.firsts k (omega arith)

        lengths : (k : ℕ) → k < i + 1 → Dec (k ≡ i) → at (stores w four) (ATOM_LENGTHS + k) ≡ serialized_length (b k)
        lengths k l (yes q) = let z = s_low in rw q (hits four 1 w (omega arith) (omega (arith, L.long)) (omega arith) ∙ hz)
        lengths k l (no q) = let z = s_low in other (ATOM_LENGTHS + k) (omega arith) ∙ L.lengths k (omega arith)

        heads : (t : ℕ) → t < 1024 → Dec (t ≡ s) → at (stores w four) (ATOM_HEADS + t) ≡ prev (chain_of b) t (i + 1)
        heads t l (yes q) = let z = s_low in rw q (hits four 3 w (omega arith) (omega (arith, L.long)) tt ∙ sym (prev_here (chain_of b) s i here))
        heads t l (no q) = other (ATOM_HEADS + t) (omega arith) ∙ L.heads t l ∙ sym (prev_past (chain_of b) t i (λ p. q (sym p ∙ here)))

        nexts : (k : ℕ) → k < i + 1 → first_of b k ≡ k → Dec (k ≡ i) → at (stores w four) (ATOM_NEXT + k) ≡ prev (chain_of b) (slot_of (b k)) k
        nexts k l f (yes q) = let z = s_low in rw (q, ← hs) (hits four 2 w (omega arith) (omega (arith, L.long)) (omega arith) ∙ L.heads s s_low)
        nexts k l f (no q) = let z = s_low in other (ATOM_NEXT + k) (omega arith) ∙ L.nexts k (omega arith) f

-- ---- all atoms

-- The tables rest on the bytes of the atoms that are loaded.
loading_same : (b b' : ℕ → List ℕ) (w : List ℕ) (i : ℕ) → ((k : ℕ) → k < i → b' k ≡ b k) → Loading b w i → Loading b' w i
loading_same b b' w i h L =
    record {
      long = L.long;
      few = L.few;
      firsts = λ k l. L.firsts k l ∙ sym (firsts k l);
      lengths = λ k l. L.lengths k l ∙ ap serialized_length (sym (h k l));
      heads = λ s l. L.heads s l ∙ sym (prevs s i (omega arith));
      nexts = λ k l f. L.nexts k l (sym (firsts k l) ∙ f) ∙ rw (h k l, prevs (slot_of (b k)) k (omega arith));
    }
  where
    firsts : (k : ℕ) → k < i → first_of b' k ≡ first_of b k
    firsts k l = first_of_same b b' k (λ j m. h j (omega arith))

    prevs : (s n : ℕ) → n ≤ i → prev (chain_of b') s n ≡ prev (chain_of b) s n
    prevs s n l = prev_same (chain_of b') (chain_of b) s n (λ k m. chain_same b b' k (λ j q. h j (omega arith)))

-- The words that say where the atoms lie are kept, and so are their bytes.
bytes_kept : (file w w' : List ℕ) (k : ℕ) → Kept w w' → k < 1024 → atom_bytes file w' k ≡ atom_bytes file w k
unfolding atom_bytes
bytes_kept file w w' k K l = rw (K.low (ATOMS + 2 * k) (omega arith), K.low (ATOMS + 2 * k + 1) (omega arith))

kept_on : (w w' w'' : List ℕ) → Kept w w' → Kept w' w'' → Kept w w''
kept_on w w' w'' K M = record { low = λ k h. M.low k h ∙ K.low k h; high = λ k h. M.high k h ∙ K.high k h }

-- The first i of the atoms are loaded, from the words w on.
pub record Progress (file w w' : List ℕ) (i : ℕ) : Type 0 where
  pub loading : Loading (atom_bytes file w) w' i
  pub kept : Kept w w'

module _ (file w : List ℕ) (count : ℕ) (R : Ready file w count) where
  pub none_yet : Progress file w w 0
  unfolding prev
  none_yet =
      record {
        loading = record {
          long = R.long;
          few = omega arith;
          firsts = λ k l. absurd (omega arith);
          lengths = λ k l. absurd (omega arith);
          heads = R.heads;
          nexts = λ k l f. absurd (omega arith);
        };
        kept = record { low = λ k h. refl; high = λ k h. refl };
      }

  module _ (w' : List ℕ) (i : ℕ) (P : Progress file w w' i) where
    pub load_asks : i < count → (i < 1024) × (length file ≤ 65535) × Loading (atom_bytes file w') w' i
    load_asks l =
        let few = R.few in
        (omega arith, R.short, loading_same (atom_bytes file w) (atom_bytes file w') w' i (λ k m. bytes_kept file w w' k P.kept (omega arith)) P.loading)

    pub inside_asks : i < count → (k : ℕ) → k < i + 1 → Inside file w' k
    inside_asks l k m =
        let few = R.few in
        rw (P.kept.low (ATOMS + 2 * k) (omega arith), P.kept.low (ATOMS + 2 * k + 1) (omega arith)) (R.inside k (omega arith))

    pub load_more : (w'' : List ℕ) → i < count → Loading (atom_bytes file w') w'' (i + 1) × Kept w' w'' → Progress file w w'' (i + 1)
    load_more w'' l M =
        let few = R.few in
        record {
          loading = loading_same (atom_bytes file w') (atom_bytes file w) w'' (i + 1) (λ k m. sym (bytes_kept file w w' k P.kept (omega arith))) M.0;
          kept = kept_on w w' w'' P.kept M.1;
        }

    pub all_loaded : i ≤ count → count ≤ i → Loaded file w w' count
    all_loaded l m =
        record {
          firsts = λ k h. P.loading.firsts k (omega arith) ∙ sym (first_among (atom_bytes file w) count k h);
          lengths = λ k h. P.loading.lengths k (omega arith);
          kept = P.kept;
        }
