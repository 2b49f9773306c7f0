-- The words after the file's tables are loaded and all else is zero: they are whole, and hold the fresh cache.
-- Assumes nothing.
use Prim.Native.Nat.{ℕ, zero, suc, ◌+◌, ◌*◌, ◌≤◌, ◌<◌}
use mathlib.Core.Path.{◌≡◌, refl, sym, ap, ◌∙◌}
use mathlib.Core.Logic.{◌⊎◌, inl, inr}
use mathlib.Core.Bool.{Bool, true, false, cond}
use mathlib.Core.List.{List, [], ◌∷◌}
use mathlib.Core.Option.{Option, none, some}
use native.Mathlib.Omega.{arith}
use lib.Dec.{eqb}
use lib.ListN.{length, get_or}
use Rattle.words.specs.Lists.{same, same_refl}
use Rattle.words.specs.Words.{at, tabulate, WORK}
use Rattle.allocator.specs.Handle.{node_of}
use Rattle.spec_session.specs.File.{File, named}
use Rattle.spec_session.specs.Cache.{fresh}
use Rattle.work_layout.specs.Layout.{FIRST, PAIR_COUNT, SENTINEL, MAPS, SENTINEL_ENTRY, USED, COUNTS, HEADS, PARENTS, ENTRIES}
use Rattle.work_layout.specs.Rows.{rows_of, prev, Chained, Sound, all_counts}
use Rattle.spec_session.specs.Sentinel.{sentinel_word}
use Rattle.cache_entries.specs.Meaning.{first_same, no_pair, Tables, Handles, Names, unmapped, Whole, Holds}
use Rattle.cache_entries.proofs.Atoms.{first_found}

-- ---- the tables of a file are sound handles

-- What questions 5 and 7 let through: few atoms and pairs, and handles that name atoms and earlier pairs.
pub record Sorted (f : File) : Type 0 where
  pub few_atoms : length f.atoms ≤ 1024
  pub few_pairs : length f.pairs ≤ 1024
  pub lefts : (i : ℕ) → i < length f.pairs → named (length f.atoms) i (node_of (get_or f.pairs i no_pair).left) ≡ true
  pub rights : (i : ℕ) → i < length f.pairs → named (length f.atoms) i (node_of (get_or f.pairs i no_pair).right) ≡ true
  pub sentinel : (s : ℕ) → f.sentinel ≡ some s → named (length f.atoms) (length f.pairs) (node_of s) ≡ true

-- The first atom with the bytes of atom i stands at i at the latest.
first_low : (bs : List ℕ) (atoms : List (List ℕ)) (i : ℕ) → i < length atoms → get_or atoms i [] ≡ bs → first_same bs atoms ≤ i
first_low bs [] i h e = absurd (omega arith)
first_low bs (a ∷ atoms) zero h e = rw (ap (λ (x : List ℕ). same x bs) e ∙ same_refl bs) (omega arith)
first_low bs (a ∷ atoms) (suc i) h e = go (same a bs) (first_low bs atoms i (omega arith) e)
  where
    go : (b : Bool) → first_same bs atoms ≤ i → cond b 0 (suc (first_same bs atoms)) ≤ suc i
    go true l = omega arith
    go false l = omega arith

pub tables_handles : (f : File) (w : List ℕ) → Sorted f → Tables f w → Handles w
tables_handles f w s t =
    let a = t.atom_count in
    let p = t.pair_count in
    record {
      few_atoms = omega (arith, s.few_atoms);
      few_pairs = omega (arith, s.few_pairs);
      lefts = λ i l. let b : i < length f.pairs = omega arith in rw (a, t.lefts i b) (s.lefts i b);
      rights = λ i l. let b : i < length f.pairs = omega arith in rw (a, t.rights i b) (s.rights i b);
      firsts = λ i l.
          let b : i < length f.atoms = omega arith in
          let e = t.firsts i b in
          omega (arith, first_low (get_or f.atoms i []) f.atoms i b refl);
      first_first = λ i l.
          let b : i < length f.atoms = omega arith in
          let e = t.firsts i b in
          let n = first_low (get_or f.atoms i []) f.atoms i b refl in
          let k : at w (FIRST + i) < length f.atoms = omega arith in
          t.firsts (at w (FIRST + i)) k
          ∙ ap (λ (j : ℕ). first_same (get_or f.atoms j []) f.atoms) e
          ∙ ap (λ (bs : List ℕ). first_same bs f.atoms) (first_found (get_or f.atoms i []) f.atoms i b refl)
          ∙ sym e;
      sentinel = go f.sentinel refl;
    }
  where
    go : (o : Option ℕ) → f.sentinel ≡ o → (at w SENTINEL ≡ 0xffffffff) ⊎ Names w (at w PAIR_COUNT) (at w SENTINEL)
    go none e = inl (t.sentinel ∙ ap sentinel_word e)
    go (some h) e = inr (rw (t.atom_count, t.pair_count, t.sentinel, e) (s.sentinel h e))

-- ---- no entries yet

module _ (w : List ℕ) (long : WORK ≤ length w) (handles : Handles w) (zeros : (k : ℕ) → MAPS ≤ k → k < PARENTS → at w k ≡ 0) where
  none_used : at w USED ≡ 0
  none_used = zeros USED (omega arith) (omega arith)

  no_chains : Chained w
  unfolding prev
  no_chains =
      let u = none_used in
      record {
        heads = λ s h. zeros (HEADS + s) (omega arith) (omega arith) ∙ rw u refl;
        nexts = λ e h. absurd (omega arith);
      }

  sound : Sound w
  sound =
      let u = none_used in
      record {
        long = long;
        used = omega arith;
        counts = λ e h. let z = zeros (COUNTS + e) (omega arith) (omega arith) in omega arith;
        unused = λ e h k. zeros (COUNTS + e) (omega arith) (omega arith);
        links = λ e i h k. let z = zeros (COUNTS + e) (omega arith) (omega arith) in absurd (omega arith);
        chained = no_chains;
        distinct = record { distinct = λ i j h k p q. omega arith };
      }

  no_rows : rows_of w ≡ []
  unfolding rows_of tabulate
  no_rows = rw none_used refl

  pub fresh_whole : Whole w
  fresh_whole =
      let u = none_used in
      record {
        sound = sound;
        handles = handles;
        keys = λ e h. absurd (omega arith);
        maps = λ i h. let z = zeros (MAPS + i) (omega arith) (omega (arith, handles.few_pairs)) in omega arith;
        sentinel_entry = let z = zeros SENTINEL_ENTRY (omega arith) (omega arith) in omega arith;
      }

  pub fresh_holds : (f : File) → Tables f w → Holds f w fresh
  fresh_holds f t =
      let p = t.pair_count in
      let few = handles.few_pairs in
      record {
        entries = rw no_rows refl;
        mapped = λ i h. rw (zeros (MAPS + i) (omega arith) (omega arith)) refl;
        sentinel_entry = rw (zeros SENTINEL_ENTRY (omega arith) (omega arith)) refl;
      }

  -- The room that the bounds of each update start from.
  few_unmapped : (n : ℕ) → unmapped w n ≤ n
  unfolding unmapped
  few_unmapped zero = omega arith
  few_unmapped (suc n) = go (eqb (at w (MAPS + n)) 0) (few_unmapped n)
    where
      go : (b : Bool) → unmapped w n ≤ n → cond b 1 0 + unmapped w n ≤ suc n
      go true l = omega arith
      go false l = omega arith

  no_counts : (n : ℕ) → n ≤ ENTRIES → all_counts w n ≡ 0
  unfolding all_counts
  no_counts zero h = refl
  no_counts (suc n) h = rw (zeros (COUNTS + n) (omega arith) (omega arith)) (omega (arith, no_counts n (omega arith)))

  pub fresh_room : at w USED + 2 * unmapped w (at w PAIR_COUNT) ≤ 2048
  fresh_room = let u = none_used in omega (arith, few_unmapped (at w PAIR_COUNT), handles.few_pairs)

  pub fresh_counts : all_counts w ENTRIES + 2 * unmapped w (at w PAIR_COUNT) ≤ 2048
  fresh_counts = let c = no_counts ENTRIES (omega arith) in omega (arith, few_unmapped (at w PAIR_COUNT), handles.few_pairs)
