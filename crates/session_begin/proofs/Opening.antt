-- Loading a session file: the words lent to the loaders come back, and hold the tables of the file; what is read before it is written is zero.
-- Assumes nothing.
use Prim.Native.Nat.{ℕ, ◌+◌, ◌-◌, ◌*◌, ◌≤◌, ◌<◌}
use mathlib.Core.Path.{◌≡◌, refl, sym, ap, subst, ◌∙◌}
use mathlib.Core.List.{List, [], ◌∷◌}
use native.Mathlib.Omega.{arith}
use lib.ListN.{length, get_or, set, replicate, get_or-replicate}
use borrow.Rule.Slice.PartMut.{put_mid}
use Rattle.words.specs.Words.{at, part, WORK}
use Rattle.words.specs.Lists.{all_at}
use Rattle.words.proofs.Words.{part_length, put_length, put_at, put_other, Store, miss, hits}
use Rattle.spec_session.specs.File.{File}
use Rattle.spec_session.specs.Places.{ListedAtom}
use Rattle.file_parts.specs.Checked.{Passed}
use Rattle.file_parts.specs.Loaded.{AtomPlace, AtomsLoaded, PairsLoaded}
use Rattle.file_parts.specs.declared.session_file.Checked.{Checked}
use Rattle.work_layout.specs.Layout.{ATOMS, PAIRS, FIRST, ATOM_LENGTHS, ATOM_HEADS, ATOM_NEXT, ATOM_COUNT, PAIR_COUNT, SENTINEL, OPEN, TOPS, PARENTS}
use Rattle.work_layout.specs.Rows.{atom_bytes}
use Rattle.file_tables.specs.Load.{Ready, Loaded}
use Rattle.file_tables.proofs.Tables.{table_firsts, table_lengths}
use Rattle.session_begin.specs.Opened.{PartClear, TablesClear, Placed, Opened}

-- The words from a up to b were lent, and came back cleared.
pub part_clear : (w r : List ℕ) (a b : ℕ) → a ≤ b → b ≤ length w → length r ≡ b - a → r ≡ replicate (b - a) 0 → PartClear w (put_mid a (b - a) w r) a b
part_clear w r a b h long len q = record {
  zeros = λ k l m.
      let e : k ≡ a + (k - a) = omega arith in
      ap (at (put_mid a (b - a) w r)) e ∙ put_at a (b - a) w r (omega arith) len (k - a) (omega arith) ∙ ap (λ (x : List ℕ). at x (k - a)) q
      ∙ get_or-replicate (b - a) (k - a) 0 0 (omega arith);
  others = λ k d. put_other a (b - a) w r (omega arith) len k (λ j m e. d (omega arith) (omega arith));
}

-- Both parts.
pub tables_clear : {w w₁ w₂ : List ℕ} → PartClear w w₁ ATOM_HEADS ATOM_NEXT → PartClear w₁ w₂ TOPS PARENTS → TablesClear w₂
tables_clear a b = record { heads = λ k l m. b.others k (λ x y. omega arith) ∙ a.zeros k l m; zeros = b.zeros }

pub few_twice : {input : List ℕ} {f : File} {c : Checked} → Passed input f c → (2 * c.atoms ≤ 2048) × (2 * c.pairs ≤ 2048)
few_twice p =
    (omega (arith, p.atoms_are, p.contents.few_atoms), omega (arith, p.pairs_are, p.contents.few_pairs))

-- The part that is lent for the pairs.
pub pairs_room : {n : ℕ} → WORK ≤ n → (w₀ r₁ : List ℕ) → length w₀ ≡ n → length r₁ ≡ length (part w₀ 0 2048)
    → length (part (put_mid 0 2048 w₀ r₁) 2048 2048) ≡ 2048
pairs_room long w₀ r₁ e len₁ =
    let have = len₁ ∙ part_length w₀ 0 2048 (omega arith) in
    part_length (put_mid 0 2048 w₀ r₁) 2048 2048 (omega (arith, put_length 0 2048 w₀ r₁ (omega arith) have))

-- ---- the places of the atoms and the handles of the pairs

module _ {input : List ℕ} {f : File} {c : Checked} (p : Passed input f c) {n : ℕ} (long : WORK ≤ n) (w₀ r₁ r₂ : List ℕ) (long₀ : length w₀ ≡ n)
    (clear : TablesClear w₀)
    (len₁ : length r₁ ≡ length (part w₀ 0 2048)) (l₁ : AtomsLoaded input f.atoms (part w₀ 0 2048) r₁)
    (len₂ : length r₂ ≡ length (part (put_mid 0 2048 w₀ r₁) 2048 2048)) (l₂ : PairsLoaded f.pairs (part (put_mid 0 2048 w₀ r₁) 2048 2048) r₂) where
  abbrev w₁ : List ℕ
  w₁ = put_mid 0 2048 w₀ r₁

  abbrev w₂ : List ℕ
  w₂ = put_mid 2048 2048 w₁ r₂

  have₁ : length r₁ ≡ 2048
  have₁ = len₁ ∙ part_length w₀ 0 2048 (omega (arith, long₀))

  long₁ : length w₁ ≡ n
  long₁ = put_length 0 2048 w₀ r₁ (omega (arith, long₀)) have₁ ∙ long₀

  have₂ : length r₂ ≡ 2048
  have₂ = len₂ ∙ part_length w₁ 2048 2048 (omega (arith, long₁))

  -- A word of the atoms' places, and one of the pairs' handles.
  place : (k j : ℕ) → k ≡ 0 + j → j < 2048 → at w₂ k ≡ at r₁ j
  place k j e l =
      put_other 2048 2048 w₁ r₂ (omega (arith, long₁)) have₂ k (λ i m q. omega (arith, q))
      ∙ ap (λ (i : ℕ). at w₁ i) e
      ∙ put_at 0 2048 w₀ r₁ (omega (arith, long₀)) have₁ j l

  handle : (k j : ℕ) → k ≡ 2048 + j → j < 2048 → at w₂ k ≡ at r₂ j
  handle k j e l = ap (λ (i : ℕ). at w₂ i) e ∙ put_at 2048 2048 w₁ r₂ (omega (arith, long₁)) have₂ j l

  -- The words after them stay.
  later : (k : ℕ) → FIRST ≤ k → at w₂ k ≡ at w₀ k
  later k l =
      put_other 2048 2048 w₁ r₂ (omega (arith, long₁)) have₂ k (λ i m e. omega (arith, e))
      ∙ put_other 0 2048 w₀ r₁ (omega (arith, long₀)) have₁ k (λ i m e. omega (arith, e))

  pub placed : Placed input f w₂
  placed =
      let fa = p.contents.few_atoms in
      let fp = p.contents.few_pairs in
      record {
        atoms = λ i l.
            subst (λ (x : ℕ). AtomPlace input x (at w₂ (ATOMS + 2 * i + 1)) (get_or f.atoms i [])) (sym (place (ATOMS + 2 * i) (2 * i) (omega arith) (omega arith)))
            (subst (λ (y : ℕ). AtomPlace input (at r₁ (2 * i)) y (get_or f.atoms i [])) (sym (place (ATOMS + 2 * i + 1) (2 * i + 1) (omega arith) (omega arith)))
            (l₁.places i l));
        lefts = λ i l. handle (PAIRS + 2 * i) (2 * i) (omega arith) (omega arith) ∙ l₂.lefts i l;
        rights = λ i l. handle (PAIRS + 2 * i + 1) (2 * i + 1) (omega arith) (omega arith) ∙ l₂.rights i l;
        clear = record {
          heads = λ k l b. later k (omega arith) ∙ clear.heads k l b;
          zeros = λ k l b. later k (omega arith) ∙ clear.zeros k l b;
        };
      }

-- ---- the other tables

module _ {input : List ℕ} {f : File} {c : Checked} (p : Passed input f c) {w : List ℕ} (long : WORK ≤ length w) (pl : Placed input f w) where
  pub firsts_ask : (n : ℕ) → n ≡ c.atoms → Ready input w n
  firsts_ask n e =
      record {
        long = long;
        short = p.short;
        few = omega (arith, p.atoms_are, p.contents.few_atoms);
        inside = λ i l. let q = pl.atoms i (omega (arith, p.atoms_are)) in (q.before, q.inside);
        heads = λ s l. pl.clear.heads (ATOM_HEADS + s) (omega arith) (omega arith);
      }

  module _ (n : ℕ) (e : n ≡ c.atoms) (w₁ : List ℕ) (long₁ : length w₁ ≡ length w) (ld : Loaded input w w₁ n) where
    abbrev last : List ℕ
    last = set (set (set w₁ ATOM_COUNT c.atoms) PAIR_COUNT c.pairs) SENTINEL c.sentinel

    abbrev put : List Store
    put =
        record { to = ATOM_COUNT; word = c.atoms } ∷ record { to = PAIR_COUNT; word = c.pairs } ∷ record { to = SENTINEL; word = c.sentinel } ∷ []

    other : (k : ℕ) → (k < ATOM_COUNT) → at last k ≡ at w₁ k
    other k l = miss put w₁ k (omega arith)

    after : (k : ℕ) → OPEN ≤ k → at last k ≡ at w₁ k
    after k l = miss put w₁ k (omega arith)

    low : (k : ℕ) → k < FIRST → at last k ≡ at w k
    low k l = other k (omega arith) ∙ ld.kept.low k l

    bytes_are : (i : ℕ) → i < length f.atoms → atom_bytes input w i ≡ get_or f.atoms i []
    unfolding atom_bytes
    bytes_are i l = (pl.atoms i l).is

    atom_same : (i : ℕ) → i < 1024 → atom_bytes input last i ≡ atom_bytes input w i
    unfolding atom_bytes
    atom_same i l = rw (low (ATOMS + 2 * i) (omega arith), low (ATOMS + 2 * i + 1) (omega arith)) refl

    loaded : Loaded input w w₁ (length f.atoms)
    loaded = subst (λ (m : ℕ). Loaded input w w₁ m) (e ∙ p.atoms_are) ld

    count : at last ATOM_COUNT ≡ length f.atoms
    count = hits put 0 w₁ (omega arith) (omega (arith, long₁)) (omega arith) ∙ p.atoms_are

    pub opened : Opened input f last
    opened =
        let fa = p.contents.few_atoms in
        let fp = p.contents.few_pairs in
        record {
          tables =
              record {
                atom_count = count;
                pair_count = hits put 1 w₁ (omega arith) (omega (arith, long₁)) (omega arith) ∙ p.pairs_are;
                sentinel = hits put 2 w₁ (omega arith) (omega (arith, long₁)) tt ∙ p.sentinel_is;
                lefts = λ i l. low (PAIRS + 2 * i) (omega arith) ∙ pl.lefts i l;
                rights = λ i l. low (PAIRS + 2 * i + 1) (omega arith) ∙ pl.rights i l;
                firsts = λ i l. other (FIRST + i) (omega arith) ∙ table_firsts input w w₁ f.atoms bytes_are loaded i l;
                lengths = λ i l. other (ATOM_LENGTHS + i) (omega arith) ∙ table_lengths input w w₁ f.atoms bytes_are loaded i l;
                listed = λ i l. all_at ListedAtom f.atoms [] i p.contents.atoms_listed l;
              };
          places =
              record {
                short = p.short;
                ordered = λ i l.
                    let m : i < length f.atoms = omega (arith, count) in
                    omega (arith, (pl.atoms i m).before, low (ATOMS + 2 * i) (omega arith), low (ATOMS + 2 * i + 1) (omega arith));
                inside = λ i l.
                    let m : i < length f.atoms = omega (arith, count) in omega (arith, (pl.atoms i m).inside, low (ATOMS + 2 * i + 1) (omega arith));
              };
          atoms_there = record { bytes = λ i l. atom_same i (omega arith) ∙ bytes_are i l };
          zeros = λ k l b. after k (omega arith) ∙ ld.kept.high k (omega arith) ∙ pl.clear.zeros k l b;
        }
