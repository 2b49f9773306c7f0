-- What is left where the parents of one entry alone change.
-- Assumes nothing.
use Prim.Native.Nat.{ℕ, ◌+◌, ◌*◌, ◌≤◌, ◌<◌}
use mathlib.Core.Path.{◌≡◌, ap, ◌∙◌}
use mathlib.Core.Bool.{Bool}
use mathlib.Core.List.{List}
use native.Mathlib.Omega.{arith}
use native.Mathlib.Decide.{ℕ_discrete}
use lib.ListN.{length}
use Rattle.words.specs.Words.{at, tabulate}
use Rattle.work_layout.specs.Layout.{USED, COUNTS, LEFT, RIGHT, LOW, HIGH, PARENTS, SEEN, ENTRIES, MAX_PARENTS}
use Rattle.work_layout.specs.Rows.{link_at, parents_of, row_of, rows_of, with_parents, adjust_row, length_of, Sound, all_counts}
use Rattle.cache_entries.specs.table.Effects.{SameKeys}
use Rattle.cache_entries.proofs.table.Rows.{row_same, adjust_tabulate, counts_but}
use Rattle.cache_entries.proofs.table.Chain.{chained_kept, distinct_kept}

-- From USED on, w' differs from w in the count and the parents of entry e alone.
pub record RowOnly (w w' : List ℕ) (e : ℕ) : Type 0 where
  pub len : length w' ≡ length w
  pub same : (k : ℕ) → USED ≤ k → k < PARENTS → (k ≡ COUNTS + e → ⊥) → at w' k ≡ at w k
  pub others : (d i : ℕ) → d < ENTRIES → i < MAX_PARENTS → (d ≡ e → ⊥) → link_at w' d i ≡ link_at w d i
  pub high : (k : ℕ) → SEEN ≤ k → at w' k ≡ at w k
  pub few : at w' (COUNTS + e) ≤ MAX_PARENTS
  pub links : (i : ℕ) → i < at w' (COUNTS + e) → link_at w' e i < 2 * at w USED

module _ (w w' : List ℕ) (e : ℕ) (s : Sound w) (h : e < at w USED) (r : RowOnly w w' e) where
  e_low : e < ENTRIES
  e_low = omega (arith, s.used)

  pub row_used : at w' USED ≡ at w USED
  row_used = r.same USED (omega arith) (omega arith) (omega arith)

  count_same : (k : ℕ) → k < ENTRIES → (k ≡ e → ⊥) → at w' (COUNTS + k) ≡ at w (COUNTS + k)
  count_same k l d = r.same (COUNTS + k) (omega arith) (omega arith) (omega arith)

  key_same : (k : ℕ) → LEFT ≤ k → k < PARENTS → at w' k ≡ at w k
  key_same k a b = let z = e_low in r.same k (omega arith) b (omega arith)

  pub row_keys : SameKeys w w'
  row_keys k l = let u = s.used in (key_same (LEFT + k) (omega arith) (omega arith), key_same (RIGHT + k) (omega arith) (omega arith))

  other_row : (k : ℕ) → k < at w USED → (k ≡ e → ⊥) → row_of w' k ≡ row_of w k
  other_row k l d =
      let u = s.used in
      row_same w w' k s l (key_same (LEFT + k) (omega arith) (omega arith)) (key_same (RIGHT + k) (omega arith) (omega arith))
      (key_same (LOW + k) (omega arith) (omega arith)) (key_same (HIGH + k) (omega arith) (omega arith)) (count_same k (omega arith) d) (λ i m. r.others k i (omega arith) m d)

  pub row_sound : Sound w'
  row_sound =
      let u = row_used in
      record {
        long = omega (arith, r.len, s.long);
        used = omega (arith, s.used);
        counts = λ k l. counts k l (ℕ_discrete k e);
        unused = λ k a b. count_same k b (omega arith) ∙ s.unused k (omega arith) b;
        links = λ k i l m. links k i l m (ℕ_discrete k e);
        chained = chained_kept w w' key_same u s.used s.chained;
        distinct = distinct_kept w w' key_same u s.used s.distinct;
      }
    where
      counts : (k : ℕ) → k < ENTRIES → Dec (k ≡ e) → at w' (COUNTS + k) ≤ MAX_PARENTS
      counts k l (yes q) = rw q r.few
      counts k l (no q) = rw (count_same k l q) (s.counts k l)

      links : (k i : ℕ) → k < ENTRIES → i < at w' (COUNTS + k) → Dec (k ≡ e) → link_at w' k i < 2 * at w' USED
      links k i l m (yes q) = rw (q, row_used) (r.links i (rw q at m))
      links k i l m (no q) =
          let n : i < at w (COUNTS + k) = rw (count_same k l q) at m in
          let c = s.counts k l in
          rw (r.others k i l (omega arith) q, row_used) (s.links k i l n)

  -- The entries are as they were but for the parents of entry e.
  pub row_rows : (f : List (ℕ × Bool) → List (ℕ × Bool)) → parents_of w' e ≡ f (parents_of w e) → rows_of w' ≡ adjust_row e f (rows_of w)
  unfolding rows_of
  row_rows f q =
      let z = e_low in
      let a = key_same (LEFT + e) (omega arith) (omega arith) in
      let b = key_same (RIGHT + e) (omega arith) (omega arith) in
      let n : length_of w' e ≡ length_of w e = rw (key_same (LOW + e) (omega arith) (omega arith), key_same (HIGH + e) (omega arith) (omega arith)) in
      let m : row_of w' e ≡ with_parents (f (parents_of w e)) (row_of w e) = λ i. record { left = a i; right = b i; parents = q i; len = n i } in
      ap (λ (x : ℕ). tabulate x (row_of w')) row_used ∙ adjust_tabulate (at w USED) e (row_of w') (row_of w) f h other_row m

  pub row_counts : all_counts w' ENTRIES + at w (COUNTS + e) ≡ all_counts w ENTRIES + at w' (COUNTS + e)
  row_counts = counts_but w w' ENTRIES e e_low count_same
