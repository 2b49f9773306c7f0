-- The entries rest on the words from USED to SEEN alone.
-- Assumes nothing.
use Prim.Native.Nat.{ℕ, ◌+◌, ◌≤◌, ◌<◌}
use mathlib.Core.Path.{◌≡◌, ◌∙◌}
use mathlib.Core.List.{List}
use native.Mathlib.Omega.{arith}
use lib.ListN.{length}
use Rattle.words.specs.Words.{at}
use Rattle.words.proofs.Words.{tabulate_same}
use Rattle.work_layout.specs.Layout.{USED, COUNTS, LEFT, RIGHT, LOW, HIGH, SEEN, ENTRIES, MAX_PARENTS}
use Rattle.work_layout.specs.Counts.{counts_same}
use Rattle.work_layout.specs.Rows.{link_at, row_of, rows_of, Sound, all_counts}
use Rattle.work_layout.specs.Parents.{link_same}
use Rattle.cache_entries.proofs.table.Rows.{row_same}
use Rattle.cache_entries.proofs.table.Chain.{chained_kept, distinct_kept}

module _ (w w' : List ℕ) (len : length w' ≡ length w) (same : (k : ℕ) → USED ≤ k → k < SEEN → at w' k ≡ at w k) (so : Sound w) where
  pub used_kept : at w' USED ≡ at w USED
  used_kept = same USED (omega arith) (omega arith)

  link_kept : (e i : ℕ) → e < ENTRIES → i < MAX_PARENTS → link_at w' e i ≡ link_at w e i
  link_kept e i h l = link_same w w' e i h l (λ k a b. same k (omega arith) b)

  pub sound_kept : Sound w'
  sound_kept =
      let u = used_kept in
      record {
        long = omega (arith, so.long);
        used = omega (arith, so.used);
        counts = λ e h. let c = same (COUNTS + e) (omega arith) (omega arith) in omega (arith, so.counts e h);
        unused = λ e h k. same (COUNTS + e) (omega arith) (omega arith) ∙ so.unused e (omega arith) k;
        links = λ e i h k.
            let c = same (COUNTS + e) (omega arith) (omega arith) in
            let d = so.counts e h in
            omega (arith, link_kept e i h (omega arith), so.links e i h (omega arith));
        chained = chained_kept w w' (λ k l m. same k (omega arith) (omega arith)) used_kept so.used so.chained;
        distinct = distinct_kept w w' (λ k l m. same k (omega arith) (omega arith)) used_kept so.used so.distinct;
      }

  pub rows_kept : rows_of w' ≡ rows_of w
  unfolding rows_of
  rows_kept = rw used_kept (tabulate_same (at w USED) (row_of w) (row_of w') entry)
    where
      entry : (k : ℕ) → k < at w USED → row_of w' k ≡ row_of w k
      entry k h =
          let u = so.used in
          row_same w w' k so h (same (LEFT + k) (omega arith) (omega arith)) (same (RIGHT + k) (omega arith) (omega arith)) (same (LOW + k) (omega arith) (omega arith))
          (same (HIGH + k) (omega arith) (omega arith)) (same (COUNTS + k) (omega arith) (omega arith))
          (λ i q. link_kept k i (omega arith) q)

  pub counts_kept : (n : ℕ) → n ≤ ENTRIES → all_counts w' n ≡ all_counts w n
  counts_kept n h = counts_same w w' n (λ k l. same (COUNTS + k) (omega arith) (omega arith))
