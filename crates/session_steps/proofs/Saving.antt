-- The state before an add is saved: what the copy of the cache asks, and what both copies leave.
-- Assumes nothing.
use Prim.Native.Nat.{ℕ, ◌+◌, ◌*◌, ◌≤◌, ◌<◌}
use mathlib.Core.Path.{◌≡◌, sym, ap, ◌∙◌}
use mathlib.Core.List.{List}
use native.Mathlib.Omega.{arith}
use lib.ListN.{length}
use Rattle.words.specs.Words.{at}
use Rattle.work_layout.specs.Layout.{PAIR_COUNT, USED, COUNTS, PARENTS, COPIES, MAPS, ENTRIES}
use Rattle.work_layout.specs.Rows.{Sound, all_counts}
use Rattle.work_layout.specs.Counts.{further_same}
use Rattle.cache_undo.specs.undo_state.Effects.{copied_open, copied_stack, copied_marks, Saved}
use Rattle.cache_undo.specs.cache_copy.Effects.{copied_furthers, CacheSaved}
use Rattle.cache_entries.proofs.Entries.{sound_kept, counts_kept}
use Rattle.write_place.specs.State.{Standing}
use Rattle.session_state.specs.declared.progress.Progress.{Progress}
use Rattle.session_steps.specs.Effects.{StateSaved}

module _ {w w₁ : List ℕ} (p : Progress) (st : Standing w p.opens p.depth 0) (len : length w₁ ≡ length w) (sv : Saved w w₁ p.adds p.opens p.depth) where
  -- The words below the copies stay.
  same : (k : ℕ) → k < COPIES → at w₁ k ≡ at w k
  same k l = sv.low k (omega arith)

  so : Sound w
  so = st.whole.sound

  pairs : at w₁ PAIR_COUNT ≡ at w PAIR_COUNT
  pairs = same PAIR_COUNT (omega arith)

  few_pairs : at w PAIR_COUNT ≤ 1024
  few_pairs = st.whole.handles.few_pairs

  pub cache_asks : Sound w₁ × (all_counts w₁ ENTRIES ≤ 2048) × (at w₁ PAIR_COUNT ≤ 1024)
  cache_asks = (
    sound_kept w w₁ len (λ k a b. same k (omega arith)) so,
    omega (arith, counts_kept w w₁ len (λ k a b. same k (omega arith)) so ENTRIES (omega arith), st.counts),
    omega (arith, pairs, few_pairs),
  )

  -- The copy of the cache lies behind that of the stack and the marks.
  pub saved_both : {w₂ : List ℕ} → CacheSaved w₁ w₂ p.adds → StateSaved w w₂ p
  saved_both {w₂} cs = record {
    saved = record {
      open_pairs = λ i l. cs.low (copied_open p.adds + i) (omega (arith, st.few_opens)) ∙ sv.open_pairs i l;
      places = λ i l. cs.low (copied_stack p.adds + i) (omega (arith, st.stacked.deep)) ∙ sv.places i l;
      marks = λ i l. cs.low (copied_marks p.adds + i) (omega arith) ∙ sv.marks i l;
      low = λ j l. cs.low j (omega arith) ∙ sv.low j l;
      high = λ j l. cs.high j l ∙ sv.high j l;
    };
    cache = λ e. record {
      used = cs.copied.used ∙ used;
      maps = λ i l. cs.copied.maps i (omega (arith, pairs)) ∙ same (MAPS + i) (omega (arith, few_pairs));
      counts = λ x l. cs.copied.counts x (omega (arith, used)) ∙ count x (omega (arith, so.used));
      firsts = λ x l. cs.copied.firsts x (omega (arith, used)) ∙ same (PARENTS + x) (omega (arith, so.used));
      furthers = λ x i l m.
          let c = count x (omega (arith, so.used)) in
          ap (λ (n : ℕ). at w₂ (copied_furthers p.adds + n + i)) (sym (further_same w w₁ x (λ k q. count k (omega (arith, so.used)))))
          ∙ cs.copied.furthers x i (omega (arith, used)) (omega arith)
          ∙ same (PARENTS + (i + 1) * ENTRIES + x) (omega (arith, so.used, so.counts x (omega (arith, so.used))));
    };
  }
    where
      used : at w₁ USED ≡ at w USED
      used = same USED (omega arith)

      count : (x : ℕ) → x < ENTRIES → at w₁ (COUNTS + x) ≡ at w (COUNTS + x)
      count x l = same (COUNTS + x) (omega arith)
