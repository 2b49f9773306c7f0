-- What the exceptions and the search give is what the definition gives.
-- Assumes nothing.
use Prim.Native.Nat.{ℕ, ◌≤◌, ◌<◌}
use mathlib.Core.Path.{◌≡◌, refl, ap, ◌∙◌}
use mathlib.Core.Bool.{true, false}
use mathlib.Core.List.{List}
use mathlib.Core.Option.{map}
use lib.Dec.{eqb}
use borrow.Author.Tests.{lt-ltb, le-ltb}
use Rattle.path.specs.declared.Measure.{Measure}
use Rattle.path.specs.Measure.{measure_of}
use Rattle.allocator.specs.Handle.{nil, handle_of}
use Rattle.spec_search.specs.Search.{Parents, search, used}
use Rattle.spec_search.proofs.PathBits.{search_ends}
use Rattle.spec_search.proofs.Used.{used_some}
use Rattle.spec_session.specs.FindPath.{without_terminator, find_in}
use Rattle.work_layout.specs.Layout.{ENTRIES}
use Rattle.work_layout.specs.Rows.{stack_of, Sound}
use Rattle.std.specs.Prelude.{Option, Some, None}
use Rattle.search_list.specs.State.{parents_of_all, path_at}
use Rattle.search_list.specs.Steps.{Kept}
use Rattle.search_passes.specs.Finds.{way_of, Usable}
use Rattle.search_find.specs.Answers.{FoundPath}
use Rattle.cache_stack.specs.marks.Effects.{marked_at}
use Rattle.search_find.specs.Effects.{LengthOf, steps_of, Ready, FindsIn}
use Rattle.search_find.proofs.Lookup.{parents_all}

kept_same : (w : List ℕ) → Kept w w
kept_same w = record { low = λ k h. refl; high = λ k h. refl }

-- ---- the exceptions

module _ {m : Measure} {w : List ℕ} {d h e : ℕ} where
  pub finds_nil : eqb h (handle_of nil) ≡ true → FindsIn m w w d h e None
  unfolding find_in
  finds_nil q = record { answer = λ f c ms t ho mk. rw q; ready = tt; kept = kept_same w }

  module _ (named : eqb h (handle_of nil) ≡ false) (low : e < ENTRIES) where
    pub finds_unmarked : marked_at w e ≡ false → FindsIn m w w d h e None
    unfolding find_in
    finds_unmarked q = record { answer = λ f c ms t ho mk. rw (named, mk e low, q); ready = tt; kept = kept_same w }

    module _ (marked : marked_at w e ≡ true) {n : ℕ} (len : LengthOf w e n) where
      pub finds_short : n < 4 → FindsIn m w w d h e None
      unfolding find_in
      finds_short q =
          record { answer = λ f c ms t ho mk. rw (named, mk e low, marked, len.is f c ho, lt-ltb n 4 q); ready = tt; kept = kept_same w }

-- ---- the search

steps_are : (w : List ℕ) (r : Option ℕ) → map without_terminator (way_of w r) ≡ steps_of w r
steps_are w (Some i) = refl
steps_are w None = refl

ready_of : (m : Measure) (w w' : List ℕ) (d n e : ℕ) (r : Option ℕ) → used (measure_of m) n (search (parents_of_all w) (stack_of w d) n e) ≡ way_of w' r → Usable w' r → Ready w' r
ready_of m w w' d n e (Some i) q u =
    (u, search_ends (parents_of_all w) (stack_of w d) n e (path_at w' i) (used_some (measure_of m) n (search (parents_of_all w) (stack_of w d) n e) (path_at w' i) q).given)
ready_of m w w' d n e None q u = tt

module _ {m : Measure} {w w' : List ℕ} {d h e n : ℕ} {r : Option ℕ} (s : Sound w) (named : eqb h (handle_of nil) ≡ false) (low : e < ENTRIES)
    (marked : marked_at w e ≡ true) (len : LengthOf w e n) (long : 4 ≤ n) (found : FoundPath m w w' d n e r) where
  pub finds_path : FindsIn m w w' d h e r
  unfolding find_in
  finds_path =
      record {
        answer = λ f c ms t ho mk.
            rw (named, mk e low, marked, len.is f c ho, le-ltb n 4 long)
            (ap (λ (p : Parents). map without_terminator (used (measure_of m) n (search p (stack_of w d) n e))) (parents_all f w c ho s)
            ∙ ap (map without_terminator) found.answer
            ∙ steps_are w' r);
        ready = ready_of m w w' d n e r found.answer found.usable;
        kept = found.kept;
      }
