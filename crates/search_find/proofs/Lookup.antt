-- What the words say of the cache that they hold: lengths and parents.
-- Assumes nothing.
use Prim.Native.Nat.{ℕ, zero, suc, ◌≤◌, ◌<◌}
use mathlib.Core.Path.{◌≡◌, refl, sym, ap, ◌∙◌}
use mathlib.Core.Bool.{Bool}
use mathlib.Core.List.{List, [], ◌∷◌}
use native.Mathlib.Omega.{arith}
use lib.Dec.{ltb}
use lib.ListN.{length, length-map}
use borrow.Author.Tests.{lt-ltb, ltb-true}
use Rattle.words.specs.Choice.{by_cond, by_lt, cond_true}
use Rattle.words.specs.Words.{at, tabulate}
use Rattle.spec_session.specs.File.{File}
use Rattle.spec_session.specs.Cache.{Entry, Cache, length_at, parents_at}
use Rattle.spec_session.specs.FindPath.{parents_in}
use Rattle.work_layout.specs.Layout.{USED, ENTRIES}
use Rattle.work_layout.specs.Rows.{rows_of, parents_of, length_of, Sound}
use Rattle.search_list.specs.State.{parents_of_all}
use Rattle.cache_entries.specs.Meaning.{entry_of, Holds}
use Rattle.cache_entries.proofs.Lift.{length_rows, length_of_rows, parents_of_rows}
use Rattle.search_find.specs.Effects.{LengthOf}

-- ---- beyond the last entry

past_length : (es : List Entry) (e : ℕ) → length es ≤ e → length_at e es ≡ 0
past_length [] e h = refl
past_length (x ∷ es) zero h = absurd (omega arith)
past_length (x ∷ es) (suc e) h = past_length es e (omega arith)

past_parents : (es : List Entry) (e : ℕ) → length es ≤ e → parents_at e es ≡ []
past_parents [] e h = refl
past_parents (x ∷ es) zero h = absurd (omega arith)
past_parents (x ∷ es) (suc e) h = past_parents es e (omega arith)

unused_parents : (w : List ℕ) (x : ℕ) → Sound w → at w USED ≤ x → x < ENTRIES → parents_of w x ≡ []
unfolding parents_of tabulate
unused_parents w x s h l = rw (s.unused x h l)

module _ (f : File) (w : List ℕ) (c : Cache) (ho : Holds f w c) where
  entry_count : length c.entries ≡ at w USED
  entry_count = ap length ho.entries ∙ length-map (rows_of w) (entry_of f) ∙ length_rows w

  parents_each : Sound w → (x : ℕ) → parents_in c x ≡ parents_of_all w x
  unfolding parents_of_all
  parents_each s x =
      by_lt x (at w USED)
      (λ h.
      ap (parents_at x) ho.entries ∙ parents_of_rows f w x h
      ∙ sym (cond_true (ltb x ENTRIES) (parents_of w x) [] (lt-ltb x ENTRIES (omega (arith, s.used)))))
      (λ h.
      past_parents c.entries x (omega (arith, entry_count))
      ∙ sym (by_cond (λ (ps : List (ℕ × Bool)). ps ≡ []) (ltb x ENTRIES) (parents_of w x) []
      (λ q. unused_parents w x s h (ltb-true x ENTRIES q))
      (λ q. refl)))

  -- The parents of every entry stand in the words.
  pub parents_all : Sound w → parents_in c ≡ parents_of_all w
  parents_all s = λ i x. parents_each s x i

-- ---- what the getters give

pub length_here : (w : List ℕ) (e n : ℕ) → e < at w USED → n ≡ length_of w e → LengthOf w e n
length_here w e n h q = record { is = λ f c ho. ap (length_at e) ho.entries ∙ length_of_rows f w e h ∙ sym q; in_use = λ p. h }

pub length_past : (w : List ℕ) (e : ℕ) → at w USED ≤ e → LengthOf w e 0
length_past w e h = record { is = λ f c ho. past_length c.entries e (omega (arith, entry_count f w c ho)); in_use = λ p. absurd (omega arith) }
