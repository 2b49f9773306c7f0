-- A pair joined: its entry found or added, made a parent of its sides, and mapped.
-- Assumes nothing.
use Prim.Native.Nat.{ℕ, ◌+◌, ◌≤◌, ◌<◌}
use mathlib.Core.Path.{◌≡◌, sym, ap, ◌∙◌, subst}
use mathlib.Core.Bool.{Bool, true, false, cond}
use mathlib.Core.List.{List, [], ◌∷◌, ◌++◌, map}
use mathlib.Core.Option.{none, some}
use native.Mathlib.Omega.{arith}
use native.Mathlib.Numerals.{add-one}
use native.Mathlib.Decide.{ℕ_discrete}
use lib.Dec.{eqb}
use lib.ListN.{length, set, length-set}
use lib.Seq.{get_or-set_same, get_or-set_other}
use borrow.Author.Tests.{ne_eqb}
use Rattle.words.specs.Words.{at}
use Rattle.spec_session.proofs.Cached.{lookup_new}
use Rattle.spec_session.specs.File.{File}
use Rattle.spec_session.specs.Cache.{Cache, lookup, adjust, add_parent, with_entries, link_pair}
use Rattle.work_layout.specs.Layout.{PAIR_COUNT, MAPS, SENTINEL_ENTRY, USED, LEFT, RIGHT, SEEN, ENTRIES}
use Rattle.work_layout.specs.Rows.{Row}
use Rattle.cache_entries.specs.table.Effects.{ParentAdded}
use Rattle.cache_entries.specs.Meaning.{entry_of, Tables, entry_or_none, Whole, Holds}
use Rattle.cache_entries.specs.Effects.{pair_action, join_action, Acts, Made, Joined}
use Rattle.cache_entries.proofs.Frames.{tables_kept}
use Rattle.cache_entries.proofs.Entries.{sound_kept, rows_kept, counts_kept}
use Rattle.cache_entries.proofs.Making.{whole_of, adjusted_whole, adjusted_holds}

-- ---- the map

lookup_other : (j i x : ℕ) (ms : List (ℕ × ℕ)) → (j ≡ i → ⊥) → lookup j (ms ++ (i, x) ∷ []) ≡ lookup j ms
lookup_other j i x [] q = rw (ne_eqb j i q)
lookup_other j i x (m ∷ ms) q = ap (cond (eqb j m.0) (some m.1)) (lookup_other j i x ms q)

-- ---- a parent added

module _ (w w' : List ℕ) (e p : ℕ) (side : Bool) (wh : Whole w) (a : ParentAdded w w' e p side) where
  pub parent_whole : Whole w'
  parent_whole =
      adjusted_whole w w' wh a.sound (λ k h. a.kept.low k (omega arith)) e (add_parent p side) a.used a.rows
      (λ k h. a.kept.low (MAPS + k) (omega arith)) (a.kept.low SENTINEL_ENTRY (omega arith))

  parent_holds : (f : File) (c : Cache) → Tables f w → Holds f w c → Holds f w' (with_entries (adjust e (add_parent p side) c.entries) c)
  parent_holds =
      adjusted_holds w w' wh a.sound (λ k h. a.kept.low k (omega arith)) e (add_parent p side) a.used a.rows
      (λ k h. a.kept.low (MAPS + k) (omega arith)) (a.kept.low SENTINEL_ENTRY (omega arith))

-- ---- the pair

module _ {w w₁ w₂ w₃ : List ℕ} (i : ℕ) {l r x : ℕ} (wh : Whole w) (named : i < at w PAIR_COUNT) (z : at w (MAPS + i) ≡ 0)
    (m : Made (pair_action l r) w w₁ x) (a : ParentAdded w₁ w₂ l x false) (b : ParentAdded w₂ w₃ r x true) where
  few : at w PAIR_COUNT ≤ 1024
  few = wh.handles.few_pairs

  low_i : i < 1024
  low_i = omega (arith, named, few)

  wh₂ : Whole w₂
  wh₂ = parent_whole w₁ w₂ l x false m.whole a

  wh₃ : Whole w₃
  wh₃ = parent_whole w₂ w₃ r x true wh₂ b

  -- From the file's tables to the map nothing is changed but the map.
  below₃ : (k : ℕ) → k < MAPS → at w₃ k ≡ at w k
  below₃ k h = b.kept.low k (omega arith) ∙ a.kept.low k (omega arith) ∙ m.outside.below k h

  maps₃ : (k : ℕ) → k < 1024 → at w₃ (MAPS + k) ≡ at w (MAPS + k)
  maps₃ k h = b.kept.low (MAPS + k) (omega arith) ∙ a.kept.low (MAPS + k) (omega arith) ∙ m.maps k h

  above₃ : (k : ℕ) → SEEN ≤ k → at w₃ k ≡ at w k
  above₃ k h = b.kept.high k h ∙ a.kept.high k h ∙ m.outside.above k h

  used₃ : at w₃ USED ≡ at w₁ USED
  used₃ = b.used ∙ a.used

  w₄ : List ℕ
  w₄ = set w₃ (MAPS + i) (x + 1)

  len : length w₄ ≡ length w₃
  unfolding w₄
  len = length-set w₃ (MAPS + i) (x + 1)

  other : (k : ℕ) → (k ≡ MAPS + i → ⊥) → at w₄ k ≡ at w₃ k
  unfolding w₄
  other k q = get_or-set_other w₃ (MAPS + i) k (x + 1) 0 q

  here : at w₄ (MAPS + i) ≡ x + 1
  unfolding w₄
  here = get_or-set_same w₃ (MAPS + i) (x + 1) 0 (omega (arith, b.sound.long, low_i))

  entries_same : (k : ℕ) → USED ≤ k → k < SEEN → at w₄ k ≡ at w₃ k
  entries_same k p q = other k (λ e. omega (arith, low_i))

  used₄ : at w₄ USED ≡ at w₁ USED
  used₄ = entries_same USED (omega arith) (omega arith) ∙ used₃

  whole : Whole w₄
  whole =
      let u = used₄ in
      let v = used₃ in
      let fewer = wh₃.sound.used in
      let fp = wh₃.handles.few_pairs in
      let li = low_i in
      whole_of w₃ w₄ wh₃ (sound_kept w₃ w₄ len entries_same wh₃.sound) (λ k h. other k (λ e. omega arith))
      (λ e h. rw (entries_same (LEFT + e) (omega arith) (omega arith), entries_same (RIGHT + e) (omega arith) (omega arith)) (wh₃.keys e (omega arith)))
      (λ k h. at_most k h (ℕ_discrete k i))
      (let s = other SENTINEL_ENTRY (λ e. omega arith) in omega (arith, wh₃.sentinel_entry))
    where
      at_most : (k : ℕ) → k < at w₃ PAIR_COUNT → Dec (k ≡ i) → at w₄ (MAPS + k) ≤ at w₄ USED
      at_most k h (yes q) = let u = used₄ in let e = here in rw q (omega (arith, m.low))
      at_most k h (no q) =
          let u = used₄ in
          let v = used₃ in
          let s = other (MAPS + k) (λ e. q (omega arith)) in
          omega (arith, wh₃.maps k h)

  acts : (f : File) (c : Cache) → Tables f w → Holds f w c → Acts (join_action i l r) w₄ x f c
  acts f c t ho = record { holds = subst (λ (y : ℕ). Holds f w₄ (link_pair i l r ((pair_action l r f c).0, y)).0) d.answer h₄; answer = d.answer }
    where
      d : Acts (pair_action l r) w₁ x f c
      d = m.does f c t ho

      c₁ : Cache
      c₁ = (pair_action l r f c).0

      t₁ : Tables f w₁
      t₁ = tables_kept w w₁ (λ k h. m.outside.below k (omega arith)) f wh.handles t

      t₂ : Tables f w₂
      t₂ = tables_kept w₁ w₂ (λ k h. a.kept.low k (omega arith)) f m.whole.handles t₁

      h₂ : Holds f w₂ (with_entries (adjust l (add_parent x false) (pair_action l r f c).0.entries) (pair_action l r f c).0)
      h₂ = parent_holds w₁ w₂ l x false m.whole a f (pair_action l r f c).0 t₁ d.holds

      h₃ : Holds f w₃ (with_entries (adjust r (add_parent x true) (adjust l (add_parent x false) (pair_action l r f c).0.entries)) (pair_action l r f c).0)
      h₃ = parent_holds w₂ w₃ r x true wh₂ b f (with_entries (adjust l (add_parent x false) (pair_action l r f c).0.entries) (pair_action l r f c).0) t₂ h₂

      unknown_yet : lookup i (pair_action l r f c).0.mapped ≡ none
      unknown_yet = let p = t.pair_count in let n = named in h₃.mapped i (omega arith) ∙ ap entry_or_none (maps₃ i low_i ∙ z)

      mapped : (j : ℕ) → j < length f.pairs → Dec (j ≡ i) → lookup j ((pair_action l r f c).0.mapped ++ (i, x) ∷ []) ≡ entry_or_none (at w₄ (MAPS + j))
      mapped j h (yes q) = rw q (lookup_new i (pair_action l r f c).0.mapped x unknown_yet ∙ ap entry_or_none (sym (here ∙ add-one x)))
      mapped j h (no q) =
          lookup_other j i x (pair_action l r f c).0.mapped q ∙ h₃.mapped j h ∙ ap entry_or_none (sym (other (MAPS + j) (λ e. q (omega arith))))

      h₄ : Holds f w₄ (link_pair i l r ((pair_action l r f c).0, x)).0
      h₄ =
          record {
            entries = h₃.entries ∙ ap (λ (xs : List Row). map (entry_of f) xs) (sym (rows_kept w₃ w₄ len entries_same wh₃.sound));
            mapped = λ j h. mapped j h (ℕ_discrete j i);
            sentinel_entry = h₃.sentinel_entry ∙ ap entry_or_none (sym (other SENTINEL_ENTRY (λ e. omega arith)));
          }

  pub joins : Joined w (set w₃ (MAPS + i) (x + 1)) i l r x
  unfolding w₄
  joins =
      let u = used₄ in
      let li = low_i in
      let n = counts_kept w₃ w₄ len entries_same wh₃.sound ENTRIES (omega arith) in
      record {
        whole = whole;
        low = omega (arith, m.low);
        more = omega (arith, m.more);
        few = omega (arith, m.few);
        counts = omega (arith, b.counts, a.counts, m.counts);
        mapped = here;
        maps = λ k h q. other (MAPS + k) (λ e. q (omega arith)) ∙ maps₃ k h;
        outside =
            record {
              below = λ k h. other k (λ e. omega arith) ∙ below₃ k h;
              above = λ k h. other k (λ e. omega arith) ∙ above₃ k h;
            };
        does = acts;
      }
