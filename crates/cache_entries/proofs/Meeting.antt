-- The sentinel met: a new entry, which is the latest one of the sentinel.
-- Assumes nothing.
use Prim.Native.Nat.{ℕ, ◌+◌, ◌≤◌, ◌<◌}
use mathlib.Core.Path.{◌≡◌, refl, sym, ap, ◌∙◌, subst}
use mathlib.Core.List.{List, [], ◌∷◌, map}
use mathlib.Core.Option.{Option, none, some}
use native.Mathlib.Omega.{arith}
use native.Mathlib.Numerals.{add-one}
use lib.ListN.{length, set, length-set}
use lib.Seq.{get_or-set_same, get_or-set_other}
use Rattle.words.specs.Words.{at}
use Rattle.spec_session.specs.File.{File}
use Rattle.spec_session.specs.Cache.{sentinel_key, Entry, Cache, find_key, find_or_add, keep_or_add}
use Rattle.work_layout.specs.Layout.{MAPS, SENTINEL_ENTRY, USED, LEFT, RIGHT, SEEN, ENTRIES}
use Rattle.work_layout.specs.Rows.{Row, rows_of}
use Rattle.cache_entries.specs.table.Effects.{Inserted, found_or_added, Interned}
use Rattle.cache_entries.specs.Meaning.{SENTINEL_KEY, entry_of, Tables, sentinel_words, entry_or_none, Whole, Holds}
use Rattle.cache_entries.specs.Effects.{Action, sentinel_action, Acts, Made}
use Rattle.cache_entries.proofs.Lift.{length_rows}
use Rattle.cache_entries.proofs.Entries.{sound_kept, rows_kept, counts_kept}
use Rattle.cache_entries.proofs.Keys.{no_sentinel, key_sentinel}
use Rattle.cache_entries.proofs.Making.{whole_of, interned_made}

-- No lookup finds a sentinel's entry.
find_sentinel : (es : List Entry) → find_key sentinel_key es ≡ none
find_sentinel [] = refl
find_sentinel (x ∷ es) = rw (find_sentinel es)

new_sentinel : Action
new_sentinel f c = find_or_add sentinel_key 0 c

module _ (w w₁ : List ℕ) (x : ℕ) (wh : Whole w) (ins : Inserted w w₁ SENTINEL_KEY (at w USED) 0 x) where
  interned : Interned w w₁ SENTINEL_KEY (at w USED) 0 x
  interned =
      let u = ins.used in
      let n = ins.index in
      record {
        sound = ins.sound;
        made =
            (λ j. (ins.rows j, (ins.index ∙ sym (length_rows w)) j))
            ∙ ap (λ (o : Option ℕ). found_or_added o SENTINEL_KEY (at w USED) 0 (rows_of w)) (sym (no_sentinel w wh));
        low = omega arith;
        keys = ins.keys;
        key = ins.key;
        new = λ k a b. omega arith;
        more = omega arith;
        few = omega arith;
        counts = ins.counts;
        kept = ins.kept;
      }

  made : Made new_sentinel w w₁ x
  unfolding new_sentinel
  made =
      interned_made w w₁ SENTINEL_KEY (at w USED) 0 x interned wh (sentinel_words refl refl) new_sentinel
      (λ f c t ho. record { key = sentinel_key; is = key_sentinel f (at w USED); found = find_sentinel (map (entry_of f) (rows_of w)) ∙ sym (no_sentinel w wh); act = refl })

  w₂ : List ℕ
  w₂ = set w₁ SENTINEL_ENTRY (x + 1)

  len : length w₂ ≡ length w₁
  unfolding w₂
  len = length-set w₁ SENTINEL_ENTRY (x + 1)

  other : (k : ℕ) → (k ≡ SENTINEL_ENTRY → ⊥) → at w₂ k ≡ at w₁ k
  unfolding w₂
  other k q = get_or-set_other w₁ SENTINEL_ENTRY k (x + 1) 0 q

  here : at w₂ SENTINEL_ENTRY ≡ x + 1
  unfolding w₂
  here = get_or-set_same w₁ SENTINEL_ENTRY (x + 1) 0 (omega (arith, ins.sound.long))

  entries_same : (k : ℕ) → USED ≤ k → k < SEEN → at w₂ k ≡ at w₁ k
  entries_same k p q = other k (λ z. omega arith)

  used : at w₂ USED ≡ at w₁ USED
  used = entries_same USED (omega arith) (omega arith)

  whole : Whole w₂
  whole =
      let u = used in
      let y = made.whole in
      let p = y.handles.few_pairs in
      let few = y.sound.used in
      whole_of w₁ w₂ y (sound_kept w₁ w₂ len entries_same ins.sound) (λ k h. other k (λ z. omega arith))
      (λ e h. rw (entries_same (LEFT + e) (omega arith) (omega arith), entries_same (RIGHT + e) (omega arith) (omega arith)) (y.keys e (omega arith)))
      (λ i h. let m = other (MAPS + i) (λ z. omega arith) in omega (arith, y.maps i h))
      (let s = here in omega (arith, made.low))

  acts : (f : File) (c : Cache) → Tables f w → Holds f w c → Acts sentinel_action w₂ x f c
  unfolding new_sentinel
  acts f c t ho =
      let a = made.does f c t ho in
      let p = wh.handles.few_pairs in
      let q = t.pair_count in
      let is : find_or_add sentinel_key 0 c ≡ keep_or_add none sentinel_key 0 c = ap (λ (o : Option ℕ). keep_or_add o sentinel_key 0 c) (find_sentinel c.entries) in
      let h : Holds f w₁ (keep_or_add none sentinel_key 0 c).0 = subst (λ (z : Cache × ℕ). Holds f w₁ z.0) is a.holds in
      let n : x ≡ length c.entries = a.answer ∙ ap (λ (z : Cache × ℕ). z.1) is in
      record {
        holds =
            record {
              entries = h.entries ∙ ap (λ (xs : List Row). map (entry_of f) xs) (sym (rows_kept w₁ w₂ len entries_same ins.sound));
              mapped = λ i l. h.mapped i l ∙ ap entry_or_none (sym (other (MAPS + i) (λ z. omega arith)));
              sentinel_entry = ap {B = Option ℕ} some (sym n) ∙ ap entry_or_none (sym (here ∙ add-one x));
            };
        answer = n;
      }

  pub sentinel_made : Made sentinel_action w (set w₁ SENTINEL_ENTRY (x + 1)) x
  unfolding w₂
  sentinel_made =
      let u = used in
      let y = made in
      record {
        whole = whole;
        low = omega (arith, y.low);
        more = omega (arith, y.more);
        few = omega (arith, y.few);
        counts = counts_kept w₁ w₂ len entries_same ins.sound ENTRIES (omega arith) ∙ y.counts;
        maps = λ k h. other (MAPS + k) (λ z. omega arith) ∙ y.maps k h;
        outside =
            record {
              below = λ k h. other k (λ z. omega arith) ∙ y.outside.below k h;
              above = λ k h. other k (λ z. omega arith) ∙ y.outside.above k h;
            };
        does = acts;
      }
