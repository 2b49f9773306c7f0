-- From what the functions on entries leave to the cache that the words hold: a key found or added, the sentinel met, parents changed, a pair mapped.
-- Assumes nothing.
use Prim.Native.Nat.{ℕ, suc, ◌+◌, ◌≤◌, ◌<◌}
use mathlib.Core.Path.{◌≡◌, refl, sym, ap, ◌∙◌, subst}
use mathlib.Core.List.{List, [], ◌∷◌, ◌++◌, map}
use mathlib.Core.Option.{Option, none, some}
use native.Mathlib.Omega.{arith}
use lib.ListN.{length, get_or, length-append, length-map}
use Rattle.words.specs.Choice.{by_lt}
use Rattle.words.specs.Words.{at}
use Rattle.words.proofs.Words.{map_append}
use Rattle.spec_session.specs.File.{File}
use Rattle.spec_session.specs.Cache.{Key, Parent, Entry, Cache, lookup, find_key, adjust, new_entry, with_entries, keep_or_add, find_or_add}
use Rattle.work_layout.specs.Layout.{PAIR_COUNT, OPEN, MAPS, SENTINEL_ENTRY, USED, LEFT, RIGHT}
use Rattle.work_layout.specs.Rows.{Row, rows_of, new_row, adjust_row, Sound}
use Rattle.cache_entries.specs.table.Effects.{find_row, found_or_added, Interned}
use Rattle.cache_entries.specs.Meaning.{key_of, entry_of, Tables, KeyOK, entry_or_none, Whole, Holds}
use Rattle.cache_entries.specs.Effects.{Action, Acts, Made}
use Rattle.cache_entries.proofs.Lift.{no_row, map_adjust, key_adjust, length_rows, left_at, right_at, getD_end, getD_before}
use Rattle.cache_entries.proofs.Frames.{handles_kept, key_kept}

-- ---- when the words are whole again

module _ (w w' : List ℕ) (wh : Whole w) (so : Sound w') (same : (k : ℕ) → k < OPEN → at w' k ≡ at w k) where
  pub whole_of : ((e : ℕ) → e < at w' USED → KeyOK w e (at w' (LEFT + e)) (at w' (RIGHT + e)))
      → ((i : ℕ) → i < at w PAIR_COUNT → at w' (MAPS + i) ≤ at w' USED) → at w' SENTINEL_ENTRY ≤ at w' USED → Whole w'
  whole_of keys maps sent =
      let p = same PAIR_COUNT (omega arith) in
      record {
        sound = so;
        handles = handles_kept w w' same wh.handles;
        keys = λ e h. key_kept w w' same e (at w' (LEFT + e)) (at w' (RIGHT + e)) wh.handles (keys e h);
        maps = λ i h. maps i (omega arith);
        sentinel_entry = sent;
      }

  -- The rows with the parents of one changed.
  module _ (e : ℕ) (g : List Parent → List Parent) (used : at w' USED ≡ at w USED) (rows : rows_of w' ≡ adjust_row e g (rows_of w))
      (maps : (k : ℕ) → k < 1024 → at w' (MAPS + k) ≡ at w (MAPS + k)) (sent : at w' SENTINEL_ENTRY ≡ at w SENTINEL_ENTRY) where
    pub adjusted_whole : Whole w'
    adjusted_whole =
        let p = wh.handles.few_pairs in
        whole_of keys (λ i h. let m = maps i (omega arith) in omega (arith, wh.maps i h)) (omega (arith, wh.sentinel_entry))
      where
        keys : (k : ℕ) → k < at w' USED → KeyOK w k (at w' (LEFT + k)) (at w' (RIGHT + k))
        keys k h =
            let h' : k < at w USED = omega arith in
            let a : at w' (LEFT + k) ≡ at w (LEFT + k) =
            left_at w' (adjust_row e g (rows_of w)) k rows h ∙ (key_adjust g e k (rows_of w)).0 ∙ sym (left_at w (rows_of w) k refl h') in
            let b : at w' (RIGHT + k) ≡ at w (RIGHT + k) =
            right_at w' (adjust_row e g (rows_of w)) k rows h ∙ (key_adjust g e k (rows_of w)).1 ∙ sym (right_at w (rows_of w) k refl h') in
            rw (a, b) (wh.keys k h')

    pub adjusted_holds : (f : File) (c : Cache) → Tables f w → Holds f w c → Holds f w' (with_entries (adjust e g c.entries) c)
    adjusted_holds f c t ho =
        let p = wh.handles.few_pairs in
        let q = t.pair_count in
        record {
          entries =
              ap (adjust e g) ho.entries ∙ sym (map_adjust f g e (rows_of w)) ∙ ap (λ (xs : List Row). map (entry_of f) xs) (sym rows);
          mapped = λ i h. ho.mapped i h ∙ ap entry_or_none (sym (maps i (omega arith)));
          sentinel_entry = ho.sentinel_entry ∙ ap entry_or_none (sym sent);
        }

-- ---- a key found or added

-- What the action looks up, and that the rows have it where the entries do.
pub record Looks (a : Action) (w : List ℕ) (l r n : ℕ) (f : File) (c : Cache) : Type 0 where
  pub key : Key
  pub is : key_of f l r ≡ key
  pub found : find_key key (map (entry_of f) (rows_of w)) ≡ find_row l r (rows_of w)
  pub act : a f c ≡ find_or_add key n c

module _ (w w' : List ℕ) (l r n x : ℕ) (i : Interned w w' l r n x) (wh : Whole w) (ok : KeyOK w (at w USED) l r) where
  same : (k : ℕ) → k < USED → at w' k ≡ at w k
  same = i.kept.low

  keys : (e : ℕ) → e < at w' USED → KeyOK w e (at w' (LEFT + e)) (at w' (RIGHT + e))
  keys e h = go (find_row l r (rows_of w)) i.made
    where
      old : e < at w USED → get_or (rows_of w') e no_row ≡ get_or (rows_of w) e no_row → KeyOK w e (at w' (LEFT + e)) (at w' (RIGHT + e))
      old h' q =
          let a : at w' (LEFT + e) ≡ at w (LEFT + e) = left_at w' (rows_of w') e refl h ∙ ap (λ (y : Row). y.left) q ∙ sym (left_at w (rows_of w) e refl h') in
          let b : at w' (RIGHT + e) ≡ at w (RIGHT + e) = right_at w' (rows_of w') e refl h ∙ ap (λ (y : Row). y.right) q ∙ sym (right_at w (rows_of w) e refl h') in
          rw (a, b) (wh.keys e h')

      go : (o : Option ℕ) → ◌≡◌ {A = List Row × ℕ} (rows_of w', x) (found_or_added o l r n (rows_of w)) → KeyOK w e (at w' (LEFT + e)) (at w' (RIGHT + e))
      go (some y) q =
          let rows : rows_of w' ≡ rows_of w = ap (λ z. z.0) q in
          let u : at w' USED ≡ at w USED = sym (length_rows w') ∙ ap length rows ∙ length_rows w in
          old (omega arith) (ap (λ (xs : List Row). get_or xs e no_row) rows)
      go none q =
          let rows : rows_of w' ≡ rows_of w ++ new_row l r n ∷ [] = ap (λ z. z.0) q in
          let len = length_rows w in
          let u : at w' USED ≡ suc (at w USED) = sym (length_rows w') ∙ ap length rows ∙ simp length-append (omega (arith, length_rows w)) in
          by_lt e (at w USED)
          (λ h'. old h' (ap (λ (xs : List Row). get_or xs e no_row) rows ∙ getD_before (rows_of w) (new_row l r n) e (omega arith)))
          (λ h'.
          let y : e ≡ length (rows_of w) = omega arith in
          let new : get_or (rows_of w') e no_row ≡ new_row l r n =
          ap (λ (xs : List Row). get_or xs e no_row) rows ∙ ap (λ (k : ℕ). get_or (rows_of w ++ new_row l r n ∷ []) k no_row) y ∙ getD_end (rows_of w) (new_row l r n) in
          let a : at w' (LEFT + e) ≡ l = left_at w' (rows_of w') e refl h ∙ ap (λ (z : Row). z.left) new in
          let b : at w' (RIGHT + e) ≡ r = right_at w' (rows_of w') e refl h ∙ ap (λ (z : Row). z.right) new in
          let ee : e ≡ at w USED = omega arith in
          rw (a, b, ee) ok)

  interned_whole : Whole w'
  interned_whole =
      let p = wh.handles.few_pairs in
      let m = i.more in
      whole_of w w' wh i.sound (λ k h. same k (omega arith)) keys
      (λ k h. let q = same (MAPS + k) (omega arith) in omega (arith, wh.maps k h))
      (let q = same SENTINEL_ENTRY (omega arith) in omega (arith, wh.sentinel_entry))

  interned_acts : (a : Action) (f : File) (c : Cache) → Looks a w l r n f c → Tables f w → Holds f w c → Acts a w' x f c
  interned_acts a f c look t ho = go (find_row l r (rows_of w)) refl i.made
    where
      act : (o : Option ℕ) → find_row l r (rows_of w) ≡ o → a f c ≡ keep_or_add o look.key n c
      act o e = look.act ∙ ap (λ (p : Option ℕ). keep_or_add p look.key n c) (ap (find_key look.key) ho.entries ∙ look.found ∙ e)

      mapped : (j : ℕ) → j < length f.pairs → lookup j c.mapped ≡ entry_or_none (at w' (MAPS + j))
      mapped j h = let p = wh.handles.few_pairs in let q = t.pair_count in ho.mapped j h ∙ ap entry_or_none (sym (same (MAPS + j) (omega arith)))

      sent : c.sentinel_entry ≡ entry_or_none (at w' SENTINEL_ENTRY)
      sent = ho.sentinel_entry ∙ ap entry_or_none (sym (same SENTINEL_ENTRY (omega arith)))

      go : (o : Option ℕ) → find_row l r (rows_of w) ≡ o → ◌≡◌ {A = List Row × ℕ} (rows_of w', x) (found_or_added o l r n (rows_of w)) → Acts a w' x f c
      go (some y) e q =
          let ho' : Holds f w' c =
          record { entries = ho.entries ∙ ap (λ (z : List Row × ℕ). map (entry_of f) z.0) (sym q); mapped = mapped; sentinel_entry = sent } in
          record {
            holds = subst (λ (z : Cache × ℕ). Holds f w' z.0) (sym (act (some y) e)) ho';
            answer = ap (λ (z : List Row × ℕ). z.1) q ∙ ap (λ (z : Cache × ℕ). z.1) (sym (act (some y) e));
          }
      go none e q =
          let new : map (entry_of f) (rows_of w ++ new_row l r n ∷ []) ≡ map (entry_of f) (rows_of w) ++ new_entry look.key n ∷ [] =
          map_append (entry_of f) (rows_of w) (new_row l r n ∷ [])
          ∙ ap (λ (k : Key). map (entry_of f) (rows_of w) ++ new_entry k n ∷ []) look.is in
          let ho' : Holds f w' (with_entries (c.entries ++ new_entry look.key n ∷ []) c) =
          record {
            entries =
                ap (λ (es : List Entry). es ++ new_entry look.key n ∷ []) ho.entries ∙ sym new ∙ ap (λ (z : List Row × ℕ). map (entry_of f) z.0) (sym q);
            mapped = mapped;
            sentinel_entry = sent;
          } in
          record {
            holds = subst (λ (z : Cache × ℕ). Holds f w' z.0) (sym (act none e)) ho';
            answer =
                ap (λ (z : List Row × ℕ). z.1) q ∙ sym (length-map (rows_of w) (entry_of f)) ∙ ap length (sym ho.entries)
                ∙ ap (λ (z : Cache × ℕ). z.1) (sym (act none e));
          }

  -- The action is done where it looks up the key of these words.
  pub interned_made : (a : Action) → ((f : File) (c : Cache) → Tables f w → Holds f w c → Looks a w l r n f c) → Made a w w' x
  interned_made a look =
      record {
        whole = interned_whole;
        low = i.low;
        more = i.more;
        few = i.few;
        counts = i.counts;
        maps = λ k h. same (MAPS + k) (omega arith);
        outside = record { below = λ k h. same k (omega arith); above = i.kept.high };
        does = λ f c t ho. interned_acts a f c (look f c t ho) t ho;
      }
