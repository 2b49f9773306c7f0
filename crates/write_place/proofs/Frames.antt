-- What stays of the file's tables and of the cache where the words of the writer change: open pairs, stack, marks, the search's words and the copies.
-- Assumes nothing.
use Prim.Native.Nat.{ℕ, ◌+◌, ◌*◌, ◌≤◌, ◌<◌}
use mathlib.Core.Path.{◌≡◌, sym, ap, ◌∙◌}
use mathlib.Core.List.{List, map}
use mathlib.Core.Option.{Option}
use native.Mathlib.Omega.{arith}
use lib.ListN.{length}
use Rattle.words.specs.Words.{at}
use Rattle.spec_session.specs.File.{File}
use Rattle.spec_session.specs.Cache.{Cache}
use Rattle.work_layout.specs.Layout.{ATOMS, ATOM_COUNT, PAIR_COUNT, OPEN, MAPS, SENTINEL_ENTRY, USED, LEFT, RIGHT, SEEN, ENTRIES}
use Rattle.work_layout.specs.Rows.{Row, atom_bytes, all_counts}
use Rattle.cache_entries.specs.Meaning.{Tables, entry_of, entry_or_none, unmapped, Whole, Holds}
use Rattle.cache_entries.proofs.Entries.{sound_kept, rows_kept, counts_kept}
use Rattle.cache_entries.proofs.Frames.{unmapped_same}
use Rattle.cache_entries.proofs.Making.{whole_of}
use Rattle.write_place.specs.State.{AtomPlaces, AtomsThere}

-- ---- the places of the file's atoms lie below OPEN

module _ (w w' : List ℕ) (same : (k : ℕ) → k < OPEN → at w' k ≡ at w k) (few : at w ATOM_COUNT ≤ 1024) where
  pub places_kept : (input : List ℕ) → AtomPlaces input w → AtomPlaces input w'
  places_kept input a =
      let n = same ATOM_COUNT (omega arith) in
      record {
        short = a.short;
        ordered = λ i l. let s = same (ATOMS + 2 * i) (omega arith) in let e = same (ATOMS + 2 * i + 1) (omega arith) in omega (arith, a.ordered i (omega arith));
        inside = λ i l. let e = same (ATOMS + 2 * i + 1) (omega arith) in omega (arith, a.inside i (omega arith));
      }

  pub atoms_kept : (input : List ℕ) (f : File) → Tables f w → AtomsThere input f w → AtomsThere input f w'
  unfolding atom_bytes
  atoms_kept input f t a =
      let n = t.atom_count in
      record { bytes = λ i l. rw (same (ATOMS + 2 * i) (omega arith), same (ATOMS + 2 * i + 1) (omega arith)) (a.bytes i l) }

-- ---- the cache lies from MAPS to SEEN

module _ (w w' : List ℕ) (len : length w' ≡ length w) (low : (k : ℕ) → k < OPEN → at w' k ≡ at w k)
    (maps : (k : ℕ) → k < 1024 → at w' (MAPS + k) ≡ at w (MAPS + k)) (cache : (k : ℕ) → USED ≤ k → k < SEEN → at w' k ≡ at w k) (wh : Whole w) where
  pub whole_kept : at w' SENTINEL_ENTRY ≤ at w USED → Whole w'
  whole_kept sent =
      let u : at w' USED ≡ at w USED = cache USED (omega arith) (omega arith) in
      let few = wh.handles.few_pairs in
      let room = wh.sound.used in
      whole_of w w' wh (sound_kept w w' len cache wh.sound) low
      (λ e h. rw (cache (LEFT + e) (omega arith) (omega arith), cache (RIGHT + e) (omega arith) (omega arith)) (wh.keys e (omega arith)))
      (λ i h. let m = maps i (omega arith) in omega (arith, wh.maps i h))
      (omega arith)

  -- The cache, with the sentinel's entry that the words have.
  pub holds_kept : (f : File) (c : Cache) (o : Option ℕ) → Tables f w → Holds f w c → o ≡ entry_or_none (at w' SENTINEL_ENTRY)
      → Holds f w' (record { entries = c.entries; mapped = c.mapped; sentinel_entry = o })
  holds_kept f c o t h e =
      let few = wh.handles.few_pairs in
      let n = t.pair_count in
      record {
        entries = h.entries ∙ ap (λ (xs : List Row). map (entry_of f) xs) (sym (rows_kept w w' len cache wh.sound));
        mapped = λ i l. h.mapped i l ∙ ap entry_or_none (sym (maps i (omega arith)));
        sentinel_entry = e;
      }

  pub unmapped_kept : unmapped w' (at w' PAIR_COUNT) ≡ unmapped w (at w PAIR_COUNT)
  unmapped_kept = rw (low PAIR_COUNT (omega arith)) (unmapped_same w w' (at w PAIR_COUNT) (λ k l. maps k (omega (arith, wh.handles.few_pairs))))

  pub all_counts_kept : all_counts w' ENTRIES ≡ all_counts w ENTRIES
  all_counts_kept = counts_kept w w' len cache wh.sound ENTRIES (omega arith)
