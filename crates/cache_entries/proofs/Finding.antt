-- The entry of an atom and of a pair, found or added under the words of its key.
-- Assumes nothing.
use Prim.Native.Nat.{ℕ, ◌<◌}
use mathlib.Core.Path.{◌≡◌, refl, sym, ap, ◌∙◌}
use mathlib.Core.List.{List}
use native.Mathlib.Omega.{arith}
use Rattle.words.specs.Words.{at}
use Rattle.allocator.specs.Handle.{node_of}
use Rattle.spec_session.specs.File.{File}
use Rattle.spec_session.specs.Cache.{Cache, atom_key, pair_key, pair_length, length_at, find_or_add}
use Rattle.work_layout.specs.Layout.{USED}
use Rattle.work_layout.specs.Rows.{length_of}
use Rattle.cache_entries.specs.table.Effects.{Interned}
use Rattle.cache_entries.specs.Meaning.{ATOM_KEY, bytes_named, atom_words, pair_words, Whole, Holds}
use Rattle.cache_entries.specs.Effects.{Stands, Measured, atom_action, pair_action, Made}
use Rattle.cache_entries.proofs.Keys.{key_atom, key_pair, find_atom, find_pair}
use Rattle.cache_entries.proofs.Lift.{length_of_rows}
use Rattle.cache_entries.proofs.Making.{interned_made}

pub atom_made : {w w' : List ℕ} {h k n x : ℕ} → Whole w → Stands w h k → Measured w h n → Interned w w' ATOM_KEY k n x → Made (atom_action h) w w' x
atom_made {w} {w'} {h} {k} {n} {x} wh s m i =
    interned_made w w' ATOM_KEY k n x i wh (atom_words refl s.first) (atom_action h)
    (λ f c t ho.
    record {
      key = atom_key (bytes_named f (node_of k));
      is = key_atom f k;
      found = find_atom f w t wh k s.first;
      act = λ j. find_or_add (atom_key (sym (s.bytes f t) j)) (sym (m.measured f t) j) c;
    })

module _ {w w' : List ℕ} {l r a b n x : ℕ} (wh : Whole w) (hl : l < at w USED) (hr : r < at w USED) (ea : a ≡ length_of w l) (eb : b ≡ length_of w r)
    (en : n ≡ pair_length a b) (i : Interned w w' l r n x) where
  lengths : (f : File) (c : Cache) → Holds f w c → pair_length (length_at l c.entries) (length_at r c.entries) ≡ n
  lengths f c ho =
      let la : length_at l c.entries ≡ a = ap (length_at l) ho.entries ∙ length_of_rows f w l hl ∙ sym ea in
      let lb : length_at r c.entries ≡ b = ap (length_at r) ho.entries ∙ length_of_rows f w r hr ∙ sym eb in
      (λ j. pair_length (la j) (lb j)) ∙ sym en

  pub pair_made : Made (pair_action l r) w w' x
  pair_made =
      interned_made w w' l r n x i wh (pair_words hl hr) (pair_action l r)
      (λ f c t ho.
      record {
        key = pair_key l r;
        is = key_pair f l r (omega (arith, wh.sound.used));
        found = find_pair f w t wh l r hl;
        act = ap (λ (m : ℕ). find_or_add (pair_key l r) m c) (lengths f c ho);
      })
