-- What the words say of the cache that they hold: the entry of an atom.
-- Assumes nothing.
use Prim.Native.Nat.{ℕ, ◌<◌}
use mathlib.Core.Path.{◌≡◌, refl, sym, ap, ◌∙◌}
use mathlib.Core.List.{List}
use mathlib.Core.Option.{Option, none, some}
use Rattle.std.specs.Prelude.{Some, None}
use Rattle.std.specs.Option.{unwrap_or}
use native.Mathlib.Omega.{arith}
use Rattle.words.specs.Words.{at}
use Rattle.allocator.specs.Handle.{node_of}
use Rattle.spec_session.specs.File.{File}
use Rattle.spec_session.specs.Cache.{Entry, Cache, atom_key, find_key}
use Rattle.spec_session.specs.Writer.{or_zero, atom_entry}
use Rattle.work_layout.specs.Layout.{USED, ENTRIES}
use Rattle.work_layout.specs.Rows.{row_of, rows_of}
use Rattle.std.specs.Prelude as code
use Rattle.work_layout.specs.declared.EntryIndex.{EntryIndex}
use Rattle.cache_entries.specs.table.Effects.{find_row, option_of}
use Rattle.cache_entries.proofs.table.Rows.{find_at}
use Rattle.cache_entries.specs.Meaning.{ATOM_KEY, bytes_named, Tables, Whole, Holds}
use Rattle.cache_entries.specs.Effects.{Stands}
use Rattle.cache_entries.proofs.Keys.{find_atom}
use Rattle.cache_entries.specs.lookup.Effects.{AtomEntry}

-- ---- what the getters give

-- Entry 0 stands for none.
unwrapped : (r : code.Option EntryIndex) (d x : EntryIndex) → d.0 ≡ 0 → x ≡ unwrap_or r d → x.0 ≡ or_zero (option_of r)
unwrapped (Some e) d x z q = ap (λ (y : EntryIndex). y.0) q
unwrapped None d x z q = ap (λ (y : EntryIndex). y.0) q ∙ z

-- The entry that a lookup gives, and entry 0 where it gives none.
module _ {w : List ℕ} {h key : ℕ} (wh : Whole w) (s : Stands w h key) (r : code.Option EntryIndex) (q : option_of r ≡ find_row ATOM_KEY key (rows_of w)) where
  looked_up : (f : File) (c : Cache) → Tables f w → Holds f w c → atom_entry c (bytes_named f (node_of h)) ≡ or_zero (option_of r)
  looked_up f c t ho =
      ap (λ (b : List ℕ). or_zero (find_key (atom_key b) c.entries)) (sym (s.bytes f t))
      ∙ ap (λ (es : List Entry). or_zero (find_key (atom_key (bytes_named f (node_of key))) es)) ho.entries
      ∙ ap or_zero (find_atom f w t wh key s.first ∙ sym q)

  pub atom_or : (d x : EntryIndex) → d.0 ≡ 0 → x ≡ unwrap_or r d → AtomEntry w h x.0
  unfolding rows_of
  atom_or d x z p = record { low = go (option_of r) refl; is = λ f c t ho. looked_up f c t ho ∙ sym is_zero }
    where
      is_zero : x.0 ≡ or_zero (option_of r)
      is_zero = unwrapped r d x z p

      go : (o : Option ℕ) → option_of r ≡ o → x.0 < ENTRIES
      go none s = let y : x.0 ≡ 0 = is_zero ∙ ap or_zero s in omega arith
      go (some e) s =
          let y : x.0 ≡ e = is_zero ∙ ap or_zero s in
          let l = (find_at (at w USED) (row_of w) ATOM_KEY key e (sym q ∙ s)).0 in
          omega (arith, wh.sound.used)
