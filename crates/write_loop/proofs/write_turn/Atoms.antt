-- An atom in full, from where it lies in the file, or from its value.
-- Assumes nothing.
use Prim.Native.Nat.{ℕ, ◌-◌, ◌^◌, ◌≤◌, ◌<◌}
use mathlib.Core.Path.{◌≡◌, refl, sym, ap, ◌∙◌}
use mathlib.Core.Bool.{true, false, false≢true}
use mathlib.Core.List.{List}
use native.Mathlib.Omega.{arith}
use lib.ListN.{length, take, drop, length-take, length-drop}
use Rattle.words.specs.Words.{at}
use Rattle.allocator.specs.Handle.{Node, pair, listed_atom, small_atom, unknown, node_of, index_of, is_atom, is_pair}
use Rattle.allocator.specs.SmallAtom.{small_bytes}
use Rattle.allocator.specs.SmallAtomLaws.{len_at_most, length_small_bytes}
use Rattle.spec_session.specs.File.{named}
use Rattle.spec_session.specs.Items.{atom_item}
use Rattle.work_layout.specs.Layout.{PAIR_COUNT}
use Rattle.write_counts.specs.declared.Counts.{Counts}
use Rattle.std.specs.Prelude.{Result}
use Rattle.write_item.specs.declared.OutputFull.{OutputFull}
use Rattle.write_item.specs.Answers.{ItemPut}
use Rattle.cache_entries.specs.Meaning.{bytes_named, Names, Whole}
use Rattle.cache_entries.specs.Effects.{is_listed}
use Rattle.cache_entries.proofs.Atoms.{listed_is, small_is, index_low, listed_low}
use Rattle.write_place.specs.State.{AtomPlaces}
use Rattle.work_layout.specs.Rows.{start_of, end_of, atom_bytes}
use Rattle.write_loop.specs.Effects.{AtomPut}

-- A node that is named and no pair is an atom.
pub named_atom : (a p : ℕ) (n : Node) → named a p n ≡ true → is_pair n ≡ false → is_atom n ≡ true
named_atom a p (pair i) q b = absurd (false≢true (sym b))
named_atom a p (listed_atom i) q b = refl
named_atom a p (small_atom v) q b = refl
named_atom a p (unknown k i) q b = absurd (false≢true q)

-- A part of a short file is short.
pub part_short : (file : List ℕ) (a n : ℕ) → length file ≤ 65535 → length (take n (drop a file)) < 2 ^ 34
part_short file a n h = simp (length-take, length-drop) (omega arith)

-- The part that starts and ends where the words say.
pub part_is : (file w : List ℕ) (i a b : ℕ) → a ≡ start_of w i → b ≡ end_of w i → take (b - a) (drop a file) ≡ atom_bytes file w i
unfolding atom_bytes
part_is file w i a b p q = rw (p, q)

module _ {file w : List ℕ} {h : ℕ} {out out' : List ℕ} {counts : Counts} {r : Result Counts OutputFull} (wh : Whole w) (n : Names w (at w PAIR_COUNT) h) where
  -- A listed atom, of number x.
  pub listed_put : (x : ℕ) → AtomPlaces file w → is_listed (node_of h) ≡ true → x ≡ index_of (node_of h)
      → ItemPut out out' counts (atom_item (atom_bytes file w x)) r → AtomPut file w h out out' counts r
  unfolding atom_bytes
  listed_put x places l q a =
      record {
        bytes = atom_bytes file w x;
        short = part_short file (start_of w x) (end_of w x - start_of w x) places.short;
        are = λ f t th.
            ap (bytes_named f) (listed_is (node_of h) l ∙ ap listed_atom (sym q))
            ∙ sym (th.bytes x (omega (arith, q, t.atom_count, listed_low w h wh n l)));
        answer = a;
      }

  pub small_put : (v : ℕ) → is_listed (node_of h) ≡ false → is_atom (node_of h) ≡ true → v ≡ index_of (node_of h)
      → ItemPut out out' counts (atom_item (small_bytes v)) r → AtomPut file w h out out' counts r
  small_put v l b q a =
      record {
        bytes = small_bytes v;
        short = omega (arith, length_small_bytes v, len_at_most 3 v (omega (arith, q, index_low h)));
        are = λ f t th. ap (bytes_named f) (small_is (node_of h) l b ∙ ap small_atom (sym q));
        answer = a;
      }
