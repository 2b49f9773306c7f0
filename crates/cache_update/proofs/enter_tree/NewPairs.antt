-- What the tests of `enter` say of a pair that has no entry yet.
-- Assumes nothing.
use Rattle.std.proofs.Common.{◌≡◌, ℕ, ◌+◌, ◌*◌, Bool, false, List, sym, ap, ◌∙◌, eqb}
use Rattle.std.specs.Prelude.{None}
use Rattle.std.specs.Prelude as code
use Rattle.words.specs.Words.{at}
use Rattle.allocator.specs.Handle.{node_of, is_atom, index_of}
use Rattle.work_layout.specs.declared.EntryIndex.{EntryIndex}
use Rattle.work_layout.specs.Layout.{PAIRS, PAIR_COUNT, SENTINEL, MAPS}
use Rattle.cache_entries.specs.Meaning.{Names, Whole, entry_or_none}
use Rattle.cache_entries.specs.Effects.{Room}
use Rattle.cache_entries.specs.table.Effects.{option_of}
use Rattle.cache_entries.proofs.table.Rows.{word_none}
use Rattle.cache_entries.proofs.Entering.{NewPair, test_other, test_pair}

pub is_new : {w : List ℕ} {h i a b : ℕ} {s t : Bool} {r : code.Option EntryIndex}
    → Whole w × Names w (at w PAIR_COUNT) h × Room w h
    → s ≡ eqb (at w SENTINEL) h → s ≡ false → t ≡ is_atom (node_of h) → t ≡ false → i ≡ index_of (node_of h)
    → option_of r ≡ entry_or_none (at w (MAPS + i)) → r ≡ None
    → a ≡ at w (PAIRS + 2 * i) → b ≡ at w (PAIRS + 2 * i + 1) → NewPair w h i a b
is_new {w} {h} q sentinel other atom is_pair index found nothing left right = record {
  whole = q.0;
  names = q.1;
  other = test_other sentinel other;
  is_pair = test_pair w h q.1 atom is_pair index;
  empty = word_none _ (sym (ap option_of nothing) ∙ found);
  room = q.2;
  left = left;
  right = right;
}
