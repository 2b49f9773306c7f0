-- One item more in the output.
-- Assumes nothing.
use Prim.Native.Nat.{ℕ, ◌+◌, ◌≤◌, ◌<◌}
use mathlib.Core.Path.{◌≡◌, refl, sym, ap, ◌∙◌, subst}
use mathlib.Core.Bool.{false}
use mathlib.Core.List.{List, [], ◌∷◌, ◌++◌}
use native.Mathlib.Omega.{arith}
use lib.ListN.{length, take}
use lib.Seq.{take-take, take_at, take-length, take-paste, length-take-le, length-paste}
use borrow.Author.Tests.{lt-ltb, le-ltb}
use Rattle.spec_session.specs.Items.{Item, cons_item, atom_item, reference_item, item_size, size_of, item_bytes, output}
use Rattle.spec_session.proofs.Output.{item_size_is, output_more}
use Rattle.spec_session.specs.Writer.{Todo}
use Rattle.spec_session.specs.Steps.{too_deep, room_in}
use Rattle.write_counts.specs.declared.Counts.{Counts}
use Rattle.write_counts.specs.Counts.{counts_of, with_item, Bounded}
use Rattle.write_counts.specs.CountLaws.{counts_more, bounded_more}
use Rattle.std.specs.Prelude.{Ok}
use Rattle.write_item.specs.Answers.{ItemPut}
use Rattle.write_item.proofs.Counting.{PutNext, put_next}
use Rattle.write_place.specs.State.{Standing, Running}

-- ---- an item that was put there

module _ {out out' : List ℕ} {c : Counts} {i : Item} {m : Counts} (a : ItemPut out out' c i (Ok m)) where
  pub put_there : PutNext out out' c.size (item_bytes i) m.size
  put_there = put_next out out' c.size (item_bytes i) m.size a.bytes

  taken_all : take m.size out' ≡ take c.size out ++ item_bytes i
  taken_all =
      let q = put_there in
      ap (λ (k : ℕ). take k out') q.end ∙ ap (take (c.size + length (item_bytes i))) q.is
      ∙ take-paste out c.size (item_bytes i) (length (item_bytes i)) (omega (arith, q.fits)) (omega arith)
      ∙ ap (λ (x : List ℕ). take c.size out ++ x) (take-length (item_bytes i))

  pub taken_before : take c.size out' ≡ take c.size out
  taken_before =
      let q = put_there in
      sym (take-take c.size m.size out' (omega (arith, q.end))) ∙ ap (take c.size) taken_all
      ∙ take_at (take c.size out) (item_bytes i) c.size (length-take-le c.size out (omega (arith, q.fits)))

  length_stays : length out' ≡ length out
  length_stays = let q = put_there in ap length q.is ∙ length-paste out c.size (item_bytes i) (length (item_bytes i)) q.fits (omega arith)

  -- The words are sound, with the counts after it.
  pub running_more : {w w' : List ℕ} {o d v o' d' v' : ℕ} → Running w out o d c v → Standing w' o' d' v' → Running w' out' o' d' m v'
  running_more run st =
      let q = put_there in
      record {
        stands = st;
        fits = omega (arith, q.fits, q.end, length_stays);
        bounded = subst Bounded (sym a.counted) (bounded_more c i run.bounded);
        short = omega (arith, run.short, length_stays);
      }

  module _ (items : List Item) where
    pub counts_written : c ≡ counts_of items → m ≡ counts_of (items ++ i ∷ [])
    counts_written e = a.counted ∙ ap (λ (x : Counts). with_item x i) e ∙ sym (counts_more items i)

    pub bytes_written : take c.size out ≡ output items → take m.size out' ≡ output (items ++ i ∷ [])
    bytes_written e = taken_all ∙ ap (λ (x : List ℕ). x ++ item_bytes i) e ∙ sym (output_more items i)

-- ---- the questions: 12 is asked of a pair's mark alone

-- Not a pair's mark.
abbrev pub WholeItem : Item → Type 0
WholeItem cons_item = ⊥
WholeItem (atom_item bytes) = Unit {0}
WholeItem (reference_item path) = Unit {0}

never_deep : (i : Item) (k : List Todo) → WholeItem i → too_deep i k ≡ false
never_deep cons_item k h = absurd h
never_deep (atom_item bytes) k h = refl
never_deep (reference_item path) k h = refl

module _ (space : ℕ) (k : List Todo) (items : List Item) (i : Item) (shallow : too_deep i k ≡ false) where
  pub room_there : size_of items + length (item_bytes i) ≤ space → room_in space k items i ≡ 0
  room_there h = rw (shallow, le-ltb space (size_of items + item_size i) (omega (arith, item_size_is i)))

  pub room_gone : space < size_of items + length (item_bytes i) → room_in space k items i ≡ 13
  room_gone h = rw (shallow, lt-ltb space (size_of items + item_size i) (omega (arith, item_size_is i)))

module _ (space : ℕ) (k : List Todo) (items : List Item) (i : Item) (w : WholeItem i) where
  pub whole_fits : size_of items + length (item_bytes i) ≤ space → room_in space k items i ≡ 0
  whole_fits h = room_there space k items i (never_deep i k w) h

  pub whole_lacks : space < size_of items + length (item_bytes i) → room_in space k items i ≡ 13
  whole_lacks h = room_gone space k items i (never_deep i k w) h
