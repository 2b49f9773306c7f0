-- Laws of the loop over items: what is read from where the reader stands, with so many items at most, is what the whole input gives.
-- Assumes nothing.
use Rattle.std.specs.Prelude.{Result, Ok, Err}
use Prim.Native.Nat.{ℕ, zero, suc, ◌-◌, ◌<◌}
use mathlib.Core.Path.{◌≡◌, refl, ap, subst, ◌∙◌}
use mathlib.Core.List.{List}
use native.Mathlib.Omega.{arith}
use lib.ListN.{length}
use Rattle.spec_reading.specs.Format.{At, Step, step, then, run, read}
use Rattle.spec_reading.specs.Store.{Stored, store_values, read_stored}
use Rattle.spec_reading.proofs.Sound.{sound_start}
use Rattle.read_store.specs.Layout.{ops_of, values_of}
use Rattle.read_item.specs.Whole.{reader_at, Lent, Stands, item_of}
use Rattle.read_item.specs.Step.{Stepped}
use Rattle.read_item.specs.declared.settle.Reader.{Reader}
use Rattle.read_item.specs.declared.settle.Item.{Item}
use Rattle.read_item.specs.declared.settle.Item.TheVariants as item
use Rattle.read_item.specs.declared.read_error.ReadError.{ReadError}
use Rattle.read_item.specs.declared.read_error.ReadError.TheVariants as read_error
use Rattle.read_call.specs.read_items.Verdict.{start, ReadAll}

run_more : (left : ℕ) (a : At Stored) → 0 < left → run store_values left a ≡ then store_values (step store_values a) (λ b. run store_values (left - 1) b)
unfolding run
run_more zero a h = absurd (omega arith)
run_more (suc n) a h =
    let e : n ≡ suc n - 1 = omega arith in
    ap (λ (m : ℕ). then store_values (step store_values a) (λ b. run store_values m b)) e

-- The reader stands before an item, and at most `left` items from there give what the whole input gives.
pub record Reads (input w p a b : List ℕ) (r : Reader) (left : ℕ) : Type 0 where
  pub stands : Stands input w p a b r
  pub same : read_stored input ≡ run store_values left (reader_at input w p a b r)

pub reads_start : (input w p a b : List ℕ) → Lent input w p a b start → Reads input w p a b start (length input)
unfolding read ops_of values_of
reads_start input w p a b l = record { stands = record { lent = l; sound = sound_start; lists = record { all = refl; few = omega arith } }; same = refl }

module _ (input w p a b : List ℕ) (r : Reader) (left : ℕ) (h : Reads input w p a b r left) where
  -- No item is left.
  pub reads_none : left ≡ 0 → ReadAll input w p a b (read_stored input) (Err read_error.SerializationError)
  unfolding run
  reads_none e = record { same = h.same ∙ ap (λ (m : ℕ). run store_values m (reader_at input w p a b r)) e; ends = tt }

  module _ (some_left : 0 < left) (w' p' a' b' : List ℕ) where
    stepped : (i : Result Item ReadError) → Stepped input w p a b r w' p' a' b' i
        → read_stored input ≡ then store_values (item_of input w' p' a' b' i) (λ c. run store_values (left - 1) c)
    stepped i s =
        h.same ∙ run_more left (reader_at input w p a b r) some_left
        ∙ ap (λ (x : Step Stored). then store_values x (λ c. run store_values (left - 1) c)) s.same

    pub reads_go : (r' : Reader) → Stepped input w p a b r w' p' a' b' (Ok (item.Go r')) → (m : ℕ) → left - 1 ≡ m → Reads input w' p' a' b' r' m
    reads_go r' s m e = subst (Reads input w' p' a' b' r') e (record { stands = s.stands; same = stepped (Ok (item.Go r')) s })

    pub reads_whole : (r' : Reader) → Stepped input w p a b r w' p' a' b' (Ok (item.Whole r')) → ReadAll input w' p' a' b' (read_stored input) (Ok r')
    reads_whole r' s = record { same = stepped (Ok (item.Whole r')) s; ends = s.stands }

    pub reads_refused : (e : ReadError) → Stepped input w p a b r w' p' a' b' (Err e) → ReadAll input w' p' a' b' (read_stored input) (Err e)
    reads_refused e s = record { same = stepped (Err e) s; ends = tt }
