-- What `find_or_add` leaves.
-- Assumes nothing.
use Prim.Native.Nat.{ℕ}
use mathlib.Core.Path.{◌≡◌, refl, sym, ◌∙◌}
use mathlib.Core.List.{List}
use mathlib.Core.Option.{none, some}
use native.Mathlib.Omega.{arith}
use Rattle.words.specs.Words.{at}
use Rattle.work_layout.specs.Layout.{USED}
use Rattle.work_layout.specs.Rows.{row_of, rows_of, Sound}
use Rattle.cache_entries.specs.table.Effects.{find_row, Inserted, Interned}
use Rattle.cache_entries.proofs.table.Rows.{find_at}
use Rattle.cache_entries.proofs.Lift.{length_rows}

-- An entry was found.
pub found_interned : (w : List ℕ) (l r len e : ℕ) → Sound w → some e ≡ find_row l r (rows_of w) → Interned w w l r len e
unfolding rows_of
found_interned w l r len e so q = record {
  sound = so;
  made = rw (← q);
  low = (find_at (at w USED) (row_of w) l r e (sym q)).0;
  keys = λ k h. (refl, refl);
  key = let k = find_at (at w USED) (row_of w) l r e (sym q) in (k.1, k.2);
  new = λ k a b. absurd (omega arith);
  more = omega arith;
  few = omega arith;
  counts = refl;
  kept = record { low = λ k h. refl; high = λ k h. refl };
}

-- None was found, and one was added.
pub new_interned : (w w' : List ℕ) (l r len x : ℕ) → none ≡ find_row l r (rows_of w) → Inserted w w' l r len x → Interned w w' l r len x
new_interned w w' l r len x q i =
    let u = i.used in
    let a = i.rows in
    let b = i.index ∙ sym (length_rows w) in
    record {
      sound = i.sound;
      made = rw (← q) (λ j. (a j, b j));
      low = omega (arith, i.index);
      keys = i.keys;
      key = i.key;
      new = λ k c d. omega (arith, i.index);
      more = omega arith;
      few = omega arith;
      counts = i.counts;
      kept = i.kept;
    }
