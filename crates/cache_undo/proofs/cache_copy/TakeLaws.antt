-- Laws of taking the newest entries off their slots: what one turn leaves, and the end.
-- Assumes nothing.
use Prim.Native.Nat.{ℕ, ◌+◌, ◌≤◌, ◌<◌}
use mathlib.Core.Path.{◌≡◌, sym, ap, ◌∙◌}
use mathlib.Core.List.{List, [], ◌∷◌}
use native.Mathlib.Omega.{arith}
use native.Mathlib.Decide.{ℕ_discrete}
use lib.ListN.{length, set, length-set}
use lib.Seq.{get_or-set_same, get_or-set_other}
use Rattle.words.specs.Words.{at, WORK}
use Rattle.words.proofs.Words.{Store, stores, Misses, miss, hits, length_stores}
use Rattle.work_layout.specs.Layout.{USED, COUNTS, LEFT, RIGHT, NEXT, HEADS, PARENTS, ENTRIES, SLOTS}
use Rattle.work_layout.specs.Rows.{slot_of, slot_at, prev, Sound}
use Rattle.work_layout.specs.Prev.{prev_past}
use Rattle.cache_undo.specs.cache_copy.Effects.{TakenOff}

-- The entries from number e on are taken off; their number stands as it was.
pub record Taking (w w' : List ℕ) (e : ℕ) : Type 0 where
  pub len : length w' ≡ length w
  pub heads : (s : ℕ) → s < SLOTS → at w' (HEADS + s) ≡ prev (slot_at w) s e
  pub counts : (d : ℕ) → d < e → at w' (COUNTS + d) ≡ at w (COUNTS + d)
  pub none : (d : ℕ) → e ≤ d → d < ENTRIES → at w' (COUNTS + d) ≡ 0
  pub keys : (j : ℕ) → LEFT ≤ j → j < HEADS → at w' j ≡ at w j
  pub low : (j : ℕ) → j < COUNTS → at w' j ≡ at w j
  pub high : (j : ℕ) → PARENTS ≤ j → at w' j ≡ at w j

-- One entry more, e: its slot's chain begins at the entry before it.
module _ (w w₁ : List ℕ) (from e slot : ℕ) (so : Sound w) (h : e < at w USED) (q : from ≡ e + 1) (hs : slot ≡ slot_of (at w₁ (LEFT + e)) (at w₁ (RIGHT + e)))
    (t : Taking w w₁ from) where
  abbrev ss : List Store
  ss = record { to = HEADS + slot; word = at w₁ (NEXT + e) } ∷ record { to = COUNTS + e; word = 0 } ∷ []

  e_low : e < ENTRIES
  e_low = omega (arith, so.used)

  slot_low : slot < SLOTS
  slot_low = omega arith

  slot_is : slot ≡ slot_at w e
  slot_is = let z = e_low in hs ∙ rw (t.keys (LEFT + e) (omega arith) (omega arith), t.keys (RIGHT + e) (omega arith) (omega arith))

  same : (k : ℕ) → Misses k ss → at (stores w₁ ss) k ≡ at w₁ k
  same k m = miss ss w₁ k m

  head : at (stores w₁ ss) (HEADS + slot) ≡ prev (slot_at w) slot e
  head =
      hits ss 0 w₁ (omega arith) (omega (arith, so.long, t.len, slot_low)) (omega (arith, e_low))
      ∙ t.keys (NEXT + e) (omega arith) (omega (arith, e_low)) ∙ so.chained.nexts e h ∙ ap (λ (x : ℕ). prev (slot_at w) x e) (sym slot_is)

  heads : (s : ℕ) → s < SLOTS → Dec (s ≡ slot) → at (stores w₁ ss) (HEADS + s) ≡ prev (slot_at w) s e
  heads s l (yes x) = rw x head
  heads s l (no x) =
      same (HEADS + s) (omega (arith, e_low)) ∙ t.heads s l ∙ ap (prev (slot_at w) s) q ∙ prev_past (slot_at w) s e (λ y. x (omega (arith, slot_is)))

  none : (d : ℕ) → e ≤ d → d < ENTRIES → Dec (d ≡ e) → at (stores w₁ ss) (COUNTS + d) ≡ 0
  none d l k (yes x) = rw x (hits ss 1 w₁ (omega arith) (omega (arith, so.long, t.len, e_low)) tt)
  none d l k (no x) = same (COUNTS + d) (omega arith) ∙ t.none d (omega arith) k

  pub taking_more : Taking w (stores w₁ ss) e
  taking_more =
      let z = e_low in
      let y = slot_low in
      record {
        len = length_stores ss w₁ ∙ t.len;
        heads = λ s l. heads s l (ℕ_discrete s slot);
        counts = λ d l. same (COUNTS + d) (omega arith) ∙ t.counts d (omega arith);
        none = λ d l k. none d l k (ℕ_discrete d e);
        keys = λ j l k. same j (omega arith) ∙ t.keys j l k;
        low = λ j l. same j (omega arith) ∙ t.low j l;
        high = λ j l. same j (omega arith) ∙ t.high j l;
      }

-- At the end only the number of entries is left to store.
pub taken_off : (w w₁ : List ℕ) (n : ℕ) → WORK ≤ length w → Taking w w₁ n → n ≤ ENTRIES → TakenOff w (set w₁ USED n) n
taken_off w w₁ n long t few = record {
  len = length-set w₁ USED n ∙ t.len;
  used = get_or-set_same w₁ USED n 0 (omega (arith, t.len));
  heads = λ s l. apart (HEADS + s) (omega arith) ∙ t.heads s l;
  counts = λ d l. apart (COUNTS + d) (omega arith) ∙ t.counts d l;
  none = λ d l k. apart (COUNTS + d) (omega arith) ∙ t.none d l k;
  keys = λ j l k. apart j (omega arith) ∙ t.keys j l k;
  low = λ j l. apart j (omega arith) ∙ t.low j (omega arith);
  high = λ j l. apart j (omega arith) ∙ t.high j l;
}
  where
    apart : (j : ℕ) → (j ≡ USED → ⊥) → at (set w₁ USED n) j ≡ at w₁ j
    apart j d = get_or-set_other w₁ USED j n 0 d
