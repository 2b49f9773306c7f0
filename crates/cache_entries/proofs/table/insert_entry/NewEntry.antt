-- What `insert` leaves.
-- Assumes nothing.
use Prim.Native.Nat.{ℕ, zero, suc, ◌+◌, ◌*◌, ◌/◌, ◌%◌, ◌≤◌, ◌<◌}
use mathlib.Core.Path.{◌≡◌, refl, sym, ap, ◌∙◌}
use mathlib.Core.Bool.{Bool, true, false, cond, ◌&&◌}
use mathlib.Core.List.{List, [], ◌∷◌, ◌++◌}
use mathlib.Core.Option.{Option, none, some}
use native.Mathlib.Omega.{arith}
use native.Mathlib.Nat.{not-suc-le-zero}
use native.Mathlib.Numerals.{add-one}
use native.Mathlib.Decide.{ℕ_discrete}
use lib.Dec.{eqb}
use lib.ListN.{length}
use borrow.Author.Tests.{eq-eqb, ne_eqb}
use Rattle.words.specs.Choice.{clash}
use Rattle.words.specs.Words.{at, tabulate}
use Rattle.words.proofs.Words.{Store, stores, Misses, miss, hits, length_stores, tabulate_more}
use Rattle.spec_session.specs.Cache.{later}
use Rattle.work_layout.specs.Layout.{USED, COUNTS, LEFT, RIGHT, LOW, HIGH, NEXT, HEADS, SLOTS, ENTRIES, MAX_PARENTS}
use Rattle.work_layout.specs.Counts.{counts_same}
use Rattle.work_layout.specs.Parents.{link_same}
use Rattle.work_layout.specs.Rows.{Row, link_at, parents_of, row_of, rows_of, new_row, length_of, slot_of, slot_at, prev, Chained, Distinct, Sound}
use Rattle.work_layout.specs.Prev.{prev_same}
use Rattle.cache_entries.specs.table.Effects.{find_row, Inserted}
use Rattle.cache_entries.proofs.table.Rows.{row_same, Missing}

later_none : (o : Option ℕ) → later o ≡ none → o ≡ none
later_none none q = refl
later_none (some e) q = clash cc

-- Where nothing is found, no row has the key.
none_missing : (n : ℕ) (f : ℕ → Row) (l r : ℕ) → find_row l r (tabulate n f) ≡ none → Missing f l r n
unfolding tabulate
none_missing zero f l r q k h a b = not-suc-le-zero h
none_missing (suc n) f l r q zero h a b =
    let z : ◌≡◌ {A = Option ℕ} (some 0) none = rw (eq-eqb (f 0).left l a, eq-eqb (f 0).right r b) at q in
    clash cc
none_missing (suc n) f l r q (suc k) h a b =
    go (eqb (f 0).left l && eqb (f 0).right r) (find_row l r (tabulate n (λ j. f (suc j)))) q
    (λ p. none_missing n (λ j. f (suc j)) l r p k (omega arith) a b)
  where
    go : (t : Bool) (o : Option ℕ) → cond t (some 0) (later o) ≡ none → (o ≡ none → ⊥) → ⊥
    go true o p g = clash cc
    go false o p g = g (later_none o p)

module _ (w : List ℕ) (l r len n s : ℕ) (so : Sound w) (room : at w USED < ENTRIES) (new : find_row l r (rows_of w) ≡ none) (hn : n ≡ at w USED) (hs : s ≡ slot_of l r) where
  abbrev ss : List Store
  ss =
      record { to = LEFT + n; word = l } ∷
      record { to = RIGHT + n; word = r } ∷
      record { to = LOW + n; word = len % 4294967296 } ∷
      record { to = HIGH + n; word = len / 4294967296 } ∷
      record { to = NEXT + n; word = at w (HEADS + s) } ∷
      record { to = HEADS + s; word = n + 1 } ∷
      record { to = USED; word = n + 1 } ∷
      []

  w' : List ℕ
  w' = stores w ss

  long : length w' ≡ length w
  unfolding w'
  long = length_stores ss w

  s_low : s < SLOTS
  s_low = omega arith

  -- A place that is not stored to.
  same : (k : ℕ) → Misses k ss → at w' k ≡ at w k
  unfolding w'
  same k m = miss ss w k m

  used : at w' USED ≡ n + 1
  unfolding w'
  used = hits ss 6 w (omega arith) (omega (arith, so.long)) tt

  head : at w' (HEADS + s) ≡ n + 1
  unfolding w'
  head = hits ss 5 w (omega arith) (omega (arith, so.long, s_low)) (omega arith)

  next : at w' (NEXT + n) ≡ at w (HEADS + s)
  unfolding w'
  next = hits ss 4 w (omega arith) (omega (arith, so.long)) (omega arith)

  high : at w' (HIGH + n) ≡ len / 4294967296
  unfolding w'
  high = hits ss 3 w (omega arith) (omega (arith, so.long)) (omega arith)

  low : at w' (LOW + n) ≡ len % 4294967296
  unfolding w'
  low = hits ss 2 w (omega arith) (omega (arith, so.long)) (omega arith)

  right : at w' (RIGHT + n) ≡ r
  unfolding w'
  right = hits ss 1 w (omega arith) (omega (arith, so.long)) (omega arith)

  left : at w' (LEFT + n) ≡ l
  unfolding w'
  left = hits ss 0 w (omega arith) (omega (arith, so.long)) (omega arith)

  -- The words of the entries that are there, and all counts and parents, are as they were.
  count_kept : (k : ℕ) → k < ENTRIES → at w' (COUNTS + k) ≡ at w (COUNTS + k)
  count_kept k h = let z = s_low in same (COUNTS + k) (omega arith)

  link_kept : (e i : ℕ) → e < ENTRIES → i < MAX_PARENTS → link_at w' e i ≡ link_at w e i
  link_kept e i h l = let z = s_low in link_same w w' e i h l (λ k a b. same k (omega arith))

  left_kept : (k : ℕ) → k < n → at w' (LEFT + k) ≡ at w (LEFT + k)
  left_kept k h = let z = s_low in same (LEFT + k) (omega arith)

  right_kept : (k : ℕ) → k < n → at w' (RIGHT + k) ≡ at w (RIGHT + k)
  right_kept k h = let z = s_low in same (RIGHT + k) (omega arith)

  slot_here : slot_at w' n ≡ s
  slot_here = rw (left, right, hs)

  slot_kept : (k : ℕ) → k < n → slot_at w' k ≡ slot_at w k
  slot_kept k h = rw (left_kept k h, right_kept k h)

  prev_kept : (t m : ℕ) → m ≤ n → prev (slot_at w') t m ≡ prev (slot_at w) t m
  prev_kept t m h = prev_same (slot_at w') (slot_at w) t m (λ k q. slot_kept k (omega arith))

  chained : Chained w'
  unfolding prev
  chained = record { heads = λ t h. heads t h (ℕ_discrete t s); nexts = λ e h. nexts e (ℕ_discrete e n) (omega (arith, used)) }
    where
      heads : (t : ℕ) → t < SLOTS → Dec (t ≡ s) → at w' (HEADS + t) ≡ prev (slot_at w') t (at w' USED)
      heads t h (yes q) = rw (used, q, head, add-one n, eq-eqb (slot_at w' n) s slot_here)
      heads t h (no q) =
          let z = s_low in
          same (HEADS + t) (omega arith) ∙ so.chained.heads t h
          ∙ rw (← hn, used, add-one n, ne_eqb (slot_at w' n) t (λ y. q (sym y ∙ slot_here)), prev_kept t n (omega arith))

      nexts : (e : ℕ) → Dec (e ≡ n) → e < n + 1 → at w' (NEXT + e) ≡ prev (slot_at w') (slot_at w' e) e
      nexts e (yes q) h = rw (q, next, slot_here, prev_kept s n (omega arith)) (so.chained.heads s s_low ∙ rw hn)
      nexts e (no q) h =
          let z = s_low in
          same (NEXT + e) (omega arith) ∙ so.chained.nexts e (omega arith) ∙ rw (slot_kept e (omega arith), prev_kept (slot_at w e) e (omega arith))

  -- No entry had the key before.
  missing : (k : ℕ) → k < n → at w (LEFT + k) ≡ l → at w (RIGHT + k) ≡ r → ⊥
  unfolding rows_of
  missing k h a b = none_missing (at w USED) (row_of w) l r new k (omega arith) a b

  distinct : Distinct w'
  distinct = record { distinct = λ i j a b p q. go i j a (omega (arith, used)) (ℕ_discrete j n) p q }
    where
      go : (i j : ℕ) → i < j → j < n + 1 → Dec (j ≡ n) → at w' (LEFT + i) ≡ at w' (LEFT + j) → at w' (RIGHT + i) ≡ at w' (RIGHT + j) → ⊥
      go i j a b (yes e) p q =
          missing i (omega arith) (sym (left_kept i (omega arith)) ∙ p ∙ ap (λ (x : ℕ). at w' (LEFT + x)) e ∙ left)
          (sym (right_kept i (omega arith)) ∙ q ∙ ap (λ (x : ℕ). at w' (RIGHT + x)) e ∙ right)
      go i j a b (no e) p q =
          so.distinct.distinct i j a (omega arith) (sym (left_kept i (omega arith)) ∙ p ∙ left_kept j (omega arith))
          (sym (right_kept i (omega arith)) ∙ q ∙ right_kept j (omega arith))

  sound : Sound w'
  sound = record {
    long = omega (arith, long, so.long);
    used = omega (arith, used);
    counts = λ e h. rw (count_kept e h) (so.counts e h);
    unused = λ e a b. count_kept e b ∙ so.unused e (omega (arith, used)) b;
    links = λ e i h m. links e i h (rw (count_kept e h) at m);
    chained = chained;
    distinct = distinct;
  }
    where
      links : (e i : ℕ) → e < ENTRIES → i < at w (COUNTS + e) → link_at w' e i < 2 * at w' USED
      links e i h m = omega (arith, used, link_kept e i h (omega (arith, so.counts e h)), so.links e i h m)

  row_kept : (k : ℕ) → k < n → row_of w' k ≡ row_of w k
  row_kept k h =
      let z = s_low in
      row_same w w' k so (omega arith) (left_kept k h) (right_kept k h) (same (LOW + k) (omega arith)) (same (HIGH + k) (omega arith))
      (count_kept k (omega arith)) (λ i q. link_kept k i (omega arith) q)

  row_new : row_of w' n ≡ new_row l r len
  unfolding parents_of tabulate
  row_new =
      let c : at w' (COUNTS + n) ≡ 0 = count_kept n (omega arith) ∙ so.unused n (omega arith) (omega arith) in
      let ps : parents_of w' n ≡ [] = rw c in
      let ln : length_of w' n ≡ len = rw (low, high) (omega arith) in
      λ i. record { left = left i; right = right i; parents = ps i; len = ln i }

  rows : rows_of w' ≡ rows_of w ++ new_row l r len ∷ []
  unfolding rows_of
  rows = rw (used, ← hn) (tabulate_more n (row_of w) (row_of w') row_kept ∙ ap (λ (y : Row). tabulate n (row_of w) ++ y ∷ []) row_new)

  pub inserted : Inserted w (stores w ss) l r len n
  unfolding w'
  inserted = record {
    sound = sound;
    index = hn;
    used = used ∙ rw hn;
    rows = rows;
    keys = λ k h. (left_kept k (omega arith), right_kept k (omega arith));
    key = (left, right);
    counts = counts_same w w' ENTRIES count_kept;
    kept = record { low = λ k h. same k (omega arith); high = λ k h. let z = s_low in same k (omega arith) };
  }
