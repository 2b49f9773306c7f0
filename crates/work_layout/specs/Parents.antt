-- What writing one parent leaves: its number, and no other changed. What writing a word of two parents leaves.
-- Assumes nothing.
use Rattle.std.specs.Prelude.{◌≡◌, ℕ, ◌+◌, ◌*◌, ◌/◌, ◌%◌, ◌<◌, ◌≤◌, List, length, ◌≢◌, slice_set}
use Rattle.std.proofs.Common.{ap, arith, length-set, get_or-set_same, get_or-set_other}
use Rattle.words.specs.Words.{at, WORK}
use Rattle.work_layout.specs.Layout.{MOVED, MAPS, PARENTS, SEEN, ENTRIES, MAX_PARENTS}
use Rattle.work_layout.specs.Halves.{half, HalfSet}
use Rattle.work_layout.specs.Rows.{links_at, link_at, moved_at}

-- The parents rest on the words of their region, and those that an update moves on theirs.
pub link_same : (w w' : List ℕ) (e i : ℕ) → e < ENTRIES → i < MAX_PARENTS → ((k : ℕ) → PARENTS ≤ k → k < SEEN → at w' k ≡ at w k) → link_at w' e i ≡ link_at w e i
unfolding link_at
link_same w w' e i h l same = ap (half (i % 2)) (same (PARENTS + i / 2 * ENTRIES + e) (omega arith) (omega arith))

pub moved_same : (w w' : List ℕ) (i : ℕ) → i < MAX_PARENTS → ((k : ℕ) → MOVED ≤ k → k < MAPS → at w' k ≡ at w k) → moved_at w' i ≡ moved_at w i
unfolding moved_at
moved_same w w' i l same = ap (half (i % 2)) (same (MOVED + i / 2) (omega arith) (omega arith))

-- Parent i of entry e is v. No other parent of any entry changes, and no word but those of the parents.
pub record ParentSet (w w' : List ℕ) (e i v : ℕ) : Type 0 where
  pub len : length w' ≡ length w
  pub here : link_at w' e i ≡ v
  pub others : (d j : ℕ) → d < ENTRIES → (d ≡ e → j ≢ i) → link_at w' d j ≡ link_at w d j
  pub low : (k : ℕ) → k < PARENTS → at w' k ≡ at w k
  pub high : (k : ℕ) → SEEN ≤ k → at w' k ≡ at w k

pub parent_set : (w w' : List ℕ) (e i v : ℕ) → e < ENTRIES → i < MAX_PARENTS → HalfSet w w' (PARENTS + i / 2 * ENTRIES + e) (i % 2) v → ParentSet w w' e i v
unfolding link_at
parent_set w w' e i v h l s = record {
  len = s.len;
  here = s.here;
  others = λ d j q n. s.others (PARENTS + j / 2 * ENTRIES + d) (j % 2) (omega arith) (λ a b. n (omega arith) (omega arith));
  low = λ k q. s.words k (omega arith);
  high = λ k q. s.words k (omega arith);
}

-- A parent rests on its word.
pub link_of_links : (w w' : List ℕ) (e i : ℕ) → links_at w' e (i / 2) ≡ links_at w e (i / 2) → link_at w' e i ≡ link_at w e i
unfolding link_at
link_of_links w w' e i q = ap (half (i % 2)) q

-- Word c of the parents of entry e is v. No other word changes.
pub record LinksSet (w w' : List ℕ) (e c v : ℕ) : Type 0 where
  pub len : length w' ≡ length w
  pub here : links_at w' e c ≡ v
  pub others : (d b : ℕ) → d < ENTRIES → (d ≡ e → b ≢ c) → links_at w' d b ≡ links_at w d b
  pub low : (k : ℕ) → k < PARENTS → at w' k ≡ at w k
  pub high : (k : ℕ) → SEEN ≤ k → at w' k ≡ at w k

pub links_set : (w : List ℕ) (e c v : ℕ) → WORK ≤ length w → e < ENTRIES → 2 * c < MAX_PARENTS → LinksSet w (slice_set w (PARENTS + c * ENTRIES + e) v) e c v
links_set w e c v long h l = record {
  len = length-set w (PARENTS + c * ENTRIES + e) v;
  here = get_or-set_same w (PARENTS + c * ENTRIES + e) v 0 (omega arith);
  others = λ d b q n. other (PARENTS + b * ENTRIES + d) (λ x. n (omega arith) (omega arith));
  low = λ k q. other k (omega arith);
  high = λ k q. other k (omega arith);
}
  where
    other : (k : ℕ) → (k ≢ PARENTS + c * ENTRIES + e) → at (slice_set w (PARENTS + c * ENTRIES + e) v) k ≡ at w k
    other k d = get_or-set_other w (PARENTS + c * ENTRIES + e) k v 0 d

-- Parent i of those that an update moves is v. No other of them changes, and no word but theirs.
pub record MovedSet (w w' : List ℕ) (i v : ℕ) : Type 0 where
  pub len : length w' ≡ length w
  pub here : moved_at w' i ≡ v
  pub others : (j : ℕ) → (j ≢ i) → moved_at w' j ≡ moved_at w j
  pub low : (k : ℕ) → k < MOVED → at w' k ≡ at w k
  pub high : (k : ℕ) → MAPS ≤ k → at w' k ≡ at w k

pub moved_set : (w w' : List ℕ) (i v : ℕ) → i < MAX_PARENTS → HalfSet w w' (MOVED + i / 2) (i % 2) v → MovedSet w w' i v
unfolding moved_at
moved_set w w' i v l s = record {
  len = s.len;
  here = s.here;
  others = λ j n. s.others (MOVED + j / 2) (j % 2) (omega arith) (λ a b. n (omega arith));
  low = λ k q. s.words k (omega arith);
  high = λ k q. s.words k (omega arith);
}
