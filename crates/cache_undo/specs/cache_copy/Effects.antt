-- Where the tree cache lies in a copy of undo; what saving it and putting it back leave, and which words are as they were.
use Rattle.std.specs.Prelude.{ℕ, ◌+◌, ◌*◌, ◌≤◌, ◌<◌, ◌≡◌, Bool, true, false, List, length}
use Rattle.words.specs.Words.{at}
use Rattle.work_layout.specs.Layout.{PAIR_COUNT, MAPS, SENTINEL_ENTRY, USED, COUNTS, LEFT, HEADS, PARENTS, SEEN, COPIES, COPY, ENTRIES, SLOTS}
use Rattle.work_layout.specs.Rows.{links_at, link_at, slot_at, prev, Sound, all_counts, further, all_further}

-- Copy k: where its count of entries, its map of pairs, its counts of parents, the first word of each entry's parents and the further words lie. The further
-- words of an entry stand behind those of the entries before it.
abbrev pub copied_used : ℕ → ℕ
copied_used k = COPIES + k * COPY + 8289

abbrev pub copied_maps : ℕ → ℕ
copied_maps k = COPIES + k * COPY + 8290

abbrev pub copied_counts : ℕ → ℕ
copied_counts k = COPIES + k * COPY + 9314

abbrev pub copied_firsts : ℕ → ℕ
copied_firsts k = COPIES + k * COPY + 12386

abbrev pub copied_furthers : ℕ → ℕ
copied_furthers k = COPIES + k * COPY + 15458

-- Copy k of w has the cache of v: how many entries there are, which entry each pair of the file has, and the parents of each entry.
pub record CacheCopied (v w : List ℕ) (k : ℕ) : Type 0 where
  pub used : at w (copied_used k) ≡ at v USED
  pub maps : (i : ℕ) → i < at v PAIR_COUNT → at w (copied_maps k + i) ≡ at v (MAPS + i)
  pub counts : (e : ℕ) → e < at v USED → at w (copied_counts k + e) ≡ at v (COUNTS + e)
  pub firsts : (e : ℕ) → e < at v USED → at w (copied_firsts k + e) ≡ links_at v e 0
  pub furthers : (e i : ℕ) → e < at v USED → i < further (at v (COUNTS + e)) → at w (copied_furthers k + all_further v e + i) ≡ links_at v e (i + 1)

-- ---- saving

-- The n further words of the parents of entry e stand from `to` on.
pub record ListSaved (w w' : List ℕ) (e n to : ℕ) : Type 0 where
  pub len : length w' ≡ length w
  pub here : (i : ℕ) → i < n → at w' (to + i) ≡ links_at w e (i + 1)
  pub low : (j : ℕ) → j < to → at w' j ≡ at w j
  pub high : (j : ℕ) → to + n ≤ j → at w' j ≡ at w j

-- The further words of the parents of the first n entries stand from `to` on.
pub record ListsSaved (w w' : List ℕ) (n to : ℕ) : Type 0 where
  pub len : length w' ≡ length w
  pub here : (e i : ℕ) → e < n → i < further (at w (COUNTS + e)) → at w' (to + all_further w e + i) ≡ links_at w e (i + 1)
  pub low : (j : ℕ) → j < to → at w' j ≡ at w j
  pub high : (j : ℕ) → to + all_further w n ≤ j → at w' j ≡ at w j

-- Copy k has the cache.
pub record CacheSaved (w w' : List ℕ) (k : ℕ) : Type 0 where
  pub copied : CacheCopied w w' k
  pub low : (j : ℕ) → j < copied_used k → at w' j ≡ at w j
  pub high : (j : ℕ) → COPIES + k * COPY + COPY ≤ j → at w' j ≡ at w j

-- ---- putting back

-- The newest entries, from number n on, are taken off their slots, and have no parents.
pub record TakenOff (w w' : List ℕ) (n : ℕ) : Type 0 where
  pub len : length w' ≡ length w
  pub used : at w' USED ≡ n
  pub heads : (s : ℕ) → s < SLOTS → at w' (HEADS + s) ≡ prev (slot_at w) s n
  pub counts : (e : ℕ) → e < n → at w' (COUNTS + e) ≡ at w (COUNTS + e)
  pub none : (e : ℕ) → n ≤ e → e < ENTRIES → at w' (COUNTS + e) ≡ 0
  pub keys : (j : ℕ) → LEFT ≤ j → j < HEADS → at w' j ≡ at w j
  pub low : (j : ℕ) → j < USED → at w' j ≡ at w j
  pub high : (j : ℕ) → PARENTS ≤ j → at w' j ≡ at w j

-- The n words that stand from `from` on are the further ones of the parents of entry e.
pub record ListBrought (w w' : List ℕ) (e n from : ℕ) : Type 0 where
  pub len : length w' ≡ length w
  pub here : (i : ℕ) → i < n → links_at w' e (i + 1) ≡ at w (from + i)
  pub others : (d i : ℕ) → d < ENTRIES → (d ≡ e → ⊥) → links_at w' d i ≡ links_at w d i
  pub firsts : (d : ℕ) → d < ENTRIES → links_at w' d 0 ≡ links_at w d 0
  pub low : (j : ℕ) → j < PARENTS → at w' j ≡ at w j
  pub high : (j : ℕ) → SEEN ≤ j → at w' j ≡ at w j

-- The words that stand from `from` on are the further ones of the parents of the first n entries.
pub record ListsBrought (w w' : List ℕ) (n from : ℕ) : Type 0 where
  pub len : length w' ≡ length w
  pub here : (e i : ℕ) → e < n → i < further (at w (COUNTS + e)) → links_at w' e (i + 1) ≡ at w (from + all_further w e + i)
  pub firsts : (d : ℕ) → d < ENTRIES → links_at w' d 0 ≡ links_at w d 0
  pub low : (j : ℕ) → j < PARENTS → at w' j ≡ at w j
  pub high : (j : ℕ) → SEEN ≤ j → at w' j ≡ at w j

-- Either way: saved where it is true, put back where it is false.
abbrev pub ListCopied : Bool → (w w' : List ℕ) (e n place : ℕ) → Type 0
ListCopied true w w' e n place = ListSaved w w' e n place
ListCopied false w w' e n place = ListBrought w w' e n place

abbrev pub ListsCopied : Bool → (w w' : List ℕ) (n place : ℕ) → Type 0
ListsCopied true w w' n place = ListsSaved w w' n place
ListsCopied false w w' n place = ListsBrought w w' n place

-- What putting back copy k takes: it has the cache of v, of which the present one has all entries, and maybe more. The file has as many pairs as then.
pub record Bringable (v w : List ℕ) (k : ℕ) : Type 0 where
  pub copied : CacheCopied v w k
  pub then_sound : Sound v
  pub then_few : all_counts v ENTRIES ≤ 2048
  pub sound : Sound w
  pub fewer : at v USED ≤ at w USED
  pub pairs : at w PAIR_COUNT ≡ at v PAIR_COUNT
  pub few_pairs : at w PAIR_COUNT ≤ 1024

-- The cache is that of v again, but for keys and lengths, which are not touched. Each slot's chain has the entries that are left.
pub record CacheBrought (v w w' : List ℕ) : Type 0 where
  pub used : at w' USED ≡ at v USED
  pub maps : (i : ℕ) → i < at v PAIR_COUNT → at w' (MAPS + i) ≡ at v (MAPS + i)
  pub counts : (e : ℕ) → e < ENTRIES → at w' (COUNTS + e) ≡ at v (COUNTS + e)
  pub links : (e i : ℕ) → e < at v USED → i < at v (COUNTS + e) → link_at w' e i ≡ link_at v e i
  pub heads : (s : ℕ) → s < SLOTS → at w' (HEADS + s) ≡ prev (slot_at w) s (at v USED)
  pub keys : (j : ℕ) → LEFT ≤ j → j < HEADS → at w' j ≡ at w j
  pub entry : at w' SENTINEL_ENTRY ≡ at w SENTINEL_ENTRY
  pub low : (j : ℕ) → j < MAPS → at w' j ≡ at w j
  pub high : (j : ℕ) → SEEN ≤ j → at w' j ≡ at w j
