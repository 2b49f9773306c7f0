-- What the words of work hold: where the file's listed atoms lie; entries as rows of words, their chains by slot, the stack; and when they are sound.
use Rattle.std.specs.Prelude.{◌≡◌, ℕ, zero, suc, ◌+◌, ◌-◌, ◌*◌, ◌/◌, ◌%◌, ◌^◌, ◌<◌, ◌≤◌, Bool, cond, List, [], ◌∷◌, length, take, drop, ◌==◌, ◌≢◌}
use Rattle.words.specs.Words.{at, tabulate, WORK}
use Rattle.work_layout.specs.Layout.{ATOMS, TOPS, STACK, MOVED, USED, COUNTS, LEFT, RIGHT, LOW, HIGH, NEXT, HEADS, PARENTS, ENTRIES, MAX_PARENTS, SLOTS, DEPTH}
use Rattle.work_layout.specs.Halves.{half}

-- ---- the file's listed atoms

-- Where the bytes of listed atom i start and end in the file.
abbrev pub start_of : List ℕ → ℕ → ℕ
start_of w i = at w (ATOMS + 2 * i)

abbrev pub end_of : List ℕ → ℕ → ℕ
end_of w i = at w (ATOMS + 2 * i + 1)

-- The bytes of listed atom i.
unfoldable pub atom_bytes : (file w : List ℕ) → ℕ → List ℕ
atom_bytes file w i = take (end_of w i - start_of w i) (drop (start_of w i) file)

-- ---- entries

-- Word c of the parents of entry e: its parents 2 c and 2 c + 1. The first words of all entries stand side by side, and so do the second ones, ..
abbrev pub links_at : List ℕ → (e c : ℕ) → ℕ
links_at w e c = at w (PARENTS + c * ENTRIES + e)

-- Parent i of entry e as a number: the parent's entry, doubled, and 1 more for the right position below it. It takes 16 bits, those of an odd i in the
-- high half of its word.
unfoldable pub link_at : List ℕ → (e i : ℕ) → ℕ
link_at w e i = half (i % 2) (links_at w e (i / 2))

-- A parent's entry, and the position below it: false left, true right.
abbrev pub parent_of : ℕ → ℕ × Bool
parent_of v = (v / 2, (v % 2 == 1))

-- The parents of entry e.
unfoldable pub parents_of : List ℕ → ℕ → List (ℕ × Bool)
parents_of w e = tabulate (at w (COUNTS + e)) (λ i. parent_of (link_at w e i))

-- Parent i of those that an update moves, as such a number.
unfoldable pub moved_at : List ℕ → ℕ → ℕ
moved_at w i = half (i % 2) (at w (MOVED + i / 2))

-- The first n of them.
unfoldable pub moved_of : List ℕ → ℕ → List (ℕ × Bool)
moved_of w n = tabulate n (λ i. parent_of (moved_at w i))

-- The length of entry e, in two words.
abbrev pub length_of : List ℕ → ℕ → ℕ
length_of w e = at w (LOW + e) + 2 ^ 32 * at w (HIGH + e)

-- An entry: its key, two words; its parents; its length.
pub record Row : Type 0 where
  pub left : ℕ
  pub right : ℕ
  pub parents : List (ℕ × Bool)
  pub len : ℕ

abbrev pub row_of : List ℕ → ℕ → Row
row_of w e = record { left = at w (LEFT + e); right = at w (RIGHT + e); parents = parents_of w e; len = length_of w e }

-- All entries.
unfoldable pub rows_of : List ℕ → List Row
rows_of w = tabulate (at w USED) (row_of w)

abbrev pub new_row : (left right len : ℕ) → Row
new_row l r n = record { left = l; right = r; parents = []; len = n }

abbrev pub with_parents : List (ℕ × Bool) → Row → Row
with_parents ps x = record { left = x.left; right = x.right; parents = ps; len = x.len }

-- Row e with its parents changed by f.
abbrev pub adjust_row : ℕ → (List (ℕ × Bool) → List (ℕ × Bool)) → List Row → List Row
adjust_row e f [] = []
adjust_row zero f (x ∷ xs) = with_parents (f x.parents) x ∷ xs
adjust_row (suc e) f (x ∷ xs) = x ∷ adjust_row e f xs

-- ---- lookup: a slot is the sum of the key's two words, wrapped at 32 bits, within the table

abbrev pub slot_of : ℕ → ℕ → ℕ
slot_of l r = (l + r) % 2 ^ 32 % SLOTS

abbrev pub slot_at : List ℕ → ℕ → ℕ
slot_at w e = slot_of (at w (LEFT + e)) (at w (RIGHT + e))

-- One more than the last k before n with f k equal to s, or 0.
unfoldable pub prev : (ℕ → ℕ) → ℕ → ℕ → ℕ
prev f s zero = 0
prev f s (suc n) = cond (f n == s) (suc n) (prev f s n)

-- Each slot's chain has the entries of that slot, the last one first.
pub record Chained (w : List ℕ) : Type 0 where
  pub heads : (s : ℕ) → s < SLOTS → at w (HEADS + s) ≡ prev (slot_at w) s (at w USED)
  pub nexts : (e : ℕ) → e < at w USED → at w (NEXT + e) ≡ prev (slot_at w) (slot_at w e) e

-- No two entries have the same two words as their key.
pub record Distinct (w : List ℕ) : Type 0 where
  pub distinct : (i j : ℕ) → i < j → j < at w USED → at w (LEFT + i) ≡ at w (LEFT + j) → at w (RIGHT + i) ≢ at w (RIGHT + j)

-- ---- when the entries are sound

pub record Sound (w : List ℕ) : Type 0 where
  pub long : WORK ≤ length w
  pub used : at w USED ≤ ENTRIES
  pub counts : (e : ℕ) → e < ENTRIES → at w (COUNTS + e) ≤ MAX_PARENTS
  pub unused : (e : ℕ) → at w USED ≤ e → e < ENTRIES → at w (COUNTS + e) ≡ 0
  pub links : (e i : ℕ) → e < ENTRIES → i < at w (COUNTS + e) → link_at w e i < 2 * at w USED
  pub chained : Chained w
  pub distinct : Distinct w

-- The parents of the first n entries, all together.
unfoldable pub all_counts : List ℕ → ℕ → ℕ
all_counts w zero = 0
all_counts w (suc n) = at w (COUNTS + n) + all_counts w n

-- The words that n parents take after the first one, and those of the first n entries, all together.
abbrev pub further : ℕ → ℕ
further n = (n - 1) / 2

unfoldable pub all_further : List ℕ → ℕ → ℕ
all_further w zero = 0
all_further w (suc n) = further (at w (COUNTS + n)) + all_further w n

-- ---- the stack

-- d entries, the top first.
unfoldable pub stack_of : List ℕ → ℕ → List ℕ
stack_of w zero = []
stack_of w (suc d) = at w (STACK + d) ∷ stack_of w d

-- TOPS says where each entry stands highest on a stack of d entries.
pub record Tops (w : List ℕ) (d : ℕ) : Type 0 where
  pub deep : d ≤ DEPTH
  pub tops : (x : ℕ) → x < ENTRIES → at w (TOPS + x) ≤ d
  pub holds : (x : ℕ) → x < ENTRIES → 0 < at w (TOPS + x) → at w (STACK + (at w (TOPS + x) - 1)) ≡ x
  pub above : (x j : ℕ) → x < ENTRIES → at w (TOPS + x) ≤ j → j < d → at w (STACK + j) ≢ x
