-- When the words of a search are sound, and what each step leaves.
-- Assumes nothing.
use Rattle.std.specs.Prelude.{◌≡◌, true, false, cond, List, ◌∷◌, ℕ, zero, suc, ◌+◌, ◌*◌, ◌/◌, ◌-◌, ◌≤◌, ◌<◌, length, drop}
use Rattle.std.specs.declared.ops.ControlFlow.{ControlFlow}
use Rattle.std.specs.declared.ops.ControlFlow.TheVariants.{Continue, Break}
use Rattle.std.specs.Prelude.{Some, None}
use Rattle.std.specs.Prelude as code
use Rattle.std.proofs.Math.Option.{Option, none, some}
use Rattle.words.specs.Words.{at, WORK}
use Rattle.path.specs.Bytes.{odd}
use Rattle.spec_search.specs.Search.{Trail, member, distance, upward, sideward, Passed, found, gone, most_visits}
use Rattle.spec_search.specs.Lists.{size}
use Rattle.work_layout.specs.Layout.{USED, COUNTS, SEEN, PREVS, LENS, PATHS, COPIES, ENTRIES, DEPTH, MAX_PARENTS}
use Rattle.work_layout.specs.Rows.{link_at, parents_of, stack_of, Tops}
use Rattle.search_list.specs.declared.Search.{Search}
use Rattle.search_list.specs.declared.Cursor.{Cursor}
use Rattle.search_list.specs.declared.search_moves.Unseen.{Unseen}
use Rattle.search_list.specs.State.{parents_of_all, count_at, seen_of, seen_at, node_bits, node_at, place_at, extra_at, trail_of, path_at, trails_of, Readable}
use Rattle.search_list.specs.Cursor.{goes, Mid, ahead}

-- ---- when the words are sound

-- The parents of the entries are entries in use, at most 100 of each. Follows from the cache's soundness.
pub record Links (w : List ℕ) : Type 0 where
  pub long : WORK ≤ length w
  pub used : at w USED ≤ ENTRIES
  pub counts : (x : ℕ) → x < ENTRIES → at w (COUNTS + x) ≤ MAX_PARENTS
  pub links : (x i : ℕ) → x < ENTRIES → i < at w (COUNTS + x) → link_at w x i < 2 * at w USED

-- m nodes, and the bit set of the entries seen mirrors them, for the entries in use.
pub record Nodes (w : List ℕ) (m : ℕ) : Type 0 where
  pub few : m ≤ most_visits
  pub prev : (k : ℕ) → k < m → at w (PREVS + suc k) ≤ k
  pub lens : (k : ℕ) → k ≤ m → at w (LENS + k) ≡ length (node_bits w k)
  pub short : (k : ℕ) → k ≤ m → at w (LENS + k) ≤ k
  pub marks : (x : ℕ) → x < ENTRIES → x < at w USED → seen_at w x ≡ member x (seen_of w m)

-- Path i, where there are m nodes.
pub record PathOK (w : List ℕ) (m i : ℕ) : Type 0 where
  pub node : node_at w i ≤ m
  pub entry : extra_at w i ≡ 0 → place_at w i < 2 * at w USED
  pub stack : 0 < extra_at w i → extra_at w i + place_at w i ≤ DEPTH

abbrev pub PathsOK : List ℕ → ℕ → ℕ → Type 0
PathsOK w m n = (i : ℕ) → i < n → PathOK w m i

-- The counts of the first n entries that are not seen.
unfoldable pub unseen : (ℕ → ℕ) → List ℕ → ℕ → ℕ
unseen f seen zero = 0
unseen f seen (suc n) = cond (member n seen) 0 (f n) + unseen f seen n

-- The working list has room for what is left to visit: a visit takes its entry's count out of the sum.
abbrev pub Room : List ℕ → ℕ → ℕ → Type 0
Room w m n = n + unseen (count_at w) (seen_of w m) ENTRIES ≤ 2049 + m

-- n paths, m nodes, a stack of d entries.
pub record Working (w : List ℕ) (d n m : ℕ) : Type 0 where
  pub links : Links w
  pub tops : Tops w d
  pub nodes : Nodes w m
  pub paths : PathsOK w m n
  pub room : Room w m n

-- ---- stores

-- Nothing but the search's own words was touched.
pub record Kept (w w' : List ℕ) : Type 0 where
  pub low : (k : ℕ) → k < SEEN → at w' k ≡ at w k
  pub high : (k : ℕ) → COPIES ≤ k → at w' k ≡ at w k

-- Path i was stored.
pub record Stored (w w' : List ℕ) (i a v x : ℕ) : Type 0 where
  pub node : node_at w' i ≡ a
  pub place : place_at w' i ≡ v
  pub extra : extra_at w' i ≡ x
  pub below : (k : ℕ) → k < PATHS + 3 * i → at w' k ≡ at w k
  pub above : (k : ℕ) → PATHS + 3 * i + 3 ≤ k → at w' k ≡ at w k

-- Entry e is marked.
pub record Marked (w w' : List ℕ) (e : ℕ) : Type 0 where
  pub here : seen_at w' e ≡ true
  pub other : (k : ℕ) → k < ENTRIES → (k ≡ e → ⊥) → seen_at w' k ≡ seen_at w k
  pub low : (k : ℕ) → k < SEEN → at w' k ≡ at w k
  pub high : (k : ℕ) → PREVS ≤ k → at w' k ≡ at w k

-- No entry in use is marked.
pub record Cleared (w w' : List ℕ) : Type 0 where
  pub none : (x : ℕ) → x < at w USED → seen_at w' x ≡ false
  pub low : (k : ℕ) → k < SEEN → at w' k ≡ at w k
  pub high : (k : ℕ) → PREVS ≤ k → at w' k ≡ at w k

-- The working list is these, n'; no other words were touched.
pub record Relisted (w w' : List ℕ) (m n' : ℕ) (list : List Trail) : Type 0 where
  pub trails : trails_of w' n' ≡ list
  pub paths : PathsOK w' m n'
  pub low : (k : ℕ) → k < PATHS → at w' k ≡ at w k
  pub high : (k : ℕ) → COPIES ≤ k → at w' k ≡ at w k

-- A visit made node m + 1, by path c.
pub record Visited (w w' : List ℕ) (c m : ℕ) : Type 0 where
  pub nodes : Nodes w' (m + 1)
  pub seen : seen_of w' (m + 1) ≡ place_at w c / 2 ∷ seen_of w m
  pub bits : node_bits w' (m + 1) ≡ odd (place_at w c) ∷ node_bits w (node_at w c)
  pub older : (k : ℕ) → k ≤ m → node_bits w' k ≡ node_bits w k
  pub low : (k : ℕ) → k < SEEN → at w' k ≡ at w k
  pub high : (k : ℕ) → PATHS ≤ k → at w' k ≡ at w k

-- A path with the bits of node m at each unseen parent of entry e from parent i on.
abbrev pub copies : List ℕ → (m e i : ℕ) → List Trail
copies w m e i = upward (seen_of w m) (node_bits w m) (drop i (parents_of w e))

-- A path with the bits of node m and a further 0 at the place of entry e on the stack, if it is there.
abbrev pub stacked : List ℕ → (m e d : ℕ) → List Trail
stacked w m e d = sideward (node_bits w m) (distance e (stack_of w d))

-- ---- reads

-- Entry e has n parents. The first of them that is not seen is parent i, whose number is v; where each is seen i is n.
pub record FirstUnseen (w : List ℕ) (e i v n : ℕ) : Type 0 where
  pub all : n ≡ count_at w e
  pub within : i ≤ n
  pub passed : (j : ℕ) → j < i → seen_at w (link_at w e j / 2) ≡ true
  pub stands : i < n → seen_at w (link_at w e i / 2) ≡ false
  pub parent : i < n → v ≡ link_at w e i

-- The first parent of entry e that is not seen, or that each is seen.
abbrev pub UnseenOf : List ℕ → ℕ → code.Option Unseen → Type 0
UnseenOf w e (Some k) = FirstUnseen w e k.place k.parent.0 k.all × (k.place < k.all)
UnseenOf w e None = FirstUnseen w e (count_at w e) 0 (count_at w e)

-- The distance from the top, on a stack of d entries, by a word of TOPS.
abbrev pub from_top : ℕ → ℕ → Option ℕ
from_top d zero = none
from_top d (suc t) = some (d - suc t)

-- ---- a turn

-- n paths, m nodes, a stack of d entries.
abbrev pub search_of : (n m d : ℕ) → Search
search_of n m d = record { paths = n; nodes = m; depth = d }

-- What a turn gives, as in the code.
abbrev pub Turned : Type 0
Turned = ControlFlow (code.Option ℕ) Cursor

-- The pass goes on at path c.
abbrev pub on : (c : ℕ) → Search → Turned
on c s = Continue (record { slot = c; search = s })

-- What a state stands for: how the pass will end.
abbrev pub meaning : List ℕ → ℕ → Turned → Passed
meaning w L (Continue k) =
    goes (parents_of_all w) (stack_of w k.search.depth) L (trails_of w k.search.paths) k.slot (seen_of w k.search.nodes)
meaning w L (Break (Some i)) = found (path_at w i)
meaning w L (Break None) = gone

-- The words are sound for it, the stack has d entries as before, and less than b is ahead.
abbrev pub Fine : List ℕ → ℕ → ℕ → ℕ → Turned → Type 0
Fine w d L b (Continue k) =
    Working w k.search.depth k.search.paths k.search.nodes
    × Mid L (trails_of w k.search.paths) k.slot
    × (ahead L (trails_of w k.search.paths) k.slot < b)
    × (k.search.depth ≡ d)
Fine w d L b (Break (Some i)) = Readable w i
Fine w d L b (Break None) = Unit {0}

-- A turn of pass L at path c.
pub record Turns (w w' : List ℕ) (d L c n m : ℕ) (r : Turned) : Type 0 where
  pub same : goes (parents_of_all w) (stack_of w d) L (trails_of w n) c (seen_of w m) ≡ meaning w' L r
  pub fine : Fine w' d L (ahead L (trails_of w n) c) r
  pub kept : Kept w w'

-- A step of path c, which has at most L bits.
abbrev pub Steps : List ℕ → List ℕ → ℕ → ℕ → ℕ → ℕ → Turned → Type 0
Steps w w' d c n m r = (L : ℕ) → Mid L (trails_of w n) c → size (trail_of w c) ≤ L → Turns w w' d L c n m r
