-- What the words of a search hold: the nodes and their bits, the entries seen, the paths under way.
-- Assumes nothing.
use Rattle.std.specs.Prelude.{◌≡◌, Bool, true, false, cond, List, [], ◌∷◌, ℕ, zero, suc, ◌+◌, ◌*◌, ◌/◌, ◌%◌, ◌^◌, ◌≤◌, ◌<◌, ltb, length}
use Rattle.words.specs.Words.{at, tabulate}
use Rattle.path.specs.Bytes.{odd}
use Rattle.spec_search.specs.Search.{Trail, at_entry, at_stack, trail_bits, Parents, most_visits}
use Rattle.work_layout.specs.Layout.{SEEN, PREVS, NODES, LENS, PATHS, COUNTS, ENTRIES, DEPTH}
use Rattle.work_layout.specs.Rows.{parents_of}

-- ---- the cache

-- The parents of every entry: there are none from ENTRIES on.
unfoldable pub parents_of_all : List ℕ → Parents
parents_of_all w x = cond (ltb x ENTRIES) (parents_of w x) []

-- How many parents entry x has.
abbrev pub count_at : List ℕ → ℕ → ℕ
count_at w x = at w (COUNTS + x)

-- ---- nodes: each visit makes one, from the node whose bits the path had

-- The entries visited, the last one first: node k was made by visit k.
unfoldable pub seen_of : List ℕ → ℕ → List ℕ
seen_of w zero = []
seen_of w (suc m) = at w (NODES + suc m) / 2 ∷ seen_of w m

-- Whether the bit of entry x is set.
abbrev pub seen_at : List ℕ → ℕ → Bool
seen_at w x = odd (at w (SEEN + x / 32) / 2 ^ (x % 32))

-- The bits of node k, the latest first, f of them at most. Node 0 has none.
unfoldable pub chain : List ℕ → ℕ → ℕ → List Bool
chain w zero k = []
chain w (suc f) zero = []
chain w (suc f) (suc k) = odd (at w (NODES + suc k)) ∷ chain w f (at w (PREVS + suc k))

-- Node k has at most k bits, since each node comes after the one before it.
unfoldable pub node_bits : List ℕ → ℕ → List Bool
node_bits w k = chain w k k

-- ---- paths: three words each

-- The room for paths.
abbrev pub MOST_PATHS : ℕ
MOST_PATHS = 3333

-- The node whose bits path i has.
abbrev pub node_at : List ℕ → ℕ → ℕ
node_at w i = at w (PATHS + 3 * i)

-- At an entry: the entry, doubled, and the position bit. On the stack: the distance from the top.
abbrev pub place_at : List ℕ → ℕ → ℕ
place_at w i = at w (PATHS + 3 * i + 1)

-- 0 at an entry. On the stack: how many bits the path has after its node's.
abbrev pub extra_at : List ℕ → ℕ → ℕ
extra_at w i = at w (PATHS + 3 * i + 2)

-- x times 1 in front of the bits.
abbrev pub trues : ℕ → List Bool → List Bool
trues zero bs = bs
trues (suc x) bs = true ∷ trues x bs

-- A path: at an entry where x is 0; else on the stack, with a 0 and then x - 1 times 1 after the node's bits.
abbrev pub trail : (x : ℕ) → (bits : List Bool) → (v : ℕ) → Trail
trail zero bits v = at_entry bits (v / 2) (odd v)
trail (suc x) bits v = at_stack (trues x (false ∷ bits)) v

unfoldable pub trail_of : List ℕ → ℕ → Trail
trail_of w i = trail (extra_at w i) (node_bits w (node_at w i)) (place_at w i)

-- The bits of path i.
abbrev pub path_at : List ℕ → ℕ → List Bool
path_at w i = trail_bits (trail_of w i)

-- The working list: the first n paths.
unfoldable pub trails_of : List ℕ → ℕ → List Trail
trails_of w n = tabulate n (trail_of w)

-- ---- a path that can be read

-- The chain from node a ends.
pub record Chain (w : List ℕ) (a : ℕ) : Type 0 where
  pub few : a ≤ most_visits
  pub prev : (k : ℕ) → k < a → at w (PREVS + suc k) ≤ k

-- Path i has its bits, and not too many.
pub record Readable (w : List ℕ) (i : ℕ) : Type 0 where
  pub slot : i < MOST_PATHS
  pub chain : Chain w (node_at w i)
  pub len : at w (LENS + node_at w i) ≡ length (node_bits w (node_at w i))
  pub short : at w (LENS + node_at w i) ≤ most_visits
  pub extra : extra_at w i ≤ DEPTH
