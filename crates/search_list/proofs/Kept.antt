-- What rests on the words below the search's own.
-- Assumes nothing.
use mathlib.Core.Path.{◌≡◌, refl, sym, ap, ap₂, subst, ◌∙◌}
use mathlib.Core.Bool.{Bool}
use mathlib.Core.List.{List, ◌∷◌, ◌++◌, append_assoc}
use mathlib.Core.Option.{Option, none, some}
use Prim.Native.Nat.{ℕ, zero, suc, ◌+◌, ◌*◌, ◌-◌, ◌≤◌, ◌<◌}
use native.Mathlib.Omega.{arith}
use lib.ListN.{length, get_or, set, drop, length-append, get_or-append, length-set, length-drop}
use Rattle.spec_search.specs.Search.{Trail, upward, sideward, distance}
use Rattle.spec_search.specs.Flat.{swap_remove}
use Rattle.words.specs.Words.{at, WORK}
use Rattle.work_layout.specs.Layout.{USED, COUNTS, STACK, SEEN, PATHS, DEPTH, ENTRIES, TOPS}
use Rattle.search_list.specs.State.{seen_of, node_bits, trail, trail_of, trails_of, count_at, MOST_PATHS}
use Rattle.search_list.specs.Steps.{copies, stacked, Links, Nodes, PathsOK, Stored, Relisted}
use Rattle.work_layout.specs.Rows.{link_at, parents_of, stack_of, Tops}
use Rattle.search_list.proofs.Nodes.{low_bits, low_seen, low_nodes}
use Rattle.search_list.proofs.Trails.{store_at, length_trails, at_trails}
use Rattle.search_list.proofs.Upward.{length_upward, low_links, low_links_of, length_links}

pub stack_same : (w w' : List ℕ) (d : ℕ) → ((k : ℕ) → k < SEEN → at w' k ≡ at w k) → d ≤ DEPTH → stack_of w' d ≡ stack_of w d
unfolding stack_of
stack_same w w' zero low h = refl
stack_same w w' (suc d) low h = ap₂ {C = List ℕ} (λ v r. v ∷ r) (low (STACK + d) (omega arith)) (stack_same w w' d low (omega arith))

pub low_tops : (w w' : List ℕ) (d : ℕ) → ((k : ℕ) → k < SEEN → at w' k ≡ at w k) → Tops w d → Tops w' d
low_tops w w' d low t = record {
  deep = t.deep;
  tops = λ x h. rw (low (TOPS + x) (omega arith)) (t.tops x h);
  holds = λ x h q.
      let e : at w' (TOPS + x) ≡ at w (TOPS + x) = low (TOPS + x) (omega arith) in
      let b : at w (TOPS + x) ≤ d = t.tops x h in
      let b' : d ≤ DEPTH = t.deep in
      rw e (low (STACK + (at w (TOPS + x) - 1)) (omega arith) ∙ t.holds x h (omega arith));
  above = λ x j h q l g.
      let e : at w' (TOPS + x) ≡ at w (TOPS + x) = low (TOPS + x) (omega arith) in
      let b' : d ≤ DEPTH = t.deep in
      t.above x j h (omega arith) l (sym (low (STACK + j) (omega arith)) ∙ g);
}

-- The list alone was changed.
module _ (w w' : List ℕ) (m : ℕ) (low : (k : ℕ) → k < PATHS → at w' k ≡ at w k) (len : length w' ≡ length w) where
  pub re_low : (k : ℕ) → k < SEEN → at w' k ≡ at w k
  re_low k l = low k (omega arith)

  pub re_links : Links w → Links w'
  re_links ok = low_links w w' ok (λ k l. low k (omega arith)) len

  pub re_tops : (d : ℕ) → Tops w d → Tops w' d
  re_tops d t = low_tops w w' d re_low t

  pub re_nodes : Nodes w m → Nodes w' m
  re_nodes ok = low_nodes w w' m ok low

-- ---- a path goes up

-- The path at c was stored at parent k of entry e, whose number is v. The entry has a parents.
pub record Up (w x : List ℕ) (c n m e k d v a : ℕ) : Type 0 where
  pub links : Links w
  pub tops : Tops w d
  pub nodes : Nodes w m
  pub paths : PathsOK w m n
  pub slot : c < n
  pub entry : e < ENTRIES
  pub parent : k < a
  pub room : n + (a - k) ≤ MOST_PATHS
  pub all : a ≡ count_at w e
  pub word : v ≡ link_at w e k
  pub stored : Stored w x c m v 0
  pub len : length x ≡ length w

pub up_of : {w x : List ℕ} {c n m e k d v a : ℕ} → Links w × Tops w d × Nodes w m × PathsOK w m n
    → (c < n) × (e < ENTRIES) × (k < a) × (n + (a - k) ≤ MOST_PATHS) × (a ≡ count_at w e) × (v ≡ link_at w e k)
    → Stored w x c m v 0 → length x ≡ length w → Up w x c n m e k d v a
up_of p q stored len = record {
  links = p.0;
  tops = p.1;
  nodes = p.2;
  paths = p.3;
  slot = q.0;
  entry = q.1;
  parent = q.2;
  room = q.3;
  all = q.4;
  word = q.5;
  stored = stored;
  len = len;
}

module _ {w x : List ℕ} {c n m e k d v a : ℕ} (u : Up w x c n m e k d v a) where
  hv : v < 2 * at w USED
  hv = subst (λ (q : ℕ). q < 2 * at w USED) (sym u.word) (u.links.links e k u.entry (omega (arith, u.parent, u.all)))

  first : Relisted w x m n (set (trails_of w n) c (trail 0 (node_bits w m) v))
  first = store_at w x m c m v 0 u.nodes u.stored (omega arith) (λ q. hv) (λ q. absurd (omega arith)) n u.slot (omega (arith, u.room)) u.paths

  count_x : count_at x e ≡ count_at w e
  count_x = first.low (COUNTS + e) (omega (arith, u.entry))

  pub up_asks : (Links x × Nodes x m × PathsOK x m n) × (e < ENTRIES × k + 1 ≤ a × n + (a - (k + 1)) ≤ MOST_PATHS × a ≡ count_at x e)
  up_asks =
      let h = u.parent in
      let g = u.room in
      ((re_links w x m first.low u.len u.links, re_nodes w x m first.low u.len u.nodes, first.paths), (u.entry, omega arith, omega arith, u.all ∙ sym count_x))

  module _ {y : List ℕ} {n₂ : ℕ} (r : Relisted x y m n₂ (trails_of x n ++ copies x m e (k + 1))) (ly : length y ≡ length x) where
    S : List ℕ
    S = seen_of w m

    B : List Bool
    B = node_bits w m

    up : List Trail
    up = upward S B (drop (k + 1) (parents_of w e))

    second : trails_of y n₂ ≡ set (trails_of w n) c (trail 0 (node_bits w m) v) ++ up
    unfolding S B up
    second =
        r.trails
        ∙ ap (λ (t : List Trail). t ++ copies x m e (k + 1)) first.trails
        ∙ rw (low_seen w x m u.nodes first.low, low_bits w x m u.nodes first.low m (omega arith), low_links_of w x u.links (λ j l. first.low j (omega arith)) e u.entry)

    low_y : (j : ℕ) → j < PATHS → at y j ≡ at w j
    low_y j l = r.low j l ∙ first.low j l

    length_drop_links : length up ≤ a - (k + 1)
    unfolding S B up
    length_drop_links =
        omega (arith, length_upward (seen_of w m) (node_bits w m) (drop (k + 1) (parents_of w e)), length-drop (k + 1) (parents_of w e), length_links w e, u.all)

    pub up_count : n₂ ≤ n + (a - (k + 1))
    up_count =
        let p : Trail = trail 0 (node_bits w m) v in
        omega (
          arith,
          ap length second,
          length_trails y n₂,
          length-append (set (trails_of w n) c p) up,
          length-set (trails_of w n) c p,
          length_trails w n,
          length_drop_links,
        )

    pub up_asks_2 : (Links y × Tops y d × Nodes y m × PathsOK y m n₂) × (e < ENTRIES × n₂ < MOST_PATHS)
    up_asks_2 =
        let q = up_count in
        let h = u.parent in
        let g = u.room in
        let l = ly ∙ u.len in
        ((re_links w y m low_y l u.links, re_tops w y m low_y l d u.tops, re_nodes w y m low_y l u.nodes, r.paths), (u.entry, omega arith))

    pub up_done : {z : List ℕ} {n₃ : ℕ} → Relisted y z m n₃ (trails_of y n₂ ++ stacked y m e d)
        → Relisted w z m n₃ (set (trails_of w n) c (trail 0 (node_bits w m) (link_at w e k)) ++ (copies w m e (k + 1) ++ stacked w m e d))
    unfolding S B up
    up_done t = record {
      trails =
          t.trails
          ∙ ap (λ (l : List Trail). l ++ stacked y m e d) second
          ∙ rw (low_bits w y m u.nodes low_y m (omega arith), stack_same w y d (λ j l. low_y j (omega arith)) u.tops.deep)
          (append_assoc (set (trails_of w n) c (trail 0 (node_bits w m) v)) (copies w m e (k + 1)) (stacked w m e d))
          ∙ ap (λ (q : ℕ). set (trails_of w n) c (trail 0 (node_bits w m) q) ++ (copies w m e (k + 1) ++ stacked w m e d)) u.word;
      paths = t.paths;
      low = λ j l. t.low j l ∙ low_y j l;
      high = λ j l. t.high j l ∙ r.high j l ∙ first.high j l;
    }

-- ---- a path is dropped

pub length_sideward : (bits : List Bool) (o : Option ℕ) → length (sideward bits o) ≤ 1
length_sideward bits none = omega arith
length_sideward bits (some q) = omega arith

-- The copy on the stack was added, and the path at c is still to be dropped.
pub record Off (w x : List ℕ) (c n m e d n₂ : ℕ) : Type 0 where
  pub long : WORK ≤ length w
  pub nodes : Nodes w m
  pub slot : c < n
  pub room : n < MOST_PATHS
  pub list : Relisted w x m n₂ (trails_of w n ++ stacked w m e d)
  pub len : length x ≡ length w

pub off_of : {w x : List ℕ} {c n m e d n₂ : ℕ} → Links w × Tops w d × Nodes w m × PathsOK w m n → (c < n) × (e < ENTRIES) × (n < MOST_PATHS)
    → Relisted w x m n₂ (trails_of w n ++ stacked w m e d) → length x ≡ length w → Off w x c n m e d n₂
off_of p q list len = record { long = p.0.long; nodes = p.2; slot = q.0; room = q.2; list = list; len = len }

module _ {w x : List ℕ} {c n m e d n₂ : ℕ} (u : Off w x c n m e d n₂) where
  pub off_count : (n ≤ n₂) × (n₂ ≤ n + 1)
  off_count =
      let a = length_sideward (node_bits w m) (distance e (stack_of w d)) in
      omega (arith, ap length u.list.trails, length_trails x n₂, length_trails w n, length-append (trails_of w n) (stacked w m e d))

  pub off_one : n₂ - 1 + 1 ≡ n₂
  off_one = omega (arith, off_count.0, u.slot)

  pub off_asks : (WORK ≤ length x) × Nodes x m × PathsOK x m (n₂ - 1 + 1) × (c < n₂ - 1 + 1) × (n₂ - 1 < MOST_PATHS)
  off_asks =
      let a = off_count in
      let h = u.slot in
      let g = u.room in
      (omega (arith, u.long, u.len), re_nodes w x m u.list.low u.len u.nodes, rw off_one u.list.paths, omega arith, omega arith)

  here : trail_of x c ≡ trail_of w c
  here =
      let a = off_count in
      let h = u.slot in
      sym (at_trails x n₂ c (trail_of w c) (omega arith))
      ∙ ap (λ (l : List Trail). get_or l c (trail_of w c)) u.list.trails
      ∙ get_or-append (trails_of w n) (stacked w m e d) (trail_of w c) c (rw length_trails u.slot)
      ∙ at_trails w n c (trail_of w c) u.slot

  pub off_done : {y : List ℕ} → Relisted x y m (n₂ - 1) (swap_remove (trails_of x (n₂ - 1 + 1)) c (trail_of x c))
      → Relisted w y m (n₂ - 1) (swap_remove (trails_of w n ++ stacked w m e d) c (trail_of w c))
  off_done t = record {
    trails =
        t.trails ∙ ap (λ (k : ℕ). swap_remove (trails_of x k) c (trail_of x c)) off_one ∙ ap₂ {C = List Trail} (λ l p. swap_remove l c p) u.list.trails here;
    paths = t.paths;
    low = λ j l. t.low j l ∙ u.list.low j l;
    high = λ j l. t.high j l ∙ u.list.high j l;
  }
