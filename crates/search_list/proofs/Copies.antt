-- What each small function leaves, over lists of words.
-- Assumes nothing.
use mathlib.Core.Path.{◌≡◌, refl, sym, ap, subst, ◌∙◌}
use mathlib.Core.Bool.{Bool, true, false, cond}
use mathlib.Core.List.{List, [], ◌∷◌, ◌++◌, append_assoc, append-nil}
use mathlib.Core.Option.{Option}
use Prim.Native.Nat.{ℕ, zero, suc, ◌+◌, ◌*◌, ◌-◌, ◌/◌, ◌≤◌, ◌<◌}
use native.Mathlib.Omega.{arith}
use lib.ListN.{length, set, drop, length-append}
use native.Mathlib.Decide.{ℕ_discrete}
use Rattle.spec_search.specs.Search.{Trail, member, upward, sideward, distance, most_visits}
use Rattle.words.specs.Choice.{cond_true, cond_false}
use Rattle.words.specs.Words.{at, WORK}
use Rattle.work_layout.specs.Layout.{USED, COUNTS, PREVS, NODES, LENS, PATHS, COPIES, DEPTH, ENTRIES, TOPS}
use Rattle.search_list.specs.Steps.{copies, stacked, from_top, Links, Nodes, PathsOK, Stored, Relisted, Marked, Visited, UnseenOf}
use Rattle.search_list.specs.declared.search_moves.Unseen.{Unseen}
use Rattle.std.specs.Prelude.{Some, None}
use Rattle.search_list.specs.State.{seen_of, node_bits, trail, trails_of, node_at, place_at, seen_at, count_at, MOST_PATHS}
use Rattle.work_layout.specs.Rows.{link_at, parent_of, parents_of, stack_of, Tops}
use Rattle.words.proofs.Words.{Store, stores, miss, hits}
use Rattle.search_list.proofs.Nodes.{marks_of, low_bits, low_seen, low_nodes, node_made}
use Rattle.search_list.proofs.Least.{least}
use Rattle.search_list.proofs.Trails.{store_end, length_trails}
use Rattle.search_list.proofs.Upward.{links_cons, links_end, length_upward, low_link, low_links}

-- ---- a node more

pub node_added : (w y : List ℕ) (c m a v l : ℕ) → WORK ≤ length w → Nodes w m → m < most_visits → node_at w c ≤ m → place_at w c < 2 * ENTRIES
    → a ≡ node_at w c → v ≡ place_at w c → l ≡ at w (LENS + a)
    → Marked (set (set (set w (PREVS + (m + 1)) a) (NODES + (m + 1)) v) (LENS + (m + 1)) (l + 1)) y (v / 2) → Visited w y c m
node_added w y c m a v l long ok h hn hp ea ev el mk =
    let ss : List Store =
    record { to = PREVS + (m + 1); word = a } ∷ record { to = NODES + (m + 1); word = v } ∷ record { to = LENS + (m + 1); word = l + 1 } ∷ [] in
    node_made w (stores w ss) y c m ok h hn hp
    (hits ss 0 w (omega arith) (omega arith) (omega arith) ∙ ea)
    (hits ss 1 w (omega arith) (omega arith) (omega arith) ∙ ev)
    (hits ss 2 w (omega arith) (omega arith) tt ∙ ap (λ (k : ℕ). k + 1) (el ∙ ap (λ (k : ℕ). at w (LENS + k)) ea))
    (λ k p q r. miss ss w k (p, (q, (r, tt))))
    (subst (λ (k : ℕ). Marked (stores w ss) y (k / 2)) ev mk)

-- ---- a copy

unchanged : (w : List ℕ) (m n : ℕ) (list : List Trail) → PathsOK w m n → trails_of w n ≡ list → Relisted w w m n list
unchanged w m n list p e = record { trails = e; paths = p; low = λ k l. refl; high = λ k l. refl }

module _ (w : List ℕ) (m n : ℕ) (ok : Nodes w m) (p : PathsOK w m n) where
  pub copy_seen : Links w → (v b : ℕ) → v ≡ b → v < 2 * at w USED → true ≡ seen_at w (v / 2)
      → Relisted w w m n (trails_of w n ++ upward (seen_of w m) (node_bits w m) (parent_of b ∷ []))
  copy_seen links v b e h t =
      let s : member (b / 2) (seen_of w m) ≡ true = subst (λ (z : ℕ). member (z / 2) (seen_of w m) ≡ true) e (sym (marks_of links ok (v / 2) (omega arith)) ∙ sym t) in
      unchanged w m n (trails_of w n ++ upward (seen_of w m) (node_bits w m) (parent_of b ∷ [])) p
      (sym (ap (λ (x : List Trail). trails_of w n ++ x) (cond_true _ _ _ s) ∙ append-nil (trails_of w n)))

  pub copy_new : Links w → (y : List ℕ) (v b : ℕ) → v ≡ b → v < 2 * at w USED → n < MOST_PATHS → false ≡ seen_at w (v / 2) → Stored w y n m v 0
      → Relisted w y m (n + 1) (trails_of w n ++ upward (seen_of w m) (node_bits w m) (parent_of b ∷ []))
  copy_new links y v b e h r t s =
      let f : member (b / 2) (seen_of w m) ≡ false = subst (λ (z : ℕ). member (z / 2) (seen_of w m) ≡ false) e (sym (marks_of links ok (v / 2) (omega arith)) ∙ sym t) in
      let l : Relisted w y m (n + 1) (trails_of w n ++ trail 0 (node_bits w m) b ∷ []) = subst (λ (z : ℕ). Relisted w y m (n + 1) (trails_of w n ++ trail 0 (node_bits w m) z ∷ [])) e
      (store_end w y m n m v 0 ok s (omega arith) (λ q. h) (λ q. absurd (omega arith)) r p) in
      subst (λ (x : List Trail). Relisted w y m (n + 1) (trails_of w n ++ x)) (sym (cond_false _ _ _ f)) l

  -- ---- the copy on the stack

  module _ (d e : ℕ) (tops : Tops w d) (h : e < ENTRIES) where
    side : (t : ℕ) → t ≡ at w (TOPS + e) → distance e (stack_of w d) ≡ from_top d t
    side t q = least w d e tops h ∙ ap (from_top d) (sym q)

    pub off_stack : (t : ℕ) → t ≡ at w (TOPS + e) → t ≡ 0 → Relisted w w m n (trails_of w n ++ stacked w m e d)
    off_stack t q z =
        unchanged w m n (trails_of w n ++ stacked w m e d) p
        (sym (ap (λ (o : Option ℕ). trails_of w n ++ sideward (node_bits w m) o) (side t q ∙ ap (from_top d) z) ∙ append-nil (trails_of w n)))

    pub on_stack : (y : List ℕ) (t : ℕ) → t ≡ at w (TOPS + e) → (t ≡ 0 → ⊥) → n < MOST_PATHS → Stored w y n m (d - t) 1
        → Relisted w y m (n + 1) (trails_of w n ++ stacked w m e d)
    on_stack y t q z r s = go t q z s
      where
        go : (t : ℕ) → t ≡ at w (TOPS + e) → (t ≡ 0 → ⊥) → Stored w y n m (d - t) 1
            → Relisted w y m (n + 1) (trails_of w n ++ stacked w m e d)
        go zero q z s = absurd (z refl)
        go (suc t) q z s =
            let b : suc t ≤ d = omega (arith, tops.tops e h) in
            let b' : d ≤ DEPTH = tops.deep in
            subst (λ (o : Option ℕ). Relisted w y m (n + 1) (trails_of w n ++ sideward (node_bits w m) o)) (sym (side (suc t) q))
            (store_end w y m n m (d - suc t) 1 ok s (omega arith) (λ k. absurd (omega arith)) (λ k. omega arith) r p)

-- ---- the loop over the parents

pub record Copying (w₀ w : List ℕ) (e m first count n i : ℕ) : Type 0 where
  pub within : i ≤ count_at w₀ e
  pub len : length w ≡ length w₀
  pub room : n + (count_at w₀ e - i) ≤ count + (count_at w₀ e - first)
  pub paths : PathsOK w m n
  pub ahead : trails_of w n ++ copies w₀ m e i ≡ trails_of w₀ count ++ copies w₀ m e first
  pub low : (k : ℕ) → k < PATHS → at w k ≡ at w₀ k
  pub high : (k : ℕ) → COPIES ≤ k → at w k ≡ at w₀ k

cond_append : (c : Bool) (p : Trail) (xs ys : List Trail) → cond c xs (p ∷ xs) ++ ys ≡ cond c (xs ++ ys) (p ∷ xs ++ ys)
cond_append true p xs ys = refl
cond_append false p xs ys = refl

upward_one : (seen : List ℕ) (bits : List Bool) (q : ℕ × Bool) (qs : List (ℕ × Bool))
    → upward seen bits (q ∷ []) ++ upward seen bits qs ≡ upward seen bits (q ∷ qs)
upward_one seen bits q qs = cond_append (member q.0 seen) _ [] (upward seen bits qs)

pub copying_start : (w : List ℕ) (e m first count : ℕ) → first ≤ count_at w e → PathsOK w m count → Copying w w e m first count count first
copying_start w e m first count h p = record { within = h; len = refl; room = omega arith; paths = p; ahead = refl; low = λ k l. refl; high = λ k l. refl }

pub copying_more : {w₀ w y : List ℕ} {e m first count n n' i : ℕ} → Links w₀ → Nodes w₀ m → e < ENTRIES → Copying w₀ w e m first count n i → i < count_at w₀ e
    → length y ≡ length w
    → Relisted w y m n' (trails_of w n ++ upward (seen_of w m) (node_bits w m) (parent_of (link_at w e i) ∷ []))
    → Copying w₀ y e m first count n' (i + 1)
copying_more {w₀} {w} {y} {e} {m} {first} {count} {n} {n'} {i} links ok h k l len r =
    let q : List (ℕ × Bool) = parent_of (link_at w₀ e i) ∷ [] in
    let S : List ℕ = seen_of w₀ m in
    let B : List Bool = node_bits w₀ m in
    let t : trails_of y n' ≡ trails_of w n ++ upward S B q =
    r.trails ∙ ap (λ (x : List ℕ). trails_of w n ++ upward x (node_bits w m) (parent_of (link_at w e i) ∷ [])) (low_seen w₀ w m ok k.low)
    ∙ ap (λ (x : List Bool). trails_of w n ++ upward S x (parent_of (link_at w e i) ∷ [])) (low_bits w₀ w m ok k.low m (omega arith))
    ∙ ap (λ (z : ℕ). trails_of w n ++ upward S B (parent_of z ∷ [])) (low_link w₀ w links (λ j z. k.low j (omega arith)) e i h l) in
    let more : n' ≤ n + 1 =
    omega (arith, length_trails y n', ap length t, length-append (trails_of w n) (upward S B q), length_trails w n, length_upward S B q) in
    record {
      within = omega arith;
      len = len ∙ k.len;
      room = omega (arith, k.room);
      paths = r.paths;
      ahead = ap (λ (x : List Trail). x ++ upward S B (drop (i + 1) (parents_of w₀ e))) t
          ∙ append_assoc (trails_of w n) (upward S B q) (upward S B (drop (i + 1) (parents_of w₀ e)))
          ∙ ap (λ (x : List Trail). trails_of w n ++ x) (upward_one S B (parent_of (link_at w₀ e i)) (drop (i + 1) (parents_of w₀ e)))
          ∙ ap (λ (x : List (ℕ × Bool)). trails_of w n ++ upward S B x) (sym (links_cons w₀ e i l))
          ∙ k.ahead;
      low = λ j q. r.low j q ∙ k.low j q;
      high = λ j q. r.high j q ∙ k.high j q;
    }

pub copying_end : {w₀ w : List ℕ} {e m first count n i : ℕ} → Copying w₀ w e m first count n i → count_at w₀ e ≤ i
    → Relisted w₀ w m n (trails_of w₀ count ++ copies w₀ m e first)
copying_end {w₀} {w} {e} {m} {n = n} {i = i} k l = record {
  trails =
      sym (append-nil (trails_of w n))
      ∙ ap (λ (x : List (ℕ × Bool)). trails_of w n ++ upward (seen_of w₀ m) (node_bits w₀ m) x) (sym (links_end w₀ e i l)) ∙ k.ahead;
  paths = k.paths;
  low = k.low;
  high = k.high;
}

-- What the next copy asks.
pub copying_asks : {w₀ w : List ℕ} {e m first count n i : ℕ} → Links w₀ → Nodes w₀ m → e < ENTRIES → count + (count_at w₀ e - first) ≤ MOST_PATHS
    → Copying w₀ w e m first count n i → i < count_at w₀ e
    → (Links w × Nodes w m × PathsOK w m n) × (e < ENTRIES × i < count_at w e × n < MOST_PATHS)
copying_asks {w₀} {w} {e} {m} links ok h r k l =
    let c : count_at w e ≡ count_at w₀ e = k.low (COUNTS + e) (omega arith) in
    ((low_links w₀ w links (λ j q. k.low j (omega arith)) k.len, low_nodes w₀ w m ok k.low, k.paths), (h, omega arith, omega (arith, k.room)))

-- ---- the search for the first

pub record Seeking (w : List ℕ) (e i : ℕ) : Type 0 where
  pub within : i ≤ count_at w e
  pub passed : (j : ℕ) → j < i → seen_at w (link_at w e j / 2) ≡ true

pub seeking_start : (w : List ℕ) (e : ℕ) → Seeking w e 0
seeking_start w e = record { within = omega arith; passed = λ j l. absurd (omega arith) }

pub seeking_more : (w : List ℕ) (e i : ℕ) → Seeking w e i → i < count_at w e → seen_at w (link_at w e i / 2) ≡ true → Seeking w e (i + 1)
seeking_more w e i k l t = record { within = omega arith; passed = λ j q. go j q (ℕ_discrete j i) }
  where
    go : (j : ℕ) → j < i + 1 → Dec (j ≡ i) → seen_at w (link_at w e j / 2) ≡ true
    go j q (yes p) = subst (λ (z : ℕ). seen_at w (link_at w e z / 2) ≡ true) (sym p) t
    go j q (no p) = k.passed j (omega arith)

pub seeking_found : (w : List ℕ) (e : ℕ) (k : Unseen) → k.all ≡ count_at w e → Seeking w e k.place → k.place < k.all
    → seen_at w (link_at w e k.place / 2) ≡ false → k.parent.0 ≡ link_at w e k.place → UnseenOf w e (Some k)
seeking_found w e k all s l t p =
    (record { all = all; within = omega (arith, s.within); passed = s.passed; stands = λ q. t; parent = λ q. p }, l)

pub seeking_none : (w : List ℕ) (e i : ℕ) → Seeking w e i → count_at w e ≤ i → UnseenOf w e None
seeking_none w e i s l = record {
  all = refl;
  within = omega arith;
  passed = λ j q. s.passed j (omega arith);
  stands = λ q. absurd (omega arith);
  parent = λ q. absurd (omega arith);
}
