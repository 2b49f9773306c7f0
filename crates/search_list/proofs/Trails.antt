-- The working list: a path stored, added, dropped.
-- Assumes nothing.
use mathlib.Core.Path.{◌≡◌, refl, sym, ap, ◌∙◌}
use mathlib.Core.Bool.{Bool, false}
use mathlib.Core.List.{List, [], ◌∷◌, ◌++◌, append-nil}
use Prim.Native.Nat.{ℕ, zero, suc, ◌+◌, ◌*◌, ◌≤◌, ◌<◌}
use native.Mathlib.Omega.{arith}
use native.Mathlib.Decide.{ℕ_discrete, dec_lt}
use lib.ListN.{length, get_or, set}
use Rattle.spec_search.specs.Search.{Trail}
use Rattle.spec_search.specs.Lists.{size}
use Rattle.spec_search.specs.Flat.{swap_remove, last, init}
use Rattle.spec_search.proofs.Flat.{last_seam, init_seam}
use Rattle.words.specs.Words.{at, tabulate, WORK}
use Rattle.work_layout.specs.Layout.{USED, PATHS, DEPTH, LENS}
use Rattle.search_list.specs.State.{node_bits, trail, trues, trail_of, trails_of, path_at, Readable, node_at, place_at, extra_at, MOST_PATHS}
use Rattle.search_list.specs.Steps.{Nodes, PathOK, PathsOK, Stored, Relisted}
use Rattle.words.proofs.Words.{Store, miss, hits, length_tabulate, get_d_tabulate, tabulate_set, tabulate_more}
use Rattle.search_list.proofs.Nodes.{low_bits}

pub stored : (w : List ℕ) (i a v x : ℕ) → WORK ≤ length w → i < MOST_PATHS
    → Stored w (set (set (set w (PATHS + 3 * i) a) (PATHS + 3 * i + 1) v) (PATHS + 3 * i + 2) x) i a v x
stored w i a v x long h =
    let ss : List Store =
    record { to = PATHS + 3 * i; word = a } ∷ record { to = PATHS + 3 * i + 1; word = v } ∷ record { to = PATHS + 3 * i + 2; word = x } ∷ [] in
    record {
      node = hits ss 0 w (omega arith) (omega arith) (omega arith);
      place = hits ss 1 w (omega arith) (omega arith) (omega arith);
      extra = hits ss 2 w (omega arith) (omega arith) tt;
      below = λ k l. miss ss w k (omega arith);
      above = λ k l. miss ss w k (omega arith);
    }

pub size_trues : (x : ℕ) (bs : List Bool) → length (trues x bs) ≡ x + length bs
size_trues zero bs = omega arith
size_trues (suc x) bs = omega (arith, size_trues x bs)

pub size_trail : (x : ℕ) (bs : List Bool) (v : ℕ) → size (trail x bs v) ≡ x + length bs
size_trail zero bs v = omega arith
size_trail (suc x) bs v = omega (arith, size_trues x (false ∷ bs))

pub size_of : (w : List ℕ) (m i : ℕ) → Nodes w m → PathOK w m i → size (trail_of w i) ≡ at w (LENS + node_at w i) + extra_at w i
unfolding trail_of
size_of w m i ok p = size_trail (extra_at w i) (node_bits w (node_at w i)) (place_at w i) ∙ omega (arith, ok.lens (node_at w i) p.node)

pub length_trails : (w : List ℕ) (n : ℕ) → length (trails_of w n) ≡ n
unfolding trails_of
length_trails w n = length_tabulate n (trail_of w)

pub at_trails : (w : List ℕ) (n i : ℕ) (p : Trail) → i < n → get_or (trails_of w n) i p ≡ trail_of w i
unfolding trails_of
at_trails w n i p h = get_d_tabulate n (trail_of w) i p h

module _ (w w' : List ℕ) (m c a v x : ℕ) (ok : Nodes w m) (s : Stored w w' c a v x) (h : a ≤ m) where
  store_low : (k : ℕ) → k < PATHS → at w' k ≡ at w k
  store_low k l = s.below k (omega arith)

  trail_here : trail_of w' c ≡ trail x (node_bits w a) v
  unfolding trail_of
  trail_here = rw (s.node, s.place, s.extra) (ap (λ (b : List Bool). trail x b v) (low_bits w w' m ok store_low a h))

  words_other : (i k : ℕ) → (i ≡ c → ⊥) → PATHS + 3 * i ≤ k → k < PATHS + 3 * i + 3 → at w' k ≡ at w k
  words_other i k d l g = go (dec_lt i c)
    where
      go : Dec (i < c) → at w' k ≡ at w k
      go (yes y) = s.below k (omega arith)
      go (no y) = s.above k (omega arith)

  trail_other : (i : ℕ) → (i ≡ c → ⊥) → node_at w i ≤ m → trail_of w' i ≡ trail_of w i
  unfolding trail_of
  trail_other i d l =
      rw (
        words_other i (PATHS + 3 * i) d (omega arith) (omega arith),
        words_other i (PATHS + 3 * i + 1) d (omega arith) (omega arith),
        words_other i (PATHS + 3 * i + 2) d (omega arith) (omega arith),
      )
      (ap (λ (b : List Bool). trail (extra_at w i) b (place_at w i)) (low_bits w w' m ok store_low (node_at w i) l))

  module _ (pe : x ≡ 0 → v < 2 * at w USED) (ps : 0 < x → x + v ≤ DEPTH) where
    path_here : PathOK w' m c
    path_here = record {
      node = rw s.node h;
      entry = rw (s.extra, s.place, store_low USED (omega arith)) pe;
      stack = rw (s.extra, s.place) ps;
    }

    path_other : (i : ℕ) → (i ≡ c → ⊥) → PathOK w m i → PathOK w' m i
    path_other i d p =
        let a : node_at w' i ≡ node_at w i = words_other i (PATHS + 3 * i) d (omega arith) (omega arith) in
        let b : place_at w' i ≡ place_at w i = words_other i (PATHS + 3 * i + 1) d (omega arith) (omega arith) in
        let e : extra_at w' i ≡ extra_at w i = words_other i (PATHS + 3 * i + 2) d (omega arith) (omega arith) in
        record { node = rw a p.node; entry = rw (b, e, store_low USED (omega arith)) p.entry; stack = rw (b, e) p.stack }

    paths_after : (n : ℕ) → ((i : ℕ) → i < n → (i ≡ c → ⊥) → PathOK w m i) → PathsOK w' m n
    paths_after n ps i l = go (ℕ_discrete i c)
      where
        go : Dec (i ≡ c) → PathOK w' m i
        go (yes e) = rw e path_here
        go (no e) = path_other i e (ps i l e)

    -- Path c is another one.
    pub store_at : (n : ℕ) → c < n → n ≤ MOST_PATHS → PathsOK w m n → Relisted w w' m n (set (trails_of w n) c (trail x (node_bits w a) v))
    unfolding trails_of
    store_at n l b p = record {
      trails = tabulate_set n (trail_of w) (trail_of w') c l (λ k q d. trail_other k d (p k q).node) ∙ ap (set (tabulate n (trail_of w)) c) trail_here;
      paths = paths_after n (λ i q d. p i q);
      low = store_low;
      high = λ k q. s.above k (omega arith);
    }

    -- One path more.
    pub store_end : c < MOST_PATHS → PathsOK w m c → Relisted w w' m (c + 1) (trails_of w c ++ trail x (node_bits w a) v ∷ [])
    unfolding trails_of
    store_end b p = record {
      trails =
          tabulate_more c (trail_of w) (trail_of w') (λ k q. trail_other k (omega arith) (p k q).node)
          ∙ ap (λ (t : Trail). tabulate c (trail_of w) ++ t ∷ []) trail_here;
      paths = paths_after (c + 1) (λ i q d. p i (omega arith));
      low = store_low;
      high = λ k q. s.above k (omega arith);
    }

-- ---- a path is dropped

last_tabulate : (d : Trail) (n : ℕ) (f : ℕ → Trail) → last d (tabulate (n + 1) f) ≡ f n
last_tabulate d n f = ap (last d) (tabulate_more n f f (λ k l. refl)) ∙ last_seam d (tabulate n f) (f n) []

init_tabulate : (n : ℕ) (f : ℕ → Trail) → init (tabulate (n + 1) f) ≡ tabulate n f
init_tabulate n f = ap init (tabulate_more n f f (λ k l. refl)) ∙ init_seam (tabulate n f) (f n) [] ∙ append-nil (tabulate n f)

last_is : (w : List ℕ) (d : Trail) (n : ℕ) → last d (tabulate (n + 1) (trail_of w)) ≡ trail (extra_at w n) (node_bits w (node_at w n)) (place_at w n)
unfolding trail_of
last_is w d n = last_tabulate d n (trail_of w)

-- The last path, n, took slot c.
pub path_dropped : (w w' : List ℕ) (m c n : ℕ) → Nodes w m → Stored w w' c (node_at w n) (place_at w n) (extra_at w n) → c < n + 1 → n + 1 ≤ MOST_PATHS
    → PathsOK w m (n + 1)
    → Relisted w w' m n (swap_remove (trails_of w (n + 1)) c (trail_of w c))
unfolding trails_of
path_dropped w w' m c n ok s l b p =
    let q : PathOK w m n = p n (omega arith) in
    let r : Relisted w w' m (n + 1) (set (trails_of w (n + 1)) c (trail (extra_at w n) (node_bits w (node_at w n)) (place_at w n))) =
    store_at w w' m c (node_at w n) (place_at w n) (extra_at w n) ok s q.node q.entry q.stack (n + 1) l b p in
    record {
      trails = sym (init_tabulate n (trail_of w')) ∙ ap init (r.trails ∙ ap (set (tabulate (n + 1) (trail_of w)) c) (sym (last_is w (trail_of w c) n)));
      paths = λ i h. r.paths i (omega arith);
      low = r.low;
      high = r.high;
    }

-- The bits of a path that can be read are as many as its words say.
pub readable_size : (w : List ℕ) (i : ℕ) → Readable w i → at w (LENS + node_at w i) + extra_at w i ≡ length (path_at w i)
unfolding trail_of
readable_size w i r = sym (size_trail (extra_at w i) (node_bits w (node_at w i)) (place_at w i) ∙ omega (arith, r.len))
