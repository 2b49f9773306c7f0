-- A turn of a pass: what the step of the path at the cursor leaves.
-- Assumes nothing.
use mathlib.Core.Path.{◌≡◌, refl, sym, ap, ap₂, subst, ◌∙◌}
use mathlib.Core.Bool.{Bool, true, false, cond}
use mathlib.Core.List.{List, [], ◌∷◌, ◌++◌, append-nil}
use Prim.Native.Nat.{ℕ, zero, suc, ◌+◌, ◌*◌, ◌-◌, ◌/◌, ◌≤◌, ◌<◌}
use native.Mathlib.Omega.{arith}
use lib.ListN.{length, get_or, set, drop, length-append, length-set, length-drop}
use lib.Dec.{ltb}
use borrow.Author.Tests.{lt-ltb, le-ltb}
use Rattle.spec_search.specs.Search.{Trail, trail_bits, Parents, Stepped, result, stays, dropped, capped, most_visits, member, upward, sideward, moves, visit, distance, step}
use Rattle.words.specs.Choice.{cond_true, cond_false}
use Rattle.spec_search.specs.Lists.{size}
use Rattle.spec_search.specs.Flat.{swap_remove, init, last}
use Rattle.search_list.specs.Cursor.{goes, Mid, ahead}
use Rattle.search_list.proofs.CursorLaws.{Facing, over, over_mid, over_less, is_result, is_capped, stays_goes, stays_mid, stays_less, dropped_goes, dropped_mid, dropped_less}
use Rattle.std.proofs.Common.{Some, None, Break}
use Rattle.work_layout.specs.Layout.{USED, COUNTS, PATHS, DEPTH, ENTRIES}
use Rattle.work_layout.specs.Rows.{link_at, parents_of, stack_of, Tops}
use Rattle.search_list.specs.State.{parents_of_all, seen_of, node_bits, trail, trail_of, trails_of, node_at, place_at, extra_at, seen_at, count_at, Readable, MOST_PATHS}
use Rattle.search_list.specs.Steps.{copies, stacked, search_of, on, unseen, Links, Nodes, PathOK, PathsOK, Working, Kept, Stored, Relisted, Visited, FirstUnseen, Turns, Steps}
use Rattle.path.specs.Bytes.{odd}
use Rattle.words.specs.Words.{at}
use Rattle.words.proofs.Words.{tabulate_same}
use Rattle.search_list.proofs.Nodes.{marks_of, low_seen, length_seen}
use Rattle.search_list.proofs.Trails.{length_trails, at_trails, store_at}
use Rattle.search_list.proofs.Upward.{up_skip, up_new, up_end, length_upward, low_links, low_links_of, low_parents, length_links, parents_are}
use Rattle.search_list.proofs.Room.{unseen_visit, unseen_same}
use Rattle.search_list.proofs.Kept.{length_sideward, stack_same, low_tops, re_links, re_tops, re_nodes}

-- ---- the meaning of what is left

goes_same : {P P' : Parents} {S S' : List ℕ} {l l' : List Trail} {s s' : List ℕ} (L c : ℕ) → P' ≡ P → S' ≡ S → l' ≡ l → s' ≡ s
    → goes P S L l c s ≡ goes P' S' L l' c s'
goes_same L c a b e f = rw (a, b, e, f)

pub kept_none : (w : List ℕ) → Kept w w
kept_none w = record { low = λ k l. refl; high = λ k l. refl }

pub few : {w : List ℕ} {d n m : ℕ} → Working w d n m → n ≤ 3073
few ok = omega (arith, ok.room, ok.nodes.few)

-- Path c of a list that is sound.
pub record Here (w : List ℕ) (d c n m : ℕ) : Type 0 where
  pub ok : Working w d n m
  pub slot : c < n

module _ {w : List ℕ} {d c n m : ℕ} (here : Here w d c n m) where
  facing : {L : ℕ} → Mid L (trails_of w n) c → Facing L (trails_of w n) c (trail_of w c)
  facing mid = record { inside = rw length_trails here.slot; is = at_trails w n c (trail_of w c) here.slot; mid = mid }

  pub turned_over : (L : ℕ) → Mid L (trails_of w n) c → L < size (trail_of w c) → Turns w w d L c n m (on (c + 1) (search_of n m d))
  turned_over L mid l = record {
    same = over (facing mid) (parents_of_all w) (stack_of w d) (seen_of w m) l;
    fine = (here.ok, over_mid (facing mid) l, over_less (facing mid) l, refl);
    kept = kept_none w;
  }

  readable : Readable w c
  readable =
      let p : PathOK w m c = here.ok.paths c here.slot in
      let f : m ≤ most_visits = here.ok.nodes.few in
      let q : node_at w c ≤ m = p.node in
      record {
        slot = omega (arith, few here.ok, here.slot);
        chain = record { few = omega arith; prev = λ k l. here.ok.nodes.prev k (omega arith) };
        len = here.ok.nodes.lens (node_at w c) q;
        short = omega (arith, here.ok.nodes.short (node_at w c) q);
        extra = go (extra_at w c) p.stack;
      }
    where
      go : (x : ℕ) → (0 < x → x + place_at w c ≤ DEPTH) → x ≤ DEPTH
      go zero h = omega arith
      go (suc x) h = omega (arith, h (omega arith))

  pub turned_result : step (parents_of_all w) (stack_of w d) (seen_of w m) (trail_of w c) ≡ result (trail_bits (trail_of w c)) → Steps w w d c n m (Break (Some c))
  turned_result s L mid l = record {
    same = is_result (facing mid) (parents_of_all w) (stack_of w d) (seen_of w m) l s;
    fine = readable;
    kept = kept_none w;
  }

  pub turned_capped : step (parents_of_all w) (stack_of w d) (seen_of w m) (trail_of w c) ≡ capped → Steps w w d c n m (Break None)
  turned_capped s L mid l = record {
    same = is_capped (facing mid) (parents_of_all w) (stack_of w d) (seen_of w m) l s;
    fine = tt;
    kept = kept_none w;
  }

  module _ {y : List ℕ} {n' m' : ℕ} (ok' : Working y d n' m') (kept : Kept w y) (len : length y ≡ length w) where
    same_parents : parents_of_all y ≡ parents_of_all w
    same_parents = low_parents w y here.ok.links kept.low

    same_stack : stack_of y d ≡ stack_of w d
    same_stack = stack_same w y d kept.low here.ok.tops.deep

    pub turned_stays : {q : Trail} {added : List Trail} {seen' : List ℕ}
        → step (parents_of_all w) (stack_of w d) (seen_of w m) (trail_of w c) ≡ stays q added seen'
        → trails_of y n' ≡ set (trails_of w n) c q ++ added → seen_of y m' ≡ seen' → Steps w y d c n m (on (c + 1) (search_of n' m' d))
    turned_stays {q} {added} s t e L mid l =
        let b : length (set (trails_of w n) c q ++ added) < 4096 = omega (arith, few ok', length_trails y n', ap length t) in
        record {
          same = stays_goes (facing mid) (parents_of_all w) (stack_of w d) (seen_of w m) l s ∙ goes_same L (c + 1) same_parents same_stack t e;
          fine = (
            ok',
            subst (λ (x : List Trail). Mid L x (c + 1)) (sym t) (stays_mid (facing mid) (parents_of_all w) (stack_of w d) (seen_of w m) l s),
            subst (λ (x : List Trail). ahead L x (c + 1) < ahead L (trails_of w n) c) (sym t)
                (stays_less (facing mid) (parents_of_all w) (stack_of w d) (seen_of w m) l s b),
            refl,
          );
          kept = kept;
        }

    pub turned_dropped : {added : List Trail} {seen' : List ℕ} → step (parents_of_all w) (stack_of w d) (seen_of w m) (trail_of w c) ≡ dropped added seen'
        → trails_of y n' ≡ swap_remove (trails_of w n ++ added) c (trail_of w c) → seen_of y m' ≡ seen' → Steps w y d c n m (on c (search_of n' m' d))
    turned_dropped {added} s t e L mid l =
        let b : length (swap_remove (trails_of w n ++ added) c (trail_of w c)) < 4096 = omega (arith, few ok', length_trails y n', ap length t) in
        record {
          same = dropped_goes (facing mid) (parents_of_all w) (stack_of w d) (seen_of w m) l s ∙ goes_same L c same_parents same_stack t e;
          fine = (
            ok',
            subst (λ (x : List Trail). Mid L x c) (sym t) (dropped_mid (facing mid) (parents_of_all w) (stack_of w d) (seen_of w m) l s),
            subst (λ (x : List Trail). ahead L x c < ahead L (trails_of w n) c) (sym t)
                (dropped_less (facing mid) (parents_of_all w) (stack_of w d) (seen_of w m) l s b),
            refl,
          );
          kept = kept;
        }

-- ---- only the list was changed

module _ {w y : List ℕ} {d n n' m : ℕ} {list : List Trail} (ok : Working w d n m) (r : Relisted w y m n' list) (len : length y ≡ length w) where
  pub relisted_kept : Kept w y
  relisted_kept = record { low = λ k l. r.low k (omega arith); high = r.high }

  pub relisted_seen : seen_of y m ≡ seen_of w m
  relisted_seen = low_seen w y m ok.nodes r.low

  pub relisted_sound : n' + unseen (count_at w) (seen_of w m) ENTRIES ≤ 2049 + m → Working y d n' m
  relisted_sound h = record {
    links = re_links w y m r.low len ok.links;
    tops = re_tops w y m r.low len d ok.tops;
    nodes = re_nodes w y m r.low len ok.nodes;
    paths = r.paths;
    room = rw (relisted_seen, unseen_same (count_at w) (count_at y) (seen_of w m) ENTRIES (λ k l. r.low (COUNTS + k) (omega arith))) h;
  }

-- ---- on the stack

module _ (P : Parents) (S seen : List ℕ) (B : List Bool) where
  at_top : (x v : ℕ) → 0 < x → v ≡ 0 → step P S seen (trail x B v) ≡ result (trail_bits (trail x B v))
  at_top zero v h z = absurd (omega arith)
  at_top (suc x) zero h z = refl
  at_top (suc x) (suc v) h z = absurd (omega arith)

  one_nearer : (x v : ℕ) → 0 < x → (v ≡ 0 → ⊥) → step P S seen (trail x B v) ≡ stays (trail (x + 1) B (v - 1)) [] seen
  one_nearer zero v h z = absurd (omega arith)
  one_nearer (suc x) zero h z = absurd (z refl)
  one_nearer (suc x) (suc v) h z =
      let e : suc v - 1 ≡ v = omega arith in
      let f : suc x + 1 ≡ suc (suc x) = omega arith in
      rw (e, f)

module _ {w : List ℕ} {d c n m : ℕ} (here : Here w d c n m) (hx : 0 < extra_at w c) where
  pub stack_result : place_at w c ≡ 0 → Steps w w d c n m (Break (Some c))
  unfolding trail_of
  stack_result z =
      turned_result here (at_top (parents_of_all w) (stack_of w d) (seen_of w m) (node_bits w (node_at w c)) (extra_at w c) (place_at w c) hx z)

  pub stack_nearer : {y : List ℕ} → (place_at w c ≡ 0 → ⊥) → length y ≡ length w → Stored w y c (node_at w c) (place_at w c - 1) (extra_at w c + 1)
      → Steps w y d c n m (on (c + 1) (search_of n m d))
  unfolding trail_of
  stack_nearer {y} z len s =
      let q : PathOK w m c = here.ok.paths c here.slot in
      let p : extra_at w c + place_at w c ≤ DEPTH = q.stack hx in
      let r : Relisted w y m n (set (trails_of w n) c (trail (extra_at w c + 1) (node_bits w (node_at w c)) (place_at w c - 1))) =
      store_at w y m c (node_at w c) (place_at w c - 1) (extra_at w c + 1) here.ok.nodes s q.node (λ e. absurd (omega arith)) (λ e. omega arith) n here.slot
      (omega (arith, few here.ok)) here.ok.paths in
      turned_stays here (relisted_sound here.ok r len here.ok.room) (relisted_kept here.ok r len) len
      (one_nearer (parents_of_all w) (stack_of w d) (seen_of w m) (node_bits w (node_at w c)) (extra_at w c) (place_at w c) hx z)
      (r.trails ∙ sym (append-nil _)) (relisted_seen here.ok r len)

-- ---- at an entry

init_length : (l : List Trail) → length (init l) ≤ length l
init_length [] = omega arith
init_length (p ∷ []) = omega arith
init_length (p ∷ q ∷ qs) = omega (arith, init_length (q ∷ qs))

swapped_length : (l : List Trail) (c : ℕ) (p : Trail) → length (swap_remove l c p) ≤ length l
swapped_length l c p = omega (arith, init_length (set l c (last p l)), length-set l c (last p l))

-- Path c is at entry e.
pub record At_entry (w : List ℕ) (d c n m e : ℕ) : Type 0 where
  pub here : Here w d c n m
  pub none : extra_at w c ≡ 0
  pub is : e ≡ place_at w c / 2

pub at_entry_of : {w : List ℕ} {d c n m e : ℕ} → Working w d n m × (c < n) × (extra_at w c ≡ 0) → e ≡ place_at w c / 2 → At_entry w d c n m e
at_entry_of p is = record { here = record { ok = p.0; slot = p.1 }; none = p.2; is = is }

module _ {w : List ℕ} {d c n m e : ℕ} (a : At_entry w d c n m e) where
  P : Parents
  P = parents_of_all w

  S : List ℕ
  S = stack_of w d

  seen : List ℕ
  seen = seen_of w m

  B : List Bool
  B = node_bits w (node_at w c)

  entry_used : e < at w USED
  entry_used = omega (arith, a.is, (a.here.ok.paths c a.here.slot).entry a.none)

  pub entry_low : e < ENTRIES
  entry_low = omega (arith, entry_used, a.here.ok.links.used)

  is_trail : trail_of w c ≡ trail 0 B (place_at w c)
  unfolding trail_of B
  is_trail = ap (λ (x : ℕ). trail x (node_bits w (node_at w c)) (place_at w c)) a.none

  is_member : seen_at w e ≡ member e seen
  unfolding seen
  is_member = marks_of a.here.ok.links a.here.ok.nodes e entry_used

  -- What the step at entry k gives.
  stepped : ℕ → Stepped
  stepped k = cond (member k seen) (dropped [] seen) (cond (ltb (length seen) most_visits) (visit P S seen B k (odd (place_at w c))) capped)

  step_at : step P S seen (trail_of w c) ≡ stepped e
  unfolding stepped
  step_at = ap (step P S seen) is_trail ∙ ap stepped (sym a.is)

  pub entry_seen : {y : List ℕ} → true ≡ seen_at w e → length y ≡ length w
      → Relisted w y m (n - 1) (swap_remove (trails_of w (n - 1 + 1)) c (trail_of w c)) → Steps w y d c n m (on c (search_of (n - 1) m d))
  unfolding P S seen stepped
  entry_seen t len r =
      let ok = a.here.ok in
      let h = a.here.slot in
      let k : n - 1 + 1 ≡ n = omega arith in
      turned_dropped a.here (relisted_sound ok r len (omega (arith, ok.room))) (relisted_kept ok r len) len
      (step_at ∙ cond_true _ _ _ (sym is_member ∙ sym t))
      (r.trails ∙ ap (λ (j : ℕ). swap_remove (trails_of w j) c (trail_of w c)) k
      ∙ ap (λ (x : List Trail). swap_remove x c (trail_of w c)) (sym (append-nil (trails_of w n))))
      (relisted_seen ok r len)

  module _ (un : false ≡ seen_at w e) where
    not_member : member e seen ≡ false
    not_member = sym is_member ∙ sym un

    pub entry_capped : m ≡ most_visits → Steps w w d c n m (Break None)
    unfolding P S seen stepped
    entry_capped h =
        turned_capped a.here
        (step_at ∙ cond_false _ _ _ not_member ∙ cond_false _ _ _ (le-ltb (length (seen_of w m)) most_visits (omega (arith, length_seen w m))))

-- The visit of entry e made a node.
pub record Visiting (w x : List ℕ) (d c n m e : ℕ) : Type 0 where
  pub from : At_entry w d c n m e
  pub new : false ≡ seen_at w e
  pub more : m < most_visits
  pub made : Visited w x c m
  pub len : length x ≡ length w

pub visiting_of : {w x : List ℕ} {d c n m e : ℕ}
    → Working w d n m × (c < n) × (extra_at w c ≡ 0) × (false ≡ seen_at w (place_at w c / 2)) × (m < most_visits)
    → e ≡ place_at w c / 2 → Visited w x c m → length x ≡ length w → Visiting w x d c n m e
visiting_of {w} p is made len = record {
  from = at_entry_of (p.0, p.1, p.2) is;
  new = p.3 ∙ ap (seen_at w) (sym is);
  more = p.4;
  made = made;
  len = len;
}

module _ {w x : List ℕ} {d c n m e : ℕ} (u : Visiting w x d c n m e) where
  here : Here w d c n m
  here = u.from.here

  v : Visited w x c m
  v = u.made

  S' : List ℕ
  S' = seen_of x (m + 1)

  B' : List Bool
  B' = node_bits x (m + 1)

  pub visit_low : e < ENTRIES
  visit_low = entry_low u.from

  pub visit_links : Links x
  visit_links = low_links w x here.ok.links v.low u.len

  tops_x : Tops x d
  tops_x = low_tops w x d v.low here.ok.tops

  paths_x : PathsOK x (m + 1) n
  paths_x i l =
      let f = few here.ok in
      let p : PathOK w m i = here.ok.paths i l in
      let a : node_at x i ≡ node_at w i = v.high (PATHS + 3 * i) (omega arith) in
      let b : place_at x i ≡ place_at w i = v.high (PATHS + 3 * i + 1) (omega arith) in
      let q : extra_at x i ≡ extra_at w i = v.high (PATHS + 3 * i + 2) (omega arith) in
      record { node = omega (arith, p.node); entry = rw (b, q, v.low USED (omega arith)) p.entry; stack = rw (b, q) p.stack }

  trails_x : trails_of x n ≡ trails_of w n
  unfolding trails_of trail_of
  trails_x = tabulate_same n (trail_of w) (trail_of x) (λ i l.
      rw (v.high (PATHS + 3 * i) (omega arith), v.high (PATHS + 3 * i + 1) (omega arith), v.high (PATHS + 3 * i + 2) (omega arith))
      (ap (λ (b : List Bool). trail (extra_at w i) b (place_at w i)) (v.older (node_at w i) (here.ok.paths i l).node)))

  seen_x : seen_of x (m + 1) ≡ e ∷ seen_of w m
  seen_x = rw u.from.is v.seen

  count_x : count_at x e ≡ count_at w e
  count_x = v.low (COUNTS + e) (omega (arith, visit_low))

  -- Room for the parents of the entry.
  spare : n + count_at w e + unseen (count_at w) (e ∷ seen_of w m) ENTRIES ≤ 2049 + m
  unfolding seen
  spare = omega (arith, here.ok.room, unseen_visit (count_at w) (seen_of w m) e ENTRIES visit_low (not_member u.from u.new))

  step_visit : step (parents_of_all w) (stack_of w d) (seen_of w m) (trail_of w c)
      ≡ moves (upward S' B' (parents_of x e)) (sideward B' (distance e (stack_of x d))) S'
  unfolding P S seen B stepped S' B'
  step_visit =
      let l : m < most_visits = u.more in
      step_at u.from ∙ cond_false _ _ _ (not_member u.from u.new)
      ∙ cond_true _ _ _ (lt-ltb (length (seen_of w m)) most_visits (omega (arith, length_seen w m)))
      ∙ rw (seen_x, v.bits, stack_same w x d v.low here.ok.tops.deep, low_links_of w x here.ok.links v.low e visit_low, parents_are w e visit_low)

  pub visit_asks : {k p a : ℕ} → FirstUnseen x e k p a → k < a
      → (Links x × Tops x d × Nodes x (m + 1) × PathsOK x (m + 1) n)
      × (c < n × e < ENTRIES × k < a × n + (a - k) ≤ MOST_PATHS × a ≡ count_at x e × p ≡ link_at x e k)
  visit_asks f h = let l : m < most_visits = u.more in
      ((visit_links, tops_x, v.nodes, paths_x), (here.slot, visit_low, h, omega (arith, spare, count_x, f.all), f.all, f.parent h))

  pub visit_asks_2 : (Links x × Tops x d × Nodes x (m + 1) × PathsOK x (m + 1) n) × (c < n × e < ENTRIES × n < MOST_PATHS)
  visit_asks_2 = ((visit_links, tops_x, v.nodes, paths_x), (here.slot, visit_low, omega (arith, few here.ok)))

  module _ {k p a : ℕ} (f : FirstUnseen x e k p a) where
    link_member : (j : ℕ) → j < count_at x e → seen_at x (link_at x e j / 2) ≡ member (link_at x e j / 2) S'
    unfolding S'
    link_member j l = marks_of visit_links v.nodes (link_at x e j / 2) (omega (arith, visit_links.links e j visit_low l))

    skipped : upward S' B' (parents_of x e) ≡ upward S' B' (drop k (parents_of x e))
    unfolding S'
    skipped =
        let b : k ≤ count_at x e = omega (arith, f.within, f.all) in
        up_skip x e S' B' k b (λ j l. sym (link_member j (omega arith)) ∙ f.passed j l)

    module _ {y : List ℕ} {n' : ℕ} (ly : length y ≡ length x) where
      -- The words are sound again, after the list was changed.
      sound_y : {list : List Trail} → Relisted x y (m + 1) n' list → n' ≤ n + count_at w e + 1 → Working y d n' (m + 1)
      sound_y r b = record {
        links = re_links x y (m + 1) r.low ly visit_links;
        tops = re_tops x y (m + 1) r.low ly d tops_x;
        nodes = re_nodes x y (m + 1) r.low ly v.nodes;
        paths = r.paths;
        room =
            rw (
              low_seen x y (m + 1) v.nodes r.low,
              seen_x,
              unseen_same (count_at w) (count_at y) (e ∷ seen_of w m) ENTRIES
                  (λ j l. r.low (COUNTS + j) (omega arith) ∙ v.low (COUNTS + j) (omega arith)),
            ) (omega (arith, spare));
      }

      kept_y : {list : List Trail} → Relisted x y (m + 1) n' list → Kept w y
      kept_y r = record { low = λ j l. r.low j (omega arith) ∙ v.low j l; high = λ j l. r.high j l ∙ v.high j (omega arith) }

      pub visit_up : k < a
          → Relisted x y (m + 1) n'
          (set (trails_of x n) c (trail 0 (node_bits x (m + 1)) (link_at x e k)) ++ (copies x (m + 1) e (k + 1) ++ stacked x (m + 1) e d))
          → Steps w y d c n m (on (c + 1) (search_of n' (m + 1) d))
      unfolding S' B'
      visit_up h r =
          let l : k < count_at x e = omega (arith, f.all) in
          let q : Trail = trail 0 (node_bits x (m + 1)) (link_at x e k) in
          let up : List Trail = copies x (m + 1) e (k + 1) in
          let side : List Trail = stacked x (m + 1) e d in
          let s : step (parents_of_all w) (stack_of w d) (seen_of w m) (trail_of w c) ≡ stays q (up ++ side) (seen_of x (m + 1)) =
          step_visit ∙ ap (λ (l : List Trail). moves l side (seen_of x (m + 1)))
          (skipped ∙ up_new x e S' B' k l (sym (link_member k l) ∙ f.stands h)) in
          let few_up : length up ≤ count_at w e - (k + 1) =
          omega (arith, length_upward S' B' (drop (k + 1) (parents_of x e)), length-drop (k + 1) (parents_of x e), length_links x e, count_x) in
          let b : n' ≤ n + count_at w e + 1 =
          omega (
            arith,
            length_trails y n',
            ap length r.trails,
            length-append (set (trails_of x n) c q) (up ++ side),
            length-append up side,
            length-set (trails_of x n) c q,
            length_trails x n,
            length_sideward B' (distance e (stack_of x d)),
          ) in
          turned_stays here (sound_y r b) (kept_y r) (ly ∙ u.len) s
          (r.trails ∙ ap (λ (l : List Trail). set l c q ++ (up ++ side)) trails_x)
          (low_seen x y (m + 1) v.nodes r.low)

      pub visit_off : a ≤ k → Relisted x y (m + 1) n' (swap_remove (trails_of x n ++ stacked x (m + 1) e d) c (trail_of x c))
          → Steps w y d c n m (on c (search_of n' (m + 1) d))
      unfolding S' B'
      visit_off h r =
          let side : List Trail = stacked x (m + 1) e d in
          let s : step (parents_of_all w) (stack_of w d) (seen_of w m) (trail_of w c) ≡ dropped side (seen_of x (m + 1)) =
          step_visit ∙ ap (λ (l : List Trail). moves l side (seen_of x (m + 1))) (skipped ∙ up_end x e S' B' k (omega (arith, f.all))) in
          let hx : trail_of x c ≡ trail_of w c =
          sym (at_trails x n c (trail_of w c) here.slot) ∙ ap (λ (l : List Trail). get_or l c (trail_of w c)) trails_x
          ∙ at_trails w n c (trail_of w c) here.slot in
          let t : trails_of y n' ≡ swap_remove (trails_of w n ++ side) c (trail_of w c) =
          r.trails ∙ ap₂ {C = List Trail} (λ l p. swap_remove (l ++ side) c p) trails_x hx in
          let b : n' ≤ n + count_at w e + 1 =
          omega (
            arith,
            length_trails y n',
            ap length t,
            length_trails w n,
            length_sideward B' (distance e (stack_of x d)),
            swapped_length (trails_of w n ++ side) c (trail_of w c),
            length-append (trails_of w n) side,
          ) in
          turned_dropped here (sound_y r b) (kept_y r) (ly ∙ u.len) s t (low_seen x y (m + 1) v.nodes r.low)
