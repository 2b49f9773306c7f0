-- The parents of an entry, and the paths that go up to them.
-- Assumes nothing.
use mathlib.Core.Path.{◌≡◌, refl, sym, ap, ap₂, ◌∙◌}
use mathlib.Core.Bool.{Bool, true, false, cond}
use mathlib.Core.List.{List, [], ◌∷◌}
use Prim.Native.Nat.{ℕ, zero, suc, ◌+◌, ◌/◌, ◌≤◌, ◌<◌}
use native.Mathlib.Omega.{arith}
use native.Mathlib.Numerals.{add-one}
use lib.ListN.{length, drop, drop_of_length-le}
use lib.Seq.{drop-cons}
use lib.Dec.{ltb}
use borrow.Author.Tests.{lt-ltb, ltb-true}
use Rattle.spec_search.specs.Search.{Trail, at_entry, member, upward}
use Rattle.words.specs.Choice.{cond_true, cond_false, by_cond}
use Rattle.words.specs.Words.{at, tabulate}
use Rattle.work_layout.specs.Layout.{USED, COUNTS, SEEN, ENTRIES}
use Rattle.work_layout.specs.Rows.{link_at, parent_of, parents_of}
use Rattle.work_layout.specs.Parents.{link_same}
use Rattle.search_list.specs.State.{parents_of_all, count_at}
use Rattle.search_list.specs.Steps.{Links}
use Rattle.path.specs.Bytes.{odd}
use Rattle.words.proofs.Words.{length_tabulate, get_d_tabulate, tabulate_same}

module _ (w : List ℕ) (e : ℕ) where
  pub length_links : length (parents_of w e) ≡ count_at w e
  unfolding parents_of
  length_links = length_tabulate (count_at w e) (λ i. parent_of (link_at w e i))

  pub links_cons : (i : ℕ) → i < count_at w e → drop i (parents_of w e) ≡ parent_of (link_at w e i) ∷ drop (i + 1) (parents_of w e)
  unfolding parents_of
  links_cons i l =
      drop-cons (parents_of w e) i (parent_of 0) (rw length_links l)
      ∙ ap₂ {C = List (ℕ × Bool)} (λ q k. q ∷ drop k (parents_of w e))
      (get_d_tabulate (count_at w e) (λ j. parent_of (link_at w e j)) i (parent_of 0) l) (sym (add-one i))

  pub links_end : (i : ℕ) → count_at w e ≤ i → drop i (parents_of w e) ≡ []
  links_end i l = let b : length (parents_of w e) ≤ i = omega (arith, length_links) in drop_of_length-le (parents_of w e) b

  pub parents_are : e < ENTRIES → parents_of_all w e ≡ parents_of w e
  unfolding parents_of_all
  parents_are h = cond_true _ _ _ (lt-ltb e ENTRIES h)

  module _ (seen : List ℕ) (bits : List Bool) where
    pub up_seen : (i : ℕ) → i < count_at w e → member (link_at w e i / 2) seen ≡ true
        → upward seen bits (drop i (parents_of w e)) ≡ upward seen bits (drop (i + 1) (parents_of w e))
    up_seen i l t = ap (upward seen bits) (links_cons i l) ∙ cond_true _ _ _ t

    pub up_new : (i : ℕ) → i < count_at w e → member (link_at w e i / 2) seen ≡ false
        → upward seen bits (drop i (parents_of w e)) ≡ at_entry bits (link_at w e i / 2) (odd (link_at w e i)) ∷ upward seen bits
        (drop (i + 1) (parents_of w e))
    up_new i l t = ap (upward seen bits) (links_cons i l) ∙ cond_false _ _ _ t

    pub up_end : (i : ℕ) → count_at w e ≤ i → upward seen bits (drop i (parents_of w e)) ≡ []
    up_end i l = ap (upward seen bits) (links_end i l)

    pub up_skip : (i : ℕ) → i ≤ count_at w e → ((j : ℕ) → j < i → member (link_at w e j / 2) seen ≡ true)
        → upward seen bits (parents_of w e) ≡ upward seen bits (drop i (parents_of w e))
    up_skip zero l t = refl
    up_skip (suc i) l t =
        up_skip i (omega arith) (λ j k. t j (omega arith)) ∙ up_seen i (omega arith) (t i (omega arith))
        ∙ ap (λ (k : ℕ). upward seen bits (drop k (parents_of w e))) (add-one i)

pub length_upward : (seen : List ℕ) (bits : List Bool) (qs : List (ℕ × Bool)) → length (upward seen bits qs) ≤ length qs
length_upward seen bits [] = omega arith
length_upward seen bits (q ∷ qs) =
    by_cond (λ (x : List Trail). length x ≤ suc (length qs)) (member q.0 seen) (upward seen bits qs) (at_entry bits q.0 q.1 ∷ upward seen bits qs)
    (λ c. omega (arith, length_upward seen bits qs)) (λ c. omega (arith, length_upward seen bits qs))

-- The words below the search's own are the same.
module _ (w w' : List ℕ) (ok : Links w) (low : (k : ℕ) → k < SEEN → at w' k ≡ at w k) where
  pub low_link : (e i : ℕ) → e < ENTRIES → i < count_at w e → link_at w' e i ≡ link_at w e i
  low_link e i h l = link_same w w' e i h (omega (arith, ok.counts e h)) (λ k q. low k)

  pub low_links_of : (e : ℕ) → e < ENTRIES → parents_of w' e ≡ parents_of w e
  unfolding parents_of
  low_links_of e h =
      ap (λ (k : ℕ). tabulate k (λ i. parent_of (link_at w' e i))) (low (COUNTS + e) (omega arith))
      ∙ tabulate_same (count_at w e) (λ i. parent_of (link_at w e i)) (λ i. parent_of (link_at w' e i)) (λ i l. ap parent_of (low_link e i h l))

  pub low_parents : parents_of_all w' ≡ parents_of_all w
  unfolding parents_of_all
  low_parents = λ i e. go e (ltb e ENTRIES) refl i
    where
      go : (e : ℕ) (b : Bool) → ltb e ENTRIES ≡ b → cond (ltb e ENTRIES) (parents_of w' e) [] ≡ cond (ltb e ENTRIES) (parents_of w e) []
      go e true q = ap (λ (x : List (ℕ × Bool)). cond (ltb e ENTRIES) x []) (low_links_of e (ltb-true e ENTRIES q))
      go e false q = cond_false _ _ _ q ∙ sym (cond_false _ _ _ q)

  pub low_links : length w' ≡ length w → Links w'
  low_links len = record {
    long = omega (arith, ok.long);
    used = rw (low USED (omega arith)) ok.used;
    counts = λ x h. rw (low (COUNTS + x) (omega arith)) (ok.counts x h);
    links = λ x i h q. let l : i < count_at w x = rw (low (COUNTS + x) (omega arith)) at q in rw (low_link x i h l, low USED (omega arith)) (ok.links x i h l);
  }
