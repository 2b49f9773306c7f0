-- The nodes: their bits, and the entries visited.
-- Assumes nothing.
use mathlib.Core.Path.{◌≡◌, refl, sym, ap, ap₂, subst, ◌∙◌}
use mathlib.Core.Bool.{Bool}
use mathlib.Core.List.{List, ◌∷◌}
use Prim.Native.Nat.{ℕ, zero, suc, ◌+◌, ◌*◌, ◌/◌, ◌≤◌, ◌<◌}
use native.Mathlib.Omega.{arith}
use native.Mathlib.Numerals.{add-one}
use native.Mathlib.Decide.{ℕ_discrete}
use lib.ListN.{length}
use borrow.Author.Tests.{eq-eqb, ne_eqb}
use Rattle.spec_search.specs.Search.{member, most_visits}
use Rattle.words.specs.Words.{at}
use Rattle.work_layout.specs.Layout.{USED, PREVS, NODES, LENS, PATHS, SEEN, ENTRIES}
use Rattle.search_list.specs.State.{chain, node_bits, seen_of, seen_at, node_at, place_at}
use Rattle.search_list.specs.Steps.{Links, Nodes, Marked, Visited}
use Rattle.path.specs.Bytes.{odd}
use Rattle.search_list.proofs.Room.{or_true, or_false}

module _ (w : List ℕ) (m : ℕ) (prev : (k : ℕ) → k < m → at w (PREVS + suc k) ≤ k) where
  pub chain_enough : (f g k : ℕ) → k ≤ f → k ≤ g → k ≤ m → chain w f k ≡ chain w g k
  unfolding chain
  chain_enough zero zero k a b c = refl
  chain_enough zero (suc g) zero a b c = refl
  chain_enough zero (suc g) (suc k) a b c = absurd (omega arith)
  chain_enough (suc f) zero zero a b c = refl
  chain_enough (suc f) zero (suc k) a b c = absurd (omega arith)
  chain_enough (suc f) (suc g) zero a b c = refl
  chain_enough (suc f) (suc g) (suc k) a b c =
      let p : at w (PREVS + suc k) ≤ k = prev k (omega arith) in
      ap (λ (r : List Bool). odd (at w (NODES + suc k)) ∷ r) (chain_enough f g (at w (PREVS + suc k)) (omega arith) (omega arith) (omega arith))

  pub bits_more : (k : ℕ) → k < m → node_bits w (suc k) ≡ odd (at w (NODES + suc k)) ∷ node_bits w (at w (PREVS + suc k))
  unfolding chain node_bits
  bits_more k h =
      let p : at w (PREVS + suc k) ≤ k = prev k h in
      ap (λ (r : List Bool). odd (at w (NODES + suc k)) ∷ r) (chain_enough k (at w (PREVS + suc k)) (at w (PREVS + suc k)) p (omega arith) (omega arith))

  module _ (w' : List ℕ) (same_nodes : (k : ℕ) → k < m → at w' (NODES + suc k) ≡ at w (NODES + suc k))
      (same-prevs : (k : ℕ) → k < m → at w' (PREVS + suc k) ≡ at w (PREVS + suc k)) where
    chain_same : (f k : ℕ) → k ≤ m → chain w' f k ≡ chain w f k
    unfolding chain
    chain_same zero k h = refl
    chain_same (suc f) zero h = refl
    chain_same (suc f) (suc k) h =
        let p : at w (PREVS + suc k) ≤ k = prev k (omega arith) in
        ap₂ {C = List Bool} (λ v r. odd v ∷ r) (same_nodes k (omega arith))
        (ap (chain w' f) (same-prevs k (omega arith)) ∙ chain_same f (at w (PREVS + suc k)) (omega arith))

    pub bits_same : (k : ℕ) → k ≤ m → node_bits w' k ≡ node_bits w k
    unfolding node_bits
    bits_same k h = chain_same k k h

    pub seen_same : (k : ℕ) → k ≤ m → seen_of w' k ≡ seen_of w k
    unfolding seen_of
    seen_same zero h = refl
    seen_same (suc k) h = ap₂ {C = List ℕ} (λ v r. v / 2 ∷ r) (same_nodes k (omega arith)) (seen_same k (omega arith))

-- The bit of an entry in use.
pub marks_of : {w : List ℕ} {m : ℕ} → Links w → Nodes w m → (x : ℕ) → x < at w USED → seen_at w x ≡ member x (seen_of w m)
marks_of links ok x h = ok.marks x (omega (arith, links.used)) h

pub length_seen : (w : List ℕ) (m : ℕ) → length (seen_of w m) ≡ m
unfolding seen_of
length_seen w zero = refl
length_seen w (suc m) = ap suc (length_seen w m)

-- The words below PATHS are the same.
module _ (w w' : List ℕ) (m : ℕ) (ok : Nodes w m) (low : (k : ℕ) → k < PATHS → at w' k ≡ at w k) where
  pub low_bits : (k : ℕ) → k ≤ m → node_bits w' k ≡ node_bits w k
  low_bits = let f = ok.few in bits_same w m ok.prev w' (λ k h. low (NODES + suc k) (omega arith)) (λ k h. low (PREVS + suc k) (omega arith))

  pub low_seen : seen_of w' m ≡ seen_of w m
  low_seen =
      let f = ok.few in seen_same w m ok.prev w' (λ k h. low (NODES + suc k) (omega arith)) (λ k h. low (PREVS + suc k) (omega arith)) m (omega arith)

  pub low_nodes : Nodes w' m
  low_nodes =
      let f = ok.few in
      record {
        few = f;
        prev = λ k h. subst (λ (x : ℕ). x ≤ k) (sym (low (PREVS + suc k) (omega arith))) (ok.prev k h);
        lens = λ k h. low (LENS + k) (omega arith) ∙ ok.lens k h ∙ ap length (sym (low_bits k h));
        short = λ k h. subst (λ (x : ℕ). x ≤ k) (sym (low (LENS + k) (omega arith))) (ok.short k h);
        marks = λ x h u. rw (low (SEEN + x / 32) (omega arith), low_seen) (ok.marks x h (rw (low USED (omega arith)) at u));
      }

-- ---- one node more

module _ (w x y : List ℕ) (c m : ℕ) (ok : Nodes w m) (h : m < most_visits) (hn : node_at w c ≤ m) (hp : place_at w c < 2 * ENTRIES)
    (prev : at x (PREVS + (m + 1)) ≡ node_at w c) (node : at x (NODES + (m + 1)) ≡ place_at w c) (len : at x (LENS + (m + 1)) ≡ at w (LENS + node_at w c) + 1)
    (other : (k : ℕ) → (k ≡ PREVS + (m + 1) → ⊥) → (k ≡ NODES + (m + 1) → ⊥) → (k ≡ LENS + (m + 1) → ⊥) → at x k ≡ at w k)
    (mk : Marked x y (place_at w c / 2)) where
  kept : (k : ℕ) → PREVS ≤ k → (k ≡ PREVS + (m + 1) → ⊥) → (k ≡ NODES + (m + 1) → ⊥) → (k ≡ LENS + (m + 1) → ⊥) → at y k ≡ at w k
  kept k l a b d = mk.high k l ∙ other k a b d

  new_prev : at y (PREVS + suc m) ≡ node_at w c
  new_prev = mk.high (PREVS + suc m) (omega arith) ∙ subst (λ (k : ℕ). at x (PREVS + k) ≡ node_at w c) (add-one m) prev

  new_node : at y (NODES + suc m) ≡ place_at w c
  new_node = mk.high (NODES + suc m) (omega arith) ∙ subst (λ (k : ℕ). at x (NODES + k) ≡ place_at w c) (add-one m) node

  new_len : at y (LENS + suc m) ≡ at w (LENS + node_at w c) + 1
  new_len = mk.high (LENS + suc m) (omega arith) ∙ subst (λ (k : ℕ). at x (LENS + k) ≡ at w (LENS + node_at w c) + 1) (add-one m) len

  older : (k : ℕ) → k ≤ m → node_bits y k ≡ node_bits w k
  older =
      bits_same w m ok.prev y (λ k h. kept (NODES + suc k) (omega arith) (omega arith) (omega arith) (omega arith))
      (λ k h. kept (PREVS + suc k) (omega arith) (omega arith) (omega arith) (omega arith))

  seen_m : seen_of y m ≡ seen_of w m
  seen_m =
      seen_same w m ok.prev y (λ k h. kept (NODES + suc k) (omega arith) (omega arith) (omega arith) (omega arith))
      (λ k h. kept (PREVS + suc k) (omega arith) (omega arith) (omega arith) (omega arith)) m (omega arith)

  seen_suc : seen_of y (suc m) ≡ place_at w c / 2 ∷ seen_of w m
  unfolding seen_of
  seen_suc = ap₂ {C = List ℕ} (λ v r. v / 2 ∷ r) new_node seen_m

  prevs : (k : ℕ) → k < suc m → at y (PREVS + suc k) ≤ k
  prevs k l = go (ℕ_discrete k m)
    where
      go : Dec (k ≡ m) → at y (PREVS + suc k) ≤ k
      go (yes e) = rw (e, new_prev) hn
      go (no e) = subst (λ (z : ℕ). z ≤ k) (sym (kept (PREVS + suc k) (omega arith) (omega arith) (omega arith) (omega arith))) (ok.prev k (omega arith))

  bits_suc : node_bits y (suc m) ≡ odd (place_at w c) ∷ node_bits w (node_at w c)
  bits_suc = bits_more y (suc m) prevs m (omega arith) ∙ rw (new_node, new_prev) (ap (λ (r : List Bool). odd (place_at w c) ∷ r) (older (node_at w c) hn))

  lens : (k : ℕ) → k ≤ suc m → (at y (LENS + k) ≡ length (node_bits y k)) × (at y (LENS + k) ≤ k)
  lens k l = go (ℕ_discrete k (suc m))
    where
      go : Dec (k ≡ suc m) → (at y (LENS + k) ≡ length (node_bits y k)) × (at y (LENS + k) ≤ k)
      go (yes e) =
          rw (e, new_len) (omega (arith, ap length bits_suc, ok.lens (node_at w c) hn), omega (arith, ok.short (node_at w c) hn))
      go (no e) =
          let q : at y (LENS + k) ≡ at w (LENS + k) = kept (LENS + k) (omega arith) (omega arith) (omega arith) (omega arith) in
          rw (q, older k (omega arith)) (ok.lens k (omega arith), ok.short k (omega arith))

  marks : (z : ℕ) → z < ENTRIES → z < at y USED → seen_at y z ≡ member z (place_at w c / 2 ∷ seen_of w m)
  marks z l u = go (ℕ_discrete z (place_at w c / 2))
    where
      go : Dec (z ≡ place_at w c / 2) → seen_at y z ≡ member z (place_at w c / 2 ∷ seen_of w m)
      go (yes e) = ap (λ (k : ℕ). seen_at y k) e ∙ mk.here ∙ sym (or_true _ _ (eq-eqb z (place_at w c / 2) e))
      go (no e) =
          mk.other z l e ∙ rw (other (SEEN + z / 32) (omega arith) (omega arith) (omega arith))
          (ok.marks z l (rw (mk.low USED (omega arith), other USED (omega arith) (omega arith) (omega arith)) at u))
          ∙ sym (or_false _ _ (ne_eqb z (place_at w c / 2) e))

  pub node_made : Visited w y c m
  node_made =
      record {
        nodes = rw add-one (record {
          few = omega arith;
          prev = prevs;
          lens = λ k l. (lens k l).0;
          short = λ k l. (lens k l).1;
          marks = λ z l u. rw seen_suc (marks z l u);
        });
        seen = rw add-one seen_suc;
        bits = rw add-one bits_suc;
        older = older;
        low = λ k l. mk.low k l ∙ other k (omega arith) (omega arith) (omega arith);
        high = λ k l. kept k (omega arith) (omega arith) (omega arith) (omega arith);
      }
