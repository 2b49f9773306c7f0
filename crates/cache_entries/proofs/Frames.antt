-- What stays of the file's tables, of the keys and of the cache where other words change.
-- Assumes nothing.
use Prim.Native.Nat.{ℕ, zero, suc, ◌+◌, ◌*◌, ◌≤◌, ◌<◌}
use mathlib.Core.Path.{◌≡◌, refl, sym, ap, ◌∙◌, subst}
use mathlib.Core.Logic.{◌⊎◌, inl, inr}
use mathlib.Core.Bool.{cond}
use mathlib.Core.List.{List}
use native.Mathlib.Omega.{arith}
use borrow.Author.Tests.{eq-eqb, ne_eqb}
use Rattle.words.specs.Choice.{by_lt}
use lib.Dec.{eqb}
use Rattle.words.specs.Words.{at}
use Rattle.allocator.specs.Handle.{Node, pair, listed_atom, small_atom, unknown, node_of}
use Rattle.spec_session.specs.File.{File}
use Rattle.work_layout.specs.Layout.{PAIRS, FIRST, ATOM_LENGTHS, ATOM_COUNT, PAIR_COUNT, SENTINEL, OPEN, MAPS}
use Rattle.cache_entries.specs.Meaning.{Tables, Names, Handles, FirstOf, KeyOK, sentinel_words, atom_words, pair_words, unmapped}

-- ---- the file's tables lie below OPEN

module _ (w w' : List ℕ) (same : (k : ℕ) → k < OPEN → at w' k ≡ at w k) where
  names_kept : (p g h : ℕ) → g ≡ h → Names w p h → Names w' p g
  names_kept p g h e n = rw (same ATOM_COUNT (omega arith), e) n

  pub handles_kept : Handles w → Handles w'
  handles_kept h =
      let a = same ATOM_COUNT (omega arith) in
      let p = same PAIR_COUNT (omega arith) in
      let fa = h.few_atoms in
      let fp = h.few_pairs in
      record {
        few_atoms = omega arith;
        few_pairs = omega arith;
        lefts = λ i l. names_kept i (at w' (PAIRS + 2 * i)) (at w (PAIRS + 2 * i)) (same (PAIRS + 2 * i) (omega arith)) (h.lefts i (omega arith));
        rights = λ i l. names_kept i (at w' (PAIRS + 2 * i + 1)) (at w (PAIRS + 2 * i + 1)) (same (PAIRS + 2 * i + 1) (omega arith)) (h.rights i (omega arith));
        firsts = λ i l. let s = same (FIRST + i) (omega arith) in omega (arith, h.firsts i (omega arith));
        first_first = λ i l.
            let b = h.firsts i (omega arith) in
            let s = same (FIRST + i) (omega arith) in
            let t = same (FIRST + at w (FIRST + i)) (omega arith) in
            ap (λ (k : ℕ). at w' (FIRST + k)) s ∙ t ∙ h.first_first i (omega arith) ∙ sym s;
        sentinel = go h.sentinel;
      }
    where
      go : (at w SENTINEL ≡ 0xffffffff) ⊎ Names w (at w PAIR_COUNT) (at w SENTINEL) → (at w' SENTINEL ≡ 0xffffffff) ⊎ Names w' (at w' PAIR_COUNT) (at w' SENTINEL)
      go (inl e) = inl (same SENTINEL (omega arith) ∙ e)
      go (inr n) =
          inr (subst (λ (p : ℕ). Names w' p (at w' SENTINEL)) (sym (same PAIR_COUNT (omega arith)))
          (names_kept (at w PAIR_COUNT) (at w' SENTINEL) (at w SENTINEL) (same SENTINEL (omega arith)) n))

  pub tables_kept : (f : File) → Handles w → Tables f w → Tables f w'
  tables_kept f h t =
      let a = t.atom_count in
      let p = t.pair_count in
      let fa = h.few_atoms in
      let fp = h.few_pairs in
      record {
        atom_count = same ATOM_COUNT (omega arith) ∙ t.atom_count;
        pair_count = same PAIR_COUNT (omega arith) ∙ t.pair_count;
        sentinel = same SENTINEL (omega arith) ∙ t.sentinel;
        lefts = λ i l. same (PAIRS + 2 * i) (omega arith) ∙ t.lefts i l;
        rights = λ i l. same (PAIRS + 2 * i + 1) (omega arith) ∙ t.rights i l;
        firsts = λ i l. same (FIRST + i) (omega arith) ∙ t.firsts i l;
        lengths = λ i l. same (ATOM_LENGTHS + i) (omega arith) ∙ t.lengths i l;
        listed = t.listed;
      }

  first_kept : (n : Node) → Handles w → FirstOf w n → FirstOf w' n
  first_kept (pair i) h q = q
  first_kept (listed_atom i) h q =
      let a = same ATOM_COUNT (omega arith) in
      let l = q.0 in
      (omega arith, same (FIRST + i) (omega (arith, h.few_atoms)) ∙ q.1)
  first_kept (small_atom v) h q = q
  first_kept (unknown k i) h q = q

  pub key_kept : (e l r : ℕ) → Handles w → KeyOK w e l r → KeyOK w' e l r
  key_kept e l r h (sentinel_words p q) = sentinel_words p q
  key_kept e l r h (atom_words p q) = atom_words p (first_kept (node_of r) h q)
  key_kept e l r h (pair_words p q) = pair_words p q

-- ---- the pairs without an entry

-- The same map, the same number.
pub unmapped_same : (w w' : List ℕ) (n : ℕ) → ((k : ℕ) → k < n → at w' (MAPS + k) ≡ at w (MAPS + k)) → unmapped w' n ≡ unmapped w n
unfolding unmapped
unmapped_same w w' zero same = refl
unmapped_same w w' (suc n) same = rw (same n (omega arith), unmapped_same w w' n (λ k l. same k (omega arith)))

-- The pairs from s on are as they were, so the difference is made below s.
pub unmapped_above : (w w' : List ℕ) (s p : ℕ) → s ≤ p → p ≤ 1024 → ((k : ℕ) → s ≤ k → k < 1024 → at w' (MAPS + k) ≡ at w (MAPS + k))
    → unmapped w' p + unmapped w s ≡ unmapped w p + unmapped w' s
unfolding unmapped
unmapped_above w w' zero zero h l same = refl
unmapped_above w w' (suc s) zero h l same = absurd (omega arith)
unmapped_above w w' s (suc p) h l same =
    by_lt s (suc p)
    (λ q.
    let i = unmapped_above w w' s p (omega arith) (omega arith) same in
    let e : unmapped w' (suc p) ≡ cond (eqb (at w (MAPS + p)) 0) 1 0 + unmapped w' p = rw (same p (omega arith) (omega arith)) in
    omega arith)
    (λ q. let e : s ≡ suc p = omega arith in rw e (omega arith))

-- A pair that gets an entry.
pub unmapped_more : (w w' : List ℕ) (i : ℕ) → at w (MAPS + i) ≡ 0 → 0 < at w' (MAPS + i) → (suc i) ≤ 1024
    → ((k : ℕ) → k < 1024 → (k ≡ i → ⊥) → at w' (MAPS + k) ≡ at w (MAPS + k)) → unmapped w (suc i) ≡ unmapped w' (suc i) + 1
unfolding unmapped
unmapped_more w w' i z n l same =
    let b = below i (omega arith) in
    rw (eq-eqb (at w (MAPS + i)) 0 z, ne_eqb (at w' (MAPS + i)) 0 (λ q. omega arith), b) (omega arith)
  where
    below : (n : ℕ) → n ≤ i → unmapped w' n ≡ unmapped w n
    below zero h = refl
    below (suc n) h = rw (same n (omega arith) (λ q. omega arith), below n (omega arith))

pub unmapped_none : (w : List ℕ) (i : ℕ) → at w (MAPS + i) ≡ 0 → unmapped w (suc i) ≡ unmapped w i + 1
unfolding unmapped
unmapped_none w i z = rw (eq-eqb (at w (MAPS + i)) 0 z) (omega arith)

-- More pairs, more of them unmapped.
pub unmapped_grows : (w : List ℕ) (s p : ℕ) → s ≤ p → unmapped w s ≤ unmapped w p
unfolding unmapped
unmapped_grows w zero zero h = omega arith
unmapped_grows w (suc s) zero h = absurd (omega arith)
unmapped_grows w s (suc p) h =
    by_lt s (suc p) (λ q. omega (arith, unmapped_grows w s p (omega arith))) (λ q. let e : s ≡ suc p = omega arith in rw e (omega arith))
