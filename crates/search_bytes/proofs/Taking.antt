-- The bits of a node taken as a number, from the latest on.
-- Assumes nothing.
use Prim.Native.Nat.{ℕ, zero, suc, ◌+◌, ◌*◌, ◌/◌, ◌%◌, ◌^◌, ◌≤◌, ◌<◌}
use mathlib.Core.Path.{◌≡◌, refl, sym, ap, ap₂, subst, ◌∙◌}
use mathlib.Core.Bool.{Bool}
use mathlib.Core.List.{List, [], ◌∷◌}
use native.Mathlib.Omega.{arith}
use native.Mathlib.Nat.{pow-suc}
use native.Mathlib.Numerals.{add-one}
use lib.Dec.{eqb}
use lib.ListN.{length}
use lib.Pow.{pow_mono}
use Rattle.words.specs.Words.{at}
use Rattle.path.specs.Bytes.{odd}
use Rattle.work_layout.specs.Layout.{PREVS, NODES}
use Rattle.search_list.specs.State.{node_bits, Chain}
use Rattle.search_list.proofs.Nodes.{bits_more}
use Rattle.search_bytes.specs.Built.{with_number, Taken}

-- ---- one node further

-- Node b is the one before node k.
record Before (w : List ℕ) (k b : ℕ) : Type 0 where
  chain : Chain w b
  bits_are : node_bits w k ≡ odd (at w (NODES + k)) ∷ node_bits w b

no_bits : (w : List ℕ) → node_bits w 0 ≡ []
unfolding node_bits Rattle.search_list.specs.State.chain
no_bits w = refl

node_before : (w : List ℕ) (k b : ℕ) → Chain w k → 0 < length (node_bits w k) → b ≡ at w (PREVS + k) → Before w k b
node_before w zero b ch h e = absurd (omega (arith, ap length (no_bits w)))
node_before w (suc k) b ch h e =
    let p : at w (PREVS + suc k) ≤ k = ch.prev k (omega arith) in
    record {
      chain = record { few = omega (arith, ch.few); prev = λ j l. ch.prev j (omega arith) };
      bits_are = bits_more w (suc k) ch.prev k (omega arith) ∙ ap (λ (n : ℕ). odd (at w (NODES + suc k)) ∷ node_bits w n) (sym e);
    }

-- ---- one bit more below a number

number_more : (n v x : ℕ) (bits : List Bool) → with_number n v (odd x ∷ bits) ≡ with_number (n + 1) (v * 2 + x % 2) bits
number_more n v x bits = rw (add-one n) (ap₂ {C = List Bool} (λ (u : ℕ) (b : Bool). with_number n u (b ∷ bits)) half (ap (λ (q : ℕ). eqb q 1) lowest))
  where
    half : v ≡ (v * 2 + x % 2) / 2
    half = omega arith

    lowest : x % 2 ≡ (v * 2 + x % 2) % 2
    lowest = omega arith

pub size_number : (n v : ℕ) (bits : List Bool) → length (with_number n v bits) ≡ n + length bits
size_number zero v bits = omega arith
size_number (suc n) v bits = omega (arith, size_number n (v / 2) (odd v ∷ bits))

-- ---- the loop

-- Node k has the bits of node a but the latest n, which are the number v's.
pub record Taking (w : List ℕ) (a n v k : ℕ) : Type 0 where
  pub chain : Chain w k
  pub small : v < 2 ^ n
  pub bits_are : node_bits w a ≡ with_number n v (node_bits w k)

pub taking_start : {w : List ℕ} {a : ℕ} → Chain w a → Taking w a 0 0 a
taking_start ch = record { chain = ch; small = omega arith; bits_are = refl }

module _ {w : List ℕ} {a n v k : ℕ} (m : Taking w a n v k) where
  twice : v * 2 + 1 < 2 ^ (n + 1)
  twice = rw (add-one n) (omega (arith, m.small, pow-suc 2 n))

  -- One bit more fits into the number.
  pub taking_fits : n < 64 → v * 2 + 1 < 2 ^ 64
  taking_fits h = let p : 2 ^ (n + 1) ≤ 2 ^ 64 = pow_mono {i = n + 1} {j = 64} (omega arith) in omega (arith, twice)

  pub taking_more : {b : ℕ} → n < length (node_bits w a) → b ≡ at w (PREVS + k) → Taking w a (n + 1) (v * 2 + at w (NODES + k) % 2) b
  taking_more {b} h e =
      let s : Before w k b = node_before w k b m.chain (omega (arith, ap length m.bits_are, size_number n v (node_bits w k))) e in
      record {
        chain = s.chain;
        small = omega (arith, twice);
        bits_are = m.bits_are ∙ ap (with_number n v) s.bits_are ∙ number_more n v (at w (NODES + k)) (node_bits w b);
      }

  pub taken : {c : ℕ} → n ≡ c → Taken w a c (record { number = v; before = k })
  taken e = subst (λ (q : ℕ). Taken w a q (record { number = v; before = k })) e (record { chain = m.chain; bits_are = m.bits_are })
