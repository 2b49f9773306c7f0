-- `search_bytes::node_bits::push_long` meets its contract. The measure: the number of bits.
-- Assumes nothing.
use Prim.Native.Nat.{ℕ, ◌-◌, ◌%◌, ◌+◌, ◌≤◌}
use mathlib.Core.Path.{◌≡◌, subst}
use native.Mathlib.Omega.{arith}
use lib.ListN.{length}
use Rattle.search_list.specs.State.{node_bits}
use Rattle.search_bytes.specs.Built.{Fits}
use Rattle.search_bytes.proofs.Pushing.{before_size, fits_fewer, taken_fits}
use Rattle.search_bytes.proofs.node_bits.+push_long.Goals as goal

-- The latest bits are some of them, and not all 65.
count_fits : (n : ℕ) → (n ≡ 0 → ⊥) → ((n - 1) % 64 + 1 ≤ n) × ((n - 1) % 64 + 1 ≤ 64)
count_fits n d = (omega arith, omega arith)

pub push_long-first-requires : goal.push_long-first-requires
push_long-first-requires t c =
    let p = c.requires in
    let taken = c.take_bits-latest in
    let k = count_fits c.args.n c.if-n-eq0.false in
    let rest : c.args.n - ((c.args.n - 1) % 64 + 1) ≡ length (node_bits c.args.work.now taken.result.before) =
    omega (arith, p.2, before_size taken.ensures, k.0) in
    (omega (arith, c.decreases, c.if-n-eq0.false), (p.0, taken.ensures.chain, rest, fits_fewer p.3 (omega arith)))

pub push_number-requires : goal.push_number-requires
push_number-requires t c =
    let b = c.push_long-first in (
      b.ensures.sound,
      taken_fits c.take_bits-latest.ensures (subst (Fits c.args.store.now) c.requires.2 c.requires.3) b.auto.store b.ensures,
    )
