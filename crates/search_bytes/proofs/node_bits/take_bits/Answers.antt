-- `search_bytes::node_bits::take_bits` meets its contract. The loop's invariant: the number has the latest bits, and a node those before them.
-- Assumes nothing.
use mathlib.Core.Path.{refl}
use native.Mathlib.Omega.{arith}
use Rattle.search_bytes.proofs.Taking.{taking_start, taking_fits, taking_more, taken}
use Rattle.search_bytes.proofs.node_bits.take_bits.Goals as goal

pub loop-init : goal.loop-init
loop-init c = taking_start c.requires.1

pub overflow_mul-number : goal.overflow_mul-number
overflow_mul-number c =
    record { fits = omega (arith, taking_fits c.loop.invariant (omega (arith, c.loop-test.true, c.requires.3))) }

pub overflow_add-number : goal.overflow_add-number
overflow_add-number c =
    record { fits = omega (arith, c.from.ensures, taking_fits c.loop.invariant (omega (arith, c.loop-test.true, c.requires.3))) }

pub loop-preserved : goal.loop-preserved
loop-preserved c =
    rw c.from.ensures (taking_more c.loop.invariant (omega (arith, c.loop-test.true, c.requires.2)) refl)

pub returns : goal.returns
returns c = taken c.loop.invariant (omega (arith, c.loop-test.false))
