-- `path::path_bits::path_bits` meets its contract: eight bits for each byte after the first that is not 0, and those of that byte below its most significant set bit.
-- Assumes nothing.
use Prim.Native.Nat.{ℕ, ◌<◌}
use native.Mathlib.Omega.{arith}
use Rattle.words.specs.Lists.{all_of}
use Rattle.path.proofs.path_bits.Bits.{counted_none, some_mask, mask_at, counted_bits}
use Rattle.path.proofs.path_bits.path_bits.Goals as goal

pub returns-then-path-first : goal.returns-then-path-first
returns-then-path-first c = counted_none c.args.path.now (omega (arith, c.first_non_zero-first.ensures))

pub ilog2-place-requires : goal.ilog2-place-requires
ilog2-place-requires c =
    let path = c.args.path.now in
    some_mask path (all_of (λ (n : ℕ). n < 256) path 0 (λ i l. omega (arith, c.type_inv.path i))) c.first_non_zero-first.result c.msb_mask-mask.result
    c.first_non_zero-first.ensures c.if-path-first.false c.msb_mask-mask.ensures

pub returns : goal.returns
returns c =
    let path = c.args.path.now in
    let bytes = all_of (λ (n : ℕ). n < 256) path 0 (λ i l. omega (arith, c.type_inv.path i)) in
    let first = c.first_non_zero-first in
    let at = mask_at path bytes first.result c.msb_mask-mask.result c.ilog2-place.result first.ensures c.if-path-first.false c.msb_mask-mask.ensures
    c.ilog2-place.ensures.power_le c.ilog2-place.ensures.next_power_gt in
    counted_bits path bytes first.result c.ilog2-place.result first.ensures c.if-path-first.false at.0 at.1
