-- `path_builder::right_align::shifted` meets its contract: the first byte, and one that gets bits of the byte before it.
-- Assumes nothing.
use Rattle.path_builder.proofs.right_align.Aligning.{shifted_first, shifted_next, shifted_fits}
use Prim.Native.Nat.{◌<◌}
use native.Mathlib.Omega.{arith}
use lib.ListN.{get_or}
use Rattle.path_builder.proofs.right_align.shifted.Goals as goal

pub returns-then-i-eq0 : goal.returns-then-i-eq0
returns-then-i-eq0 c =
    let small : get_or c.args.store.now c.args.i 0 < 256 =
    omega (arith, c.type_inv.store c.args.i) in
    let o = c in
    shifted_first o.args.store.now o.args.i o.args.r o.requires.0 o.requires.2 small c.if-i-eq0.true

pub overflow_add-result : goal.overflow_add-result
overflow_add-result c =
    let small : get_or c.args.store.now c.args.i 0 < 256 =
    omega (arith, c.type_inv.store c.args.i) in
    let o = c in
    record { fits = shifted_fits o.args.store.now o.args.i o.args.r o.requires.0 o.requires.2 small c.if-i-eq0.false }

pub returns : goal.returns
returns c =
    let small : get_or c.args.store.now c.args.i 0 < 256 =
    omega (arith, c.type_inv.store c.args.i) in
    let o = c in
    shifted_next o.args.store.now o.args.i o.args.r o.requires.0 o.requires.2 small c.if-i-eq0.false
