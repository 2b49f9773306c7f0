-- `write_item::write_cons` meets its contract.
-- Assumes nothing.
use Prim.Native.Nat.{◌+◌, ◌≤◌}
use mathlib.Core.List.{[], ◌∷◌}
use mathlib.Core.Path.{refl, sym, ap}
use mathlib.Core.Bool.{not}
use native.Mathlib.Omega.{arith}
use lib.ListN.{length}
use Rattle.atom.specs.WriteLaws.{put_full}
use Rattle.spec_session.specs.Items.{cons_item}
use Rattle.write_item.proofs.Puts.{no_room, has_room, put_byte}
use Rattle.write_item.proofs.Counting.{put_counted}
use Rattle.write_item.proofs.write_cons.Goals as goal

pub returns-then-not-fits : goal.returns-then-not-fits
returns-then-not-fits c =
    let a = c.args in
    let n = a.counts.size in
    record {
      bytes = sym (put_full a.output.now n (0xff ∷ []) (no_room (length a.output.now) (n + 1) _ c.fits.ensures (ap not c.if-not-fits.true)));
      counted = tt;
    }

pub returns : goal.returns
returns c =
    let room : c.args.counts.size + 1 ≤ length c.args.output.now =
    has_room (length c.args.output.now) _ _ c.fits.ensures (ap not c.if-not-fits.false) in
    let a = c.args in
    put_counted a.output.now _ a.counts cons_item _ 0 (put_byte a.output.now a.counts.size 0xff (omega (arith, room))) refl _ c.with_cons.ensures
