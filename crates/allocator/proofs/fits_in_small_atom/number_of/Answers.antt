-- `number_of` meets its contract.
-- Assumes nothing.
use Rattle.std.proofs.Common.{◌∙◌, ap, arith, refl}
use Rattle.std.proofs.Math.Seq.{take_all}
use Rattle.words.specs.BigEndian.{number_after, number}
use Rattle.words.proofs.Words.{each_byte}
use Rattle.allocator.proofs.fits_in_small_atom.Numbers.{next_number}
use Rattle.allocator.proofs.fits_in_small_atom.number_of.Goals as goal

pub loop-byte-init : goal.loop-byte-init
unfolding number_after
loop-byte-init c = refl

pub loop-byte-preserved : goal.loop-byte-preserved
loop-byte-preserved c =
    rw c.from.ensures
    (next_number c.args.v.now c.loop-byte.byte-index c.loop-byte.ret (each_byte c.args.v.now c.type_inv.v) (omega arith) (omega arith) c.loop-byte.invariant)

pub returns : goal.returns
returns c = c.loop-byte.invariant ∙ ap number (take_all c.loop-byte.byte-index c.args.v.now (omega arith))
