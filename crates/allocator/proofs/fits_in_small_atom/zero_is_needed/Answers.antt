-- `zero_is_needed` meets its contract: after a first zero the next byte's top bit decides.
-- Assumes nothing.
use native.Mathlib.Omega.{arith}
use Rattle.words.proofs.Words.{each_byte}
use Rattle.allocator.proofs.fits_in_small_atom.Fits.{zero_listed, next_decides}
use Rattle.allocator.proofs.fits_in_small_atom.zero_is_needed.Goals as goal

pub returns-then-v-eq1 : goal.returns-then-v-eq1
returns-then-v-eq1 c = zero_listed c.args.v.now (omega arith) (omega arith)

pub returns : goal.returns
returns c =
    next_decides c.args.v.now
    (each_byte c.args.v.now c.type_inv.v) (omega arith) (omega arith) (omega arith)
