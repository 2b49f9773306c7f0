-- `path::traverse_path::msb_mask` meets its contract: the byte with its bits smeared to the right, plus one, halved.
-- Assumes nothing.
use native.Mathlib.Omega.{arith}
use Rattle.path.proofs.Smear.{smeared_right}
use Rattle.path.proofs.traverse_path.msb_mask.Goals as goal

pub returns : goal.returns
returns c = rw c.from-byte.ensures (smeared_right c.args.byte (omega arith))
