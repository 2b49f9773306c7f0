-- `path::path_bits::path_bit` meets its contract: bit i is bit i % 8 of the byte i / 8 from the end.
-- Assumes nothing.
use Prim.Native.Nat.{ℕ, ◌<◌}
use native.Mathlib.Omega.{arith}
use Rattle.words.specs.Lists.{all_of}
use Rattle.path.proofs.path_bits.Bits.{bit_at}
use Rattle.path.proofs.path_bits.path_bit.Goals as goal

pub returns : goal.returns
returns c =
    bit_at c.args.path.now c.args.i (all_of (λ (n : ℕ). n < 256) c.args.path.now 0 (λ i l. omega (arith, c.type_inv.path i)))
