-- `atom_encode::write_prefix::write_prefix` meets its contract.
-- Assumes nothing.
use mathlib.Core.Path.{ap, ◌∙◌}
use Prim.Native.Nat.{ℕ, ◌+◌}
use native.Mathlib.Omega.{arith}
use lib.Seq.{paste-zero}
use Rattle.atom.specs.Prefix.{mark, prefix}
use Rattle.atom.specs.WriteLaws.{mark_bound}
use Rattle.atom_encode.proofs.write_prefix.Numbers.{last_written}
use Rattle.atom_encode.proofs.write_prefix.write_prefix.Goals as goal

pub returns-then-width-eq0 : goal.returns-then-width-eq0
returns-then-width-eq0 c = let a = c.args in rw c.if-width-eq0.true (paste-zero a.output.now a.position (prefix 0 a.size))

pub overflow_add-mark_of : goal.overflow_add-mark_of
overflow_add-mark_of c = omega (arith, c.mark_of.ensures, mark_bound c.args.width (omega arith))

pub returns : goal.returns
returns c =
    let a = c.args in
    c.copy_bytes.ensures
    ∙ last_written a.output.now a.position a.width c.to_be_bytes-bytes.result (c.mark_of.result + a.size) (mark a.width + a.size) c.requires.0
    c.to_be_bytes-bytes.ensures (ap (λ (n : ℕ). n + a.size) c.mark_of.ensures)
