-- `small_atom_bytes` meets its contract: a small atom's bytes are the last of four.
-- Assumes nothing.
use Rattle.std.proofs.Common.{◌∙◌, arith}
use Rattle.allocator.proofs.small_atom.Numbers.{four_bytes, small_atom_bytes}
use Rattle.allocator.proofs.small_atom.small_atom_bytes.Goals as goal

pub returns : goal.returns
returns c = small_atom_bytes c.args.value _ _ c.len_for_value-len.ensures (c.to_be_bytes-bytes.ensures ∙ four_bytes c.args.value) (omega arith)
