-- `slot_of` meets its contract. The invariant: the sum of all bytes is that of the bytes that are left, from the sum so far.
-- Assumes nothing.
use Rattle.std.proofs.Common.{ℕ, ◌%◌, sym, ap, ◌∙◌, arith}
use Rattle.file_tables.specs.Listed.{slot_of}
use Rattle.file_tables.proofs.listed_atoms.Slots.{sum_more, sum_end}
use Rattle.file_tables.proofs.listed_atoms.slot_of.Goals as goal

pub loop-byte-preserved : goal.loop-byte-preserved
loop-byte-preserved c =
    let l = c.loop-byte in
    rw c.from.ensures (l.invariant ∙ sum_more c.args.bytes.now l.sum l.byte-index (omega arith))

pub returns : goal.returns
unfolding slot_of
returns c =
    let l = c.loop-byte in
    ap (λ (x : ℕ). x % 1021) (sym (l.invariant ∙ sum_end c.args.bytes.now l.sum l.byte-index (omega arith)))
