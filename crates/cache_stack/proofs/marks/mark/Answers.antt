-- `cache_stack::marks::mark` meets its contract: the part comes back with the entry's bit set.
-- Assumes nothing.
use Rattle.std.proofs.Common.{◌∙◌, arith}
use Rattle.words.proofs.Words.{part_length}
use Rattle.words.specs.Words.{part}
use Rattle.work_layout.specs.Layout.{WRITTEN}
use Rattle.cache_stack.proofs.marks.Bits.{marked}
use Rattle.cache_stack.proofs.marks.mark.Goals as goal

pub returns : goal.returns
unfolding part
returns c =
    marked c.args.work.now c.visit.new.bits c.args.e.0 c.requires.0 c.requires.1
    (c.visit.auto.bits ∙ part_length c.args.work.now WRITTEN 96 (omega arith)) c.visit.ensures.1
