-- `search_list::mark_seen` meets its contract: the words of the bit set come back with one bit set.
-- Assumes nothing.
use mathlib.Core.Path.{◌∙◌}
use Rattle.words.specs.Words.{part}
use Rattle.search_list.proofs.Marks.{seen_length, marked}
use Rattle.search_list.proofs.mark_seen.Goals as goal

pub returns : goal.returns
unfolding part
returns c =
    let s = c in
    let r = c.visit in
    marked s.args.work.now r.new.bits s.requires.0 (r.auto.bits ∙ seen_length s.args.work.now s.requires.0) s.args.e.0 s.requires.1 r.ensures.1
