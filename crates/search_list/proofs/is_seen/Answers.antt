-- `search_list::is_seen` meets its contract: the bit of the bit set is the entry's.
-- Assumes nothing.
use mathlib.Core.Path.{◌∙◌}
use Rattle.words.specs.Words.{part}
use Rattle.search_list.proofs.Marks.{seen_is}
use Rattle.search_list.proofs.is_seen.Goals as goal

pub returns : goal.returns
unfolding part
returns c = let s = c in c.is_visited.ensures ∙ seen_is s.args.work.now s.requires.0 s.args.e.0 s.requires.1
