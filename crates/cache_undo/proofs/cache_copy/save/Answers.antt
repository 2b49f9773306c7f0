-- `cache_undo::cache_copy::save` meets its contract: the number of entries, the map of pairs, the counts and the words of the parents go to parts of the copy that do not meet.
-- Assumes nothing.
use Rattle.std.proofs.Common.{List, ℕ, refl, set, length-set, arith}
use Rattle.words.specs.Words.{at}
use Rattle.work_layout.specs.Layout.{MAPS, USED, COUNTS, PARENTS, PAIR_COUNT}
use Rattle.words.proofs.Copies.{Copied, copied}
use Rattle.cache_undo.specs.cache_copy.Effects.{copied_used, copied_maps, copied_counts, copied_firsts}
use Rattle.cache_undo.proofs.cache_copy.SaveLaws.{lists_asked, cache_saved}
use Rattle.cache_undo.proofs.cache_copy.save.Goals as goal
use Rattle.cache_undo.proofs.cache_copy.save.Goals.{After-save_first_links}

-- The map of pairs, the counts and the first words of the parents, as they were copied.
record Copies (w w₂ w₃ w₄ : List ℕ) (k : ℕ) : Type 0 where
  maps : Copied (set w (copied_used k) (at w USED)) w₂ MAPS (copied_maps k) (at w PAIR_COUNT)
  counts : Copied w₂ w₃ COUNTS (copied_counts k) (at w USED)
  firsts : Copied w₃ w₄ PARENTS (copied_firsts k) (at w USED)

copies : (c : After-save_first_links) → Copies c.args.work.now c.copy_within.new.words c.copy_within-2.new.words c.save_first_links.new.work c.args.k
copies c =
    let l = length-set c.args.work.now (copied_used c.args.k) (at c.args.work.now USED) in
    record {
      maps = copied _ MAPS (copied_maps c.args.k) (at c.args.work.now PAIR_COUNT) (omega arith) (omega arith) _ c.copy_within.ensures;
      counts = copied _ COUNTS (copied_counts c.args.k) (at c.args.work.now USED) (omega arith) (omega arith) _ c.copy_within-2.ensures;
      firsts = copied _ PARENTS (copied_firsts c.args.k) (at c.args.work.now USED) (omega arith) (omega arith) _ c.save_first_links.ensures;
    }

pub copy_lists-requires : goal.copy_lists-requires
copy_lists-requires c =
    let m = copies (goal.at.copy_lists-requires c).After-save_first_links in
    lists_asked c.args.work.now _ _ _ c.args.k _ _ c.requires.0 c.requires.1 c.requires.2 c.requires.3 refl refl m.maps m.counts m.firsts

pub returns : goal.returns
returns c =
    let m = copies (goal.at.returns c).After-save_first_links in
    cache_saved c.args.work.now _ _ _ c.args.k _ _ c.requires.0 c.requires.1 c.requires.2 c.requires.3 refl refl m.maps m.counts m.firsts _ c.copy_lists.ensures
