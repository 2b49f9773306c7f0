-- `cache_undo::cache_copy::bring` meets its contract: the newest entries are taken off, and the map of pairs, the counts and the words of the parents are those of the copy.
-- Assumes nothing.
use Rattle.std.proofs.Common.{List, ℕ, ◌≤◌, refl, arith}
use Rattle.words.specs.Words.{at}
use Rattle.work_layout.specs.Layout.{MAPS, COUNTS, PARENTS, PAIR_COUNT}
use Rattle.words.proofs.Copies.{Copied, copied}
use Rattle.cache_undo.specs.cache_copy.Effects.{copied_used, copied_maps, copied_counts, copied_firsts}
use Rattle.cache_undo.proofs.cache_copy.BringLaws.{lists_asked, cache_brought}
use Rattle.cache_undo.proofs.cache_copy.bring.Goals as goal
use Rattle.cache_undo.proofs.cache_copy.bring.Goals.{After-bring_first_links}

-- The map of pairs, the counts and the first words of the parents, as they were copied back. w₁ is without the newest entries.
record Copies (w w₁ w₂ w₃ w₄ : List ℕ) (k : ℕ) : Type 0 where
  maps : Copied w₁ w₂ (copied_maps k) MAPS (at w PAIR_COUNT)
  counts : Copied w₂ w₃ (copied_counts k) COUNTS (at w (copied_used k))
  firsts : Copied w₃ w₄ (copied_firsts k) PARENTS (at w (copied_used k))

copies : (c : After-bring_first_links)
    → Copies c.args.work.now c.take_off.new.work c.copy_within.new.words c.copy_within-2.new.words c.bring_first_links.new.work c.args.k
copies c =
    let b = c.requires.1.1 in
    let l = b.sound.long in
    let n = at c.args.work.now (copied_used c.args.k) in
    let n_few : n ≤ 3072 = omega (arith, b.copied.used, b.then_sound.used) in
    record {
      maps = copied _ (copied_maps c.args.k) MAPS (at c.args.work.now PAIR_COUNT) (omega (arith, l, b.few_pairs)) (omega (arith, l, b.few_pairs)) _ c.copy_within.ensures;
      counts = copied _ (copied_counts c.args.k) COUNTS n (omega (arith, l)) (omega (arith, l)) _ c.copy_within-2.ensures;
      firsts = copied _ (copied_firsts c.args.k) PARENTS n (omega (arith, l)) (omega (arith, l)) _ c.bring_first_links.ensures;
    }

pub copy_lists-requires : goal.copy_lists-requires
copy_lists-requires c =
    let m = copies (goal.at.copy_lists-requires c).After-bring_first_links in
    lists_asked c.requires.1.0 c.args.work.now _ _ _ _ c.args.k _ _ c.requires.0 c.requires.1.1 refl refl c.take_off.ensures m.maps m.counts m.firsts

pub returns : goal.returns
returns c v b =
    let m = copies (goal.at.returns c).After-bring_first_links in
    cache_brought v c.args.work.now _ _ _ _ c.args.k _ _ c.requires.0 b refl refl c.take_off.ensures m.maps m.counts m.firsts _ c.copy_lists.ensures
