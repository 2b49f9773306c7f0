-- `search_passes::search` meets its contract: what the cache ensures is what the passes need.
-- Assumes nothing.
use native.Mathlib.Omega.{arith}
use Rattle.work_layout.specs.Layout.{ENTRIES}
use Rattle.search_list.proofs.Premises.{sound_links, unseen_all}
use Rattle.search_passes.proofs.search.Goals as goal

pub all_passes-requires : goal.all_passes-requires
all_passes-requires c =
    let s = c in
    (sound_links s.args.work.now s.requires.0, s.requires.1, omega (arith, s.requires.2, unseen_all s.args.work.now ENTRIES), s.requires.3)
