-- `cache_update::update` meets its contract: the parents taken, the tree entered, the parents placed.
-- Assumes nothing.
use Rattle.cache_entries.proofs.Updating.{enter_asks, place_asks, updated}
use Rattle.cache_update.proofs.update.Goals as goal

pub enter-e-requires : goal.enter-e-requires
enter-e-requires c =
    let k = enter_asks c.args.root.0 c.requires.whole.0 c.requires.whole.1 c.requires.work_bound c.take_sentinel-n.ensures in
    (c.take_sentinel-n.ensures.whole, k.0, k.1)

pub place_parents-requires : goal.place_parents-requires
place_parents-requires c =
    let t = c.take_sentinel-n.ensures in
    let e = c.enter-e.ensures in
    (e.whole.sound, e.low, t.few, place_asks c.args.root.0 c.requires.whole.0 c.requires.whole.1 c.requires.work_bound t e)

pub returns : goal.returns
returns c =
    updated c.args.root.0 c.requires.whole.0 c.requires.whole.1 c.requires.work_bound c.take_sentinel-n.ensures c.enter-e.ensures c.enter-e.auto.work
    c.place_parents.ensures
