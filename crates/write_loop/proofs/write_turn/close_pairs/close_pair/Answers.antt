-- `write_loop::write_turn::close_pairs::close_pair` meets its contract: two entries go, and the pair's comes.
-- Assumes nothing.
use native.Mathlib.Omega.{arith}
use Rattle.write_loop.proofs.write_turn.Closing.{popped_whole, popped_pairs}
use Rattle.write_loop.proofs.write_turn.close_pairs.close_pair.Goals as goal

pub pair_entry-e-requires : goal.pair_entry-e-requires
pair_entry-e-requires c =
    let p = c.pop2 in
    let wh = c.requires.0 in
    (popped_whole p.auto.work p.ensures wh, omega (arith, popped_pairs p.auto.work p.ensures wh))

pub length_at-len-requires : goal.length_at-len-requires
length_at-len-requires c = let p = c.pop2 in popped_whole p.auto.work p.ensures c.requires.0
