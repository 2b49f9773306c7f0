-- `write_loop::write_turn::refer` meets its contract: a reference stands for the whole subtree.
-- Assumes nothing.
use Rattle.write_loop.proofs.write_turn.Values.{refer_turns}
use Rattle.write_loop.proofs.write_turn.refer.Goals as goal

pub returns : goal.returns
returns c =
    let pushed = c.push_value in
    let put = c in
    let p = put.requires in
    refer_turns pushed.auto.work put.write_reference-item.result pushed.ensures p put.write_reference-item.ensures
