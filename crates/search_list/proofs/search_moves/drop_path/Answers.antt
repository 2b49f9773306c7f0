-- `search_list::search_moves::drop_path` meets its contract: the last path's words stand in the slot.
-- Assumes nothing.
use Rattle.search_list.proofs.Trails.{path_dropped}
use native.Mathlib.Omega.{arith}
use Rattle.search_list.proofs.search_moves.drop_path.Goals as goal

pub returns : goal.returns
returns c =
    let x = c in
    let s = x in
    let p = c.put_path in
    path_dropped s.args.work.now p.new.work s.args.nodes s.args.slot s.args.last s.requires.1
    (rw (x.node_of-a.ensures, x.place_of-v.ensures, x.extra_of-x.ensures) at p.ensures)
    s.requires.3 (omega arith) s.requires.2
