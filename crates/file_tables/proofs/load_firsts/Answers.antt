-- `load_firsts` meets its contract. The invariant: the tables of the atoms before `i` are loaded.
-- Assumes nothing.
use Rattle.std.proofs.Common.{arith}
use Rattle.file_tables.proofs.Turns.{none_yet, load_asks, inside_asks, load_more, all_loaded}
use Rattle.file_tables.proofs.load_firsts.Goals as goal

pub loop-i-init : goal.loop-i-init
loop-i-init c = none_yet _ _ _ c.requires

pub load_atom-requires : goal.load_atom-requires
load_atom-requires c =
    let l = c.loop-i in
    let h = load_asks _ _ _ c.requires l.work l.i l.invariant (omega arith) in
    (h.0, h.1, h.2, inside_asks _ _ _ c.requires l.work l.i l.invariant (omega arith))

pub loop-i-preserved : goal.loop-i-preserved
loop-i-preserved c = let l = c.loop-i in load_more _ _ _ c.requires l.work l.i l.invariant _ (omega arith) c.load_atom.ensures

pub returns : goal.returns
returns c = let l = c.loop-i in all_loaded _ _ _ c.requires l.work l.i l.invariant (omega arith) (omega arith)
