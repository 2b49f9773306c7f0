-- `read_item::read_value::atom_item` meets its contract.
-- Assumes nothing.
use Rattle.read_item.proofs.read_value.Atoms as atoms
use Rattle.read_item.proofs.read_value.atom_item.Goals as goal

pub push_atom-next-requires : goal.push_atom-next-requires
push_atom-next-requires c =
    let p = c.requires in
    atoms.atom_room _ _ _ _ _ _ p.0 _ _ (atoms.found_at _ _ _ _ p.0.lent.inside p.1)

pub settle-requires : goal.settle-requires
settle-requires c =
    let p = c.requires in
    let q = c.push_atom-next in
    atoms.ready_pushed _ _ _ _ _ _ p.0 _ _ (atoms.found_at _ _ _ _ p.0.lent.inside p.1) _ _ _ _ q.ensures q.auto.work q.auto.atoms q.auto.bytes

pub returns : goal.returns
returns c =
    let p = c.requires in
    let q = c.push_atom-next in
    let n = c.settle in
    atoms.atom_stepped _ _ _ _ _ _ p.0 _ _ (atoms.found_at _ _ _ _ p.0.lent.inside p.1) _ _ _ _ q.ensures q.auto.work q.auto.atoms q.auto.bytes
    _ _ _ n.auto.work n.auto.pairs n.ensures
