-- `read_item::read_value::push_atom` meets its contract.
-- Assumes nothing.
use mathlib.Core.Path.{ap}
use native.Mathlib.Omega.{arith}
use lib.ListN.{length}
use Rattle.read_item.specs.declared.settle.Reader.{Reader}
use Rattle.read_item.proofs.read_value.push_atom.Goals as goal

pub new_atom-a-requires : goal.new_atom-a-requires
new_atom-a-requires c =
    let p = c.requires in
    let e = ap length c.parse_atom_ptr-atom.ensures in
    (p.atoms_room, omega (arith, p.bytes_room), p.few_atoms, omega (arith, p.few_bytes))

pub returns : goal.returns
returns c =
    let f = c.push_node.ensures.1 in
    record {
      node = c.new_atom-a.result.node.0;
      pushed = c.push_node.ensures.0;
      stored = rw f (rw c.parse_atom_ptr-atom.ensures at c.new_atom-a.ensures);
      position = ap (λ (r : Reader). r.position) f;
      ops = ap (λ (r : Reader). r.ops) f;
      values = ap (λ (r : Reader). r.values) f;
      listed = ap (λ (r : Reader). r.listed) f;
      pairs = ap (λ (r : Reader). r.pairs) f;
      ghosts = ap (λ (r : Reader). r.ghosts) f;
    }
