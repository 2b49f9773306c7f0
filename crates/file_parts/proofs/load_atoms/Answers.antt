-- `load_atoms` meets its contract. The invariant: the atoms passed are loaded, and the others stand from the present place on.
-- Assumes nothing.
use native.Mathlib.Omega.{arith}
use Rattle.file_parts.proofs.LoadLaws.{loading_atoms, atom_room, atom_end, atoms_turn, atoms_loaded}
use Rattle.file_parts.proofs.load_atoms.Goals as goal

pub loop-i-init : goal.loop-i-init
loop-i-init c = let s = c in loading_atoms s.args.file.now s.args.count s.args.table.now s.requires.0

pub overflow_add-start : goal.overflow_add-start
overflow_add-start c = omega (arith, atom_room c.loop-i.invariant (omega arith))

pub number_at-requires : goal.number_at-requires
number_at-requires c = (atom_room c.loop-i.invariant (omega arith), omega arith)

pub overflow_add-end : goal.overflow_add-end
overflow_add-end c = omega (arith, atom_end c.loop-i.invariant (omega arith) c.number_at.result c.number_at.ensures)

pub overflow_cast-table : goal.overflow_cast-table
overflow_cast-table c = omega (arith, c.requires.0.short, atom_room c.loop-i.invariant (omega arith))

pub overflow_cast-table-in-loop-i : goal.overflow_cast-table-in-loop-i
overflow_cast-table-in-loop-i c =
    let l = c.loop-i in
    omega (arith, c.requires.0.short, atom_end l.invariant (omega arith) c.number_at.result c.number_at.ensures)

pub loop-i-preserved : goal.loop-i-preserved
loop-i-preserved c = atoms_turn c.loop-i.invariant (omega arith) c.number_at.result c.number_at.ensures (omega arith)

pub returns : goal.returns
returns c = atoms_loaded c.loop-i.invariant (omega arith) (omega arith)
