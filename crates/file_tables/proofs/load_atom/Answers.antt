-- `load_atom` meets its contract: two stores for an atom whose bytes are known, four for one that is the first of its bytes.
-- Assumes nothing.
use Rattle.std.proofs.Common.{arith, length-set}
use Rattle.work_layout.specs.Rows.{atom_bytes}
use Rattle.file_tables.proofs.First.{first_of_le}
use Rattle.file_tables.proofs.listed_atoms.Slots.{slot_low}
use Rattle.file_tables.proofs.Turns.{known_turn, new_turn}
use Rattle.file_tables.proofs.load_atom.Goals as goal

pub slot_at-slot-requires : goal.slot_at-slot-requires
slot_at-slot-requires c = let s = c in (s.requires.2.long, s.requires.0, s.requires.3 s.args.i (omega arith))

pub length_at-size-requires : goal.length_at-size-requires
length_at-size-requires c = let s = c in (s.requires.2.long, s.requires.0, s.requires.3 s.args.i (omega arith), s.requires.1)

pub overflow_add-head : goal.overflow_add-head
overflow_add-head c =
    let a = c.args in
    omega (arith, slot_low (atom_bytes a.file.now a.work.now a.i), c.slot_at-slot.ensures)

pub offset_bounds-work-slot : goal.offset_bounds-work-slot
offset_bounds-work-slot c =
    let a = c.args in
    omega (arith, slot_low (atom_bytes a.file.now a.work.now a.i), c.slot_at-slot.ensures)

pub bounds-work-slot : goal.bounds-work-slot
bounds-work-slot c =
    let s = c in
    let a = s.args in
    omega (arith, slot_low (atom_bytes a.file.now a.work.now a.i), c.slot_at-slot.ensures, s.requires.2.long)

pub overflow_cast-work : goal.overflow_cast-work
overflow_cast-work c =
    let a = c.args in
    omega (arith, first_of_le (atom_bytes a.file.now a.work.now) a.i, c.find_first-first.ensures)

pub returns-then-first-i : goal.returns-then-first-i
returns-then-first-i c =
    let s = c in
    known_turn s.requires.2 s.requires.0 c.slot_at-slot.ensures c.find_first-first.ensures
    c.length_at-size.ensures c.if-first-i.true

pub overflow_add-work-5 : goal.overflow_add-work-5
overflow_add-work-5 c =
    let a = c.args in
    omega (arith, slot_low (atom_bytes a.file.now a.work.now a.i), c.slot_at-slot.ensures)

pub offset_bounds-work-slot-2 : goal.offset_bounds-work-slot-2
offset_bounds-work-slot-2 c =
    let a = c.args in
    omega (arith, slot_low (atom_bytes a.file.now a.work.now a.i), c.slot_at-slot.ensures)

pub bounds-work-slot-2 : goal.bounds-work-slot-2
bounds-work-slot-2 c =
    let s = c in
    let a = s.args in
    simp length-set
    (omega (arith, slot_low (atom_bytes a.file.now a.work.now a.i), c.slot_at-slot.ensures, s.requires.2.long))

pub returns : goal.returns
returns c =
    let s = c in
    new_turn s.requires.2 s.requires.0 c.slot_at-slot.ensures c.find_first-first.ensures
    c.length_at-size.ensures c.if-first-i.false
