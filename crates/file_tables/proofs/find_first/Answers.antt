-- `find_first` meets its contract. The invariant: no first atom from `head` on has the bytes.
-- Assumes nothing.
use Rattle.std.proofs.Common.{◌-◌, refl, sym, ◌∙◌, arith}
use Rattle.work_layout.specs.Rows.{atom_bytes}
use Rattle.file_tables.proofs.listed_atoms.Slots.{slot_low}
use Rattle.file_tables.proofs.Seeking.{seek_start, seek_low, seek_found, seek_less, seek_next, seek_none}
use Rattle.file_tables.proofs.find_first.Goals as goal

pub overflow_add-head : goal.overflow_add-head
overflow_add-head c = let s = c in omega (arith, slot_low (atom_bytes s.args.file.now s.args.work.now s.args.i), s.requires.1)

pub offset_bounds-work-slot : goal.offset_bounds-work-slot
offset_bounds-work-slot c = let s = c in omega (arith, slot_low (atom_bytes s.args.file.now s.args.work.now s.args.i), s.requires.1)

pub bounds-work-slot : goal.bounds-work-slot
bounds-work-slot c = let s = c in omega (arith, slot_low (atom_bytes s.args.file.now s.args.work.now s.args.i), s.requires.1, s.requires.2.long)

pub loop-head-init : goal.loop-head-init
loop-head-init c = let s = c in seek_start _ _ _ _ s.requires.2 s.requires.1 _ refl

pub same_atoms-requires : goal.same_atoms-requires
same_atoms-requires c =
    let s = c in
    let l = seek_low _ _ _ _ s.requires.2 s.requires.1 c.loop-head.head c.loop-head.invariant c.loop-head-test.true in
    (s.requires.2.long, omega arith, omega arith, s.requires.3 (c.loop-head.head - 1) (omega arith), s.requires.3 s.args.i (omega arith))

pub returns-then-same_atoms : goal.returns-then-same_atoms
returns-then-same_atoms c =
    let s = c in
    seek_found _ _ _ _ s.requires.2 s.requires.1 c.loop-head.head c.loop-head.invariant c.loop-head-test.true
    (sym c.same_atoms.ensures ∙ c.if-same_atoms.true)

pub loop-head-smaller : goal.loop-head-smaller
loop-head-smaller c =
    let s = c in
    let l = c.loop-head in
    seek_less _ _ _ _ s.requires.2 s.requires.1 l.head l.invariant c.loop-head-test.true _ refl

pub loop-head-preserved : goal.loop-head-preserved
loop-head-preserved c =
    let s = c in
    let l = c.loop-head in
    seek_next _ _ _ _ s.requires.2 s.requires.1 l.head l.invariant c.loop-head-test.true _ refl
    (sym c.same_atoms.ensures ∙ c.if-same_atoms.false)

pub returns : goal.returns
returns c =
    let s = c in
    seek_none _ _ _ _ s.requires.2 s.requires.1 c.loop-head.head c.loop-head.invariant c.loop-head-test.false
