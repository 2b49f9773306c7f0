-- `find_key` meets its contract. The invariant: no entry from `next` on has the key. Keys are distinct, so the last entry with it is the first one.
-- Assumes nothing.
use Rattle.std.proofs.Common.{ap, ◌∙◌}
use Rattle.work_layout.specs.Rows.{rows_of}
use Rattle.cache_entries.specs.table.Effects.{find_row}
use Rattle.cache_entries.proofs.table.Chain.{head_of, head_is, seek_start, seek_found, seek_less, seek_next, seek_none}
use Rattle.cache_entries.proofs.table.find_key.Goals as goal
use Rattle.cache_entries.proofs.table.find_key.Goals.{else-work-i-via-then-work-i+else-work-i-2, else-work-i-via-else-work-i}

pub loop-next-init : goal.loop-next-init
loop-next-init c = rw (head_is _ _ c.found_by-next.ensures) (seek_start c.args.work.now c.requires _ _ c.slot_of-slot.result c.slot_of-slot.ensures)

pub returns-then-work-i-2 : goal.returns-then-work-i-2
returns-then-work-i-2 c =
    let words = c.from-k.ensures in
    seek_found c.args.work.now c.requires _ _ _ c.slot_of-slot.ensures _ c.in-Some.e.0 c.loop-next.invariant (ap head_of c.in-Some.is)
    (c.if-work-i.true, c.if-work-i-2.true)
    ∙ (λ j. find_row (words.0 j) (words.1 j) (rows_of c.args.work.now))

pub loop-next-smaller : goal.loop-next-smaller
loop-next-smaller c =
    rw (head_is _ _ c.found_by-next-in-Some.ensures)
    (seek_less c.args.work.now c.requires _ _ _ c.slot_of-slot.ensures _ c.in-Some.e.0 c.loop-next.invariant (ap head_of c.in-Some.is))

pub loop-next-preserved : goal.loop-next-preserved
loop-next-preserved c =
    rw (head_is _ _ c.found_by-next-in-Some.ensures)
    (seek_next c.args.work.now c.requires _ _ _ c.slot_of-slot.ensures _ c.in-Some.e.0 c.loop-next.invariant (ap head_of c.in-Some.is)
    (λ has. elim c.else-work-i.branch [ else-work-i-via-then-work-i+else-work-i-2 x ↦ x.if-work-i-2.false has.1 | else-work-i-via-else-work-i x ↦ x.if-work-i.false has.0 ]))

pub returns : goal.returns
returns c =
    let words = c.from-k.ensures in
    seek_none _ _ _ _ _ c.loop-next.invariant (ap head_of c.in_default.is)
    ∙ (λ j. find_row (words.0 j) (words.1 j) (rows_of c.args.work.now))
