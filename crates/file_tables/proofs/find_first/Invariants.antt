-- `find_first` meets its contract. The invariant: no first atom from `head` on has the bytes.
-- Assumes nothing.
use Rattle.work_layout.specs.Rows.{atom_bytes}
use Rattle.file_tables.proofs.Seeking.{Sought}
use Rattle.file_tables.proofs.find_first.Given as goal

abbrev pub invariant-loop-head : goal.invariant-loop-head
invariant-loop-head l = Sought (atom_bytes l.file l.work) l.i l.slot l.head

abbrev pub decreases-loop-head : goal.decreases-loop-head
decreases-loop-head l = l.head
