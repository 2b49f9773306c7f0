-- `leaves::answer::written_in` is safe: what `write_atom` wrote lies within the output.
use Rattle.std.proofs.Common.{◌≤◌, length, rules}
use Rattle.leaves.proofs.Within.{written_within}
use Rattle.leaves.proofs.answer.written_in.Goals as goal

pub slice_bounds-hex-end : goal.slice_bounds-hex-end
slice_bounds-hex-end g c =
    let w = c.write_atom in
    written_within _ w.new.output _ _ _ _ c.in-Ok.is w.ensures.0 w.auto.output

pub slice_bounds-hex-end-2 : goal.slice_bounds-hex-end-2
slice_bounds-hex-end-2 g c =
    let w = c.write_atom in
    let h : c.in-Ok.written.next ≤ length w.new.output = written_within _ w.new.output _ _ _ _ c.in-Ok.is w.ensures.0 w.auto.output in
    search rules
