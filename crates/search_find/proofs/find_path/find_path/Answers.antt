-- `search_find::find_path::find_path` meets its contract: the first bit of a path found is set, so the number of its bits gives what it is measured at.
-- Assumes nothing.
use native.Mathlib.Omega.{arith}
use mathlib.Core.Path.{◌∙◌}
use Rattle.search_list.proofs.Trails.{readable_size}
use Rattle.search_find.proofs.find_path.Ends.{path_none, path_ends, path_long, path_used}
use Rattle.search_find.proofs.find_path.find_path.Goals as goal

pub size_of-requires : goal.size_of-requires
size_of-requires c =
    let u = c.in-Some.ensures.usable in
    (omega (arith, c.search.auto.work, c.requires.0.long), u.slot, u.chain.few)

pub measured_bits-requires : goal.measured_bits-requires
measured_bits-requires c =
    let u = c.in-Some.ensures.usable in
    omega (arith, c.size_of.ensures, u.short, u.extra)

pub returns-then-measured_bits-len : goal.returns-then-measured_bits-len
returns-then-measured_bits-len c =
    let found = c.in-Some.ensures in
    let sized = c.size_of.ensures ∙ readable_size c.search.new.work _ found.usable in
    path_used found (c.measured_bits.ensures _ sized (path_ends found)) c.if-measured_bits-len.true

pub returns : goal.returns
returns c =
    let found = c.in-Some.ensures in
    let sized = c.size_of.ensures ∙ readable_size c.search.new.work _ found.usable in
    path_long found (c.measured_bits.ensures _ sized (path_ends found)) c.if-measured_bits-len.false

pub returns-in_default : goal.returns-in_default
returns-in_default c = path_none c.in_default.ensures
