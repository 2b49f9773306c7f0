-- `search_find::length_at` meets its contract: the length in the entry's words, or 0 beyond the last entry.
-- Assumes nothing.
use native.Mathlib.Omega.{arith}
use Rattle.search_find.proofs.Lookup.{length_here, length_past}
use Rattle.search_find.proofs.length_at.Goals as goal

pub returns-then-e-used_of : goal.returns-then-e-used_of
returns-then-e-used_of c =
    let s = c in
    length_past s.args.work.now s.args.e.0 (omega (arith, c.used_of.ensures))

pub returns : goal.returns
returns c =
    let s = c in
    length_here s.args.work.now s.args.e.0 c.length_of.result (omega (arith, c.used_of.ensures)) c.length_of.ensures
