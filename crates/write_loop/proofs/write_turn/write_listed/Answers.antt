-- `write_loop::write_turn::write_listed` meets its contract: the part of the file that the words name, as an item.
-- Assumes nothing.
use Prim.Native.Nat.{ℕ}
use mathlib.Core.Path.{subst}
use mathlib.Core.List.{List}
use Rattle.spec_session.specs.Items.{atom_item}
use Rattle.write_item.specs.Answers.{ItemPut}
use Rattle.write_loop.proofs.write_turn.Atoms.{part_is}
use Rattle.write_loop.proofs.write_turn.write_listed.Goals as goal

pub returns : goal.returns
returns c =
    let e = c in
    let b = e.start_of-start in
    let a = e.args in
    let put = c.write_listed in
    subst (λ (l : List ℕ). ItemPut a.output.now put.new.output a.counts (atom_item l) put.result)
    (part_is a.file.now a.work.now a.i b.result e.end_of-end.result b.ensures e.end_of-end.ensures) put.ensures
