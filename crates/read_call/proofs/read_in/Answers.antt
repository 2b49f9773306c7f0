-- `read_call::read_in` reads as the definition says: the store is cleared, every item is read, and the outcome is told.
-- Assumes nothing.
use mathlib.Core.Path.{◌∙◌}
use Rattle.read_call.proofs.Answers.{lent_start, counted, ended_after}
use Rattle.read_call.proofs.read_in.Goals as goal

pub read_all-outcome-requires : goal.read_all-outcome-requires
read_all-outcome-requires c =
    let s = c in
    let z = c.clear_store.ensures in
    lent_start _ _ s.args.pairs.now s.args.atoms.now s.args.bytes.now _ _ _ s.requires.0 s.requires.1 z.0 z.1 z.2

pub ended-requires : goal.ended-requires
ended-requires c =
    let read = c in
    counted _ _ _ _ _ _ read.read_all-outcome.ensures

pub returns : goal.returns
returns c =
    let answered = c in
    let read = answered in
    let all_read = read in
    let x = all_read.read_all-outcome in
    let z = all_read.clear_store.auto in
    ended_after _ _ _ _ _ _ _ _ _ _ x.ensures x.auto.work (x.auto.pairs ∙ z.pairs) (x.auto.atoms ∙ z.atoms) (x.auto.bytes ∙ z.bytes)
    _ answered.ended.ensures
