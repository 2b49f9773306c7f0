-- `round_trip::read_finished::read_first` gives what reading the first `size` bytes gives.
-- Assumes nothing.
use native.Mathlib.Omega.{arith}
use Rattle.read_answer.specs.Answer.{slices}
use Rattle.read_call.specs.Outcome.{read_result_of}
use Rattle.round_trip.proofs.read_finished.Finished.{first_read}
use Rattle.round_trip.proofs.read_finished.read_first.Goals as goal

pub returns : goal.returns
returns c =
    let r = c.nikvoldra_read in
    let a = c.args in
    first_read c.min-n.result a.session.size a.output.now (omega (arith, c.min-n.ensures)) (slices a.work.now a.pairs.now a.atoms.now a.bytes.now)
    (read_result_of r.result r.new.work r.new.pairs r.new.atoms r.new.bytes) r.ensures.bytes_after
