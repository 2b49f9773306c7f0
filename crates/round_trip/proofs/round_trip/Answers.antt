-- `round_trip::round_trip` meets its contract: what the two calls ensure makes the round trip.
-- Assumes nothing.
use Rattle.round_trip.specs.RoundTrip.{lists}
use Rattle.round_trip.proofs.Returned.{trip}
use Rattle.round_trip.proofs.round_trip.Goals as goal

pub returns : goal.returns
returns c =
    let a = c.args in
    let s = c.nikvoldra_session-session in
    let r = c.read_first-read in
    trip a.file.now
    (lists a.work.now a.words.now a.checkpoints.now a.output.now a.pairs.now a.atoms.now a.bytes.now)
    (lists r.new.work s.new.words s.new.checkpoints s.new.output r.new.pairs r.new.atoms r.new.bytes)
    s.new.work s.result r.result s.ensures.output_after r.ensures s.ensures.reads_back s.auto.work
