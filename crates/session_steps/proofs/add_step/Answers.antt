-- `session_steps::add_step` meets its contract, of an add and of a quote: questions 9 and 10, a refused one, and one whose words are noted.
-- Assumes nothing.
use Prim.Native.Nat.{◌<◌}
use mathlib.Core.Path.{◌≡◌}
use mathlib.Core.Bool.{false}
use Rattle.session_steps.proofs.Answers as answers
use Rattle.session_steps.proofs.add_step.Goals as goal

pub returns-in-Err : goal.returns-in-Err
returns-in-Err c =
    let a = c.args in
    answers.stops_asked c.requires.0 c.requires.1 a.quotes a.node a.next c.requires.2 c.in-Err.error c.in-Err.ensures c.stop.ensures

pub returns-then-q : goal.returns-then-q
returns-then-q c =
    let a = c.args in
    let free : (a.p.finished ≡ false) × (a.p.adds < 16) = answers.not_asked a.p c.in_default.ensures in
    answers.adds_off c.requires.0 c.requires.1 a.quotes a.node a.next c.requires.2 free c.add-q.ensures _ c.if-q.true c.refusal_of-state.ensures

pub returns : goal.returns
returns c =
    let a = c.args in
    let free : (a.p.finished ≡ false) × (a.p.adds < 16) = answers.not_asked a.p c.in_default.ensures in
    answers.adds_on c.requires.0 c.requires.1 a.quotes a.node a.next c.requires.2 free c.add-q.ensures
    c.record_of-saved.ensures c.if-q.false c.with_quote-kept.ensures c.note.ensures.0 c.note.ensures.1
