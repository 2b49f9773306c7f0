-- `session_steps::undo_step::undo_step` meets its contract: question 11, and an undo whose words are noted.
-- Assumes nothing.
use Prim.Native.Nat.{◌<◌}
use native.Mathlib.Omega.{arith}
use Rattle.session_steps.proofs.undo_step.Answers as answers
use Rattle.session_steps.proofs.undo_step.undo_step.Goals as goal

pub returns-then-n-p : goal.returns-then-n-p
returns-then-n-p c =
    let s = c in
    answers.stops_11 s.requires.0 s.requires.1 s.args.forgets s.args.number s.args.next s.requires.2 c.stop.ensures (omega (arith, c.if-n-p))

pub undo-requires : goal.undo-requires
undo-requires c =
    let few : c.args.number < c.args.p.adds =
    omega (arith, c.if-n-p) in
    let s = c in
    answers.undo_asks s.requires.0 s.requires.1 s.args.forgets s.args.number s.args.next s.requires.2 few

pub note-requires : goal.note-requires
note-requires c =
    let few : c.args.number < c.args.p.adds =
    omega (arith, c.if-n-p) in
    let test = c in
    let s = test in
    answers.undo_note_asks s.requires.0 s.requires.1 s.args.forgets s.args.number s.args.next s.requires.2 few c.undone-q.ensures

pub returns : goal.returns
returns c =
    let few : c.args.number < c.args.p.adds =
    omega (arith, c.if-n-p) in
    let no = c.note in
    let undone = c in
    let un = undone.undo in
    let test = undone in
    let s = test in
    answers.undoes_on s.requires.0 s.requires.1 s.args.forgets s.args.number s.args.next s.requires.2 few un.auto.work un.ensures
    undone.undone-q.ensures no.ensures.0 no.ensures.1
