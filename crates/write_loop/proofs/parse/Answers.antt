-- `write_loop::parse` meets its contract: the open place, a reference, or the node in full.
-- Assumes nothing.
use borrow.Author.Tests.{eqb-true, eqb-false}
use native.Mathlib.Omega.{arith}
use mathlib.Core.Path.{sym, ◌∙◌}
use Rattle.write_loop.proofs.write_turn.Turning.{turns_stop, search_places, after_search, found_there, finds_there}
use Rattle.write_loop.proofs.parse.Goals as goal

pub returns-then-is_sentinel : goal.returns-then-is_sentinel
returns-then-is_sentinel c =
    let s = c.args in (
      turns_stop s.place s.node c.requires.1 c.requires.2 (eqb-true _ s.node.0 (sym c.is_sentinel.ensures ∙ c.if-is_sentinel.true)),
      omega arith,
    )

pub refer-requires : goal.refer-requires
refer-requires c =
    let s = c.args in
    let f = rw c.in-Some.is at c.find.ensures in
    let k = c.find.auto.work in
    found_there k f.kept s.place c.requires.1 s.node c.requires.2
    (eqb-false _ s.node.0 (sym c.is_sentinel.ensures ∙ c.if-is_sentinel.false)) c.entry_of-e.ensures f.ready

pub write_full-requires : goal.write_full-requires
write_full-requires c =
    let s = c.args in
    let f = rw c.in-None.is at c.find.ensures in
    let k = c.find.auto.work in (
      search_places k f.kept s.place c.requires.1 c.requires.0,
      found_there k f.kept s.place c.requires.1 s.node c.requires.2
          (eqb-false _ s.node.0 (sym c.is_sentinel.ensures ∙ c.if-is_sentinel.false)) c.entry_of-e.ensures f.ready,
    )

pub returns-in-Some : goal.returns-in-Some
returns-in-Some c =
    let s = c.args in
    let f = rw c.in-Some.is at c.find.ensures in
    let k = c.find.auto.work in
    let y = c.refer.ensures s.file.now in (
      after_search k f.kept s.place c.requires.1 s.node c.requires.2
          (y.0 s.measure (finds_there k f.kept s.place c.requires.1 s.node c.requires.2 f)),
      y.1,
    )

pub returns-in-None : goal.returns-in-None
returns-in-None c =
    let s = c.args in
    let f = rw c.in-None.is at c.find.ensures in
    let k = c.find.auto.work in
    let y = c.write_full.ensures in (
      after_search k f.kept s.place c.requires.1 s.node c.requires.2
          (y.0 s.measure (finds_there k f.kept s.place c.requires.1 s.node c.requires.2 f)),
      y.1,
    )
