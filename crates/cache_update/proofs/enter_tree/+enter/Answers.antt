-- `cache_update::enter_tree::enter` meets its contract. The measure: one more than the number of the pair, or 0 for an atom.
-- Assumes nothing.
use Rattle.std.proofs.Common.{sym, ap, ◌∙◌, arith}
use Rattle.cache_entries.specs.table.Effects.{option_of}
use Rattle.cache_entries.proofs.Entering.{sentinel_entered, atom_entered, span_a, span_b, span_h, left_asks, right_asks, join_asks, pair_entered}
use Rattle.cache_entries.proofs.Entering.{test_same, test_other, test_pair, known_entered}
use Rattle.cache_update.proofs.enter_tree.NewPairs.{is_new}
use Rattle.cache_update.proofs.enter_tree.+enter.Goals as goal

pub returns-then-is_sentinel : goal.returns-then-is_sentinel
returns-then-is_sentinel t c =
    sentinel_entered c.requires.1 (test_same c.is_sentinel.ensures c.if-is_sentinel.true) c.meet_sentinel.ensures

pub returns-then-is_atom : goal.returns-then-is_atom
returns-then-is_atom t c =
    atom_entered (test_other c.is_sentinel.ensures c.if-is_sentinel.false) (sym c.is_atom.ensures ∙ c.if-is_atom.true) c.enter_atom.ensures

pub returns-in-Some : goal.returns-in-Some
returns-in-Some t c =
    known_entered c.args.work.now c.args.h.0 _ c.requires.0 c.requires.1 (test_other c.is_sentinel.ensures c.if-is_sentinel.false)
    (test_pair c.args.work.now c.args.h.0 c.requires.1 c.is_atom.ensures c.if-is_atom.false c.index-i.ensures)
    (sym (ap option_of c.in-Some.is) ∙ c.map_of.ensures)

pub enter-l-requires : goal.enter-l-requires
enter-l-requires t c =
    let p = is_new c.requires c.is_sentinel.ensures c.if-is_sentinel.false c.is_atom.ensures c.if-is_atom.false c.index-i.ensures c.map_of.ensures c.in_default.is
    c.left_of-a.ensures c.right_of-b.ensures in
    (omega (arith, c.decreases, span_a p, span_h p), (c.requires.0, (left_asks p).0, (left_asks p).1))

pub enter-r-requires : goal.enter-r-requires
enter-r-requires t c =
    let p = is_new c.requires c.is_sentinel.ensures c.if-is_sentinel.false c.is_atom.ensures c.if-is_atom.false c.index-i.ensures c.map_of.ensures c.in_default.is
    c.left_of-a.ensures c.right_of-b.ensures in
    let l = c.enter-l.ensures in
    let k = right_asks p l in
    (omega (arith, c.decreases, span_b p, span_h p), (l.whole, k.0, k.1))

pub join-requires : goal.join-requires
join-requires t c =
    let p = is_new c.requires c.is_sentinel.ensures c.if-is_sentinel.false c.is_atom.ensures c.if-is_atom.false c.index-i.ensures c.map_of.ensures c.in_default.is
    c.left_of-a.ensures c.right_of-b.ensures in
    let r = c.enter-r.ensures in
    let k = join_asks p c.enter-l.ensures r in
    record { whole = (r.whole, k.0, k.1); l_bound = (k.2, k.3, k.4) }

pub returns : goal.returns
returns t c =
    pair_entered (is_new c.requires c.is_sentinel.ensures c.if-is_sentinel.false c.is_atom.ensures c.if-is_atom.false c.index-i.ensures c.map_of.ensures
    c.in_default.is c.left_of-a.ensures c.right_of-b.ensures) c.enter-l.ensures c.enter-r.ensures c.join.ensures
