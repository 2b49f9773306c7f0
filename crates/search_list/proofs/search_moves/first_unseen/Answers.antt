-- `search_list::search_moves::first_unseen` meets its contract: every parent before it is seen.
-- Assumes nothing.
use Rattle.search_list.proofs.Copies.{seeking_start, seeking_more, seeking_found, seeking_none}
use Rattle.work_layout.specs.Rows.{link_at}
use Rattle.search_list.specs.State.{seen_at, count_at}
use Prim.Native.Nat.{ℕ, ◌/◌, ◌<◌}
use mathlib.Core.Path.{◌≡◌, ap, sym, ◌∙◌}
use native.Mathlib.Omega.{arith}
use Rattle.search_list.proofs.search_moves.first_unseen.Goals as goal

pub count_of-all-requires : goal.count_of-all-requires
count_of-all-requires c = let s = c in (s.requires.0.long, s.requires.1, s.requires.0.counts s.args.e.0 s.requires.1)

pub loop-i-init : goal.loop-i-init
loop-i-init c = let s = c in seeking_start s.args.work.now s.args.e.0

pub parent_at-p-requires : goal.parent_at-p-requires
parent_at-p-requires c =
    let s = c in
    (s.requires.0.long, s.requires.1, omega (arith, s.requires.0.counts s.args.e.0 s.requires.1, c.count_of-all.ensures.0))

pub is_seen-requires : goal.is_seen-requires
is_seen-requires c =
    let next : c.loop-i.i < count_at c.args.work.now c.args.e.0 =
    omega (arith, c.loop-i-test.true, c.count_of-all.ensures.0) in
    let t = c in
    let s = t in
    (s.requires.0.long, omega (arith, c.entry.ensures, c.parent_at-p.ensures, s.requires.0.links s.args.e.0 t.loop-i.i s.requires.1 next))

pub returns-then-not-is_seen : goal.returns-then-not-is_seen
returns-then-not-is_seen c =
    let seen : seen_at c.args.work.now (link_at c.args.work.now c.args.e.0 c.loop-i.i / 2) ≡ c.is_seen.result =
    ap (seen_at c.args.work.now) (sym (c.entry.ensures ∙ ap (λ (z : ℕ). z / 2) c.parent_at-p.ensures))
    ∙ sym c.is_seen.ensures in
    seeking_found c.args.work.now c.args.e.0
    (record { place = c.loop-i.i; parent = c.parent_at-p.result; all = c.count_of-all.result })
    c.count_of-all.ensures.0 c.loop-i.invariant c.loop-i-test.true (seen ∙ c.if-not-is_seen.true) c.parent_at-p.ensures

pub loop-i-preserved : goal.loop-i-preserved
loop-i-preserved c =
    let seen : seen_at c.args.work.now (link_at c.args.work.now c.args.e.0 c.loop-i.i / 2) ≡ c.is_seen.result =
    ap (seen_at c.args.work.now) (sym (c.entry.ensures ∙ ap (λ (z : ℕ). z / 2) c.parent_at-p.ensures))
    ∙ sym c.is_seen.ensures in
    let next : c.loop-i.i < count_at c.args.work.now c.args.e.0 =
    omega (arith, c.loop-i-test.true, c.count_of-all.ensures.0) in
    let s = c in
    let k = c.loop-i in
    seeking_more s.args.work.now s.args.e.0 k.i k.invariant
    next (seen ∙ c.if-not-is_seen.false)

pub returns : goal.returns
returns c =
    seeking_none c.args.work.now c.args.e.0 c.loop-i.i c.loop-i.invariant
    (omega (arith, c.loop-i-test.false, c.count_of-all.ensures.0))
