-- `search_list::Search::add_copies` meets its contract: after i parents the list has a path for each unseen one among them.
-- Assumes nothing.
use Rattle.search_list.proofs.Copies.{copying_asks, copying_start, copying_more, copying_end}
use Prim.Native.Nat.{◌<◌}
use native.Mathlib.Omega.{arith}
use Rattle.search_list.specs.State.{count_at}
use Rattle.search_list.proofs.Search.add_copies.Goals as goal

pub loop-i-init : goal.loop-i-init
loop-i-init c =
    let s = c in
    copying_start s.args.work.now s.args.e.0 s.args.self.nodes s.args.first s.args.self.paths (omega (arith, s.requires.e_bound.1, s.requires.e_bound.3)) s.requires.links.2

pub add_copy-paths-requires : goal.add_copy-paths-requires
add_copy-paths-requires c =
    let next : c.loop-i.i < count_at c.args.work.now c.args.e.0 =
    omega (arith, c.loop-i-test.true, c.requires.e_bound.3) in
    let s = c in
    let the_facts = copying_asks s.requires.links.0 s.requires.links.1 s.requires.e_bound.0 (omega (arith, s.requires.e_bound.2, s.requires.e_bound.3)) c.loop-i.invariant next in
    record { links = the_facts.0; e_bound = the_facts.1 }

pub loop-i-preserved : goal.loop-i-preserved
loop-i-preserved c =
    let next : c.loop-i.i < count_at c.args.work.now c.args.e.0 =
    omega (arith, c.loop-i-test.true, c.requires.e_bound.3) in
    let s = c in
    let a = c.add_copy-paths in
    copying_more s.requires.links.0 s.requires.links.1 s.requires.e_bound.0 c.loop-i.invariant next a.auto.work a.ensures

pub returns : goal.returns
returns c =
    copying_end c.loop-i.invariant (omega (arith, c.loop-i-test.false, c.requires.e_bound.3))
