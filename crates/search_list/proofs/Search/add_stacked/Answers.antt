-- `search_list::Search::add_stacked` meets its contract: the word of TOPS is the least distance from the top.
-- Assumes nothing.
use Rattle.search_list.proofs.Copies.{off_stack, on_stack}
use Prim.Native.Nat.{◌+◌, ◌-◌}
use mathlib.Core.Path.{◌≡◌, refl}
use native.Mathlib.Omega.{arith}
use Rattle.words.specs.Words.{at}
use Rattle.work_layout.specs.Layout.{TOPS}
use Rattle.search_list.proofs.Search.add_stacked.Goals as goal

pub returns-in_default : goal.returns-in_default
returns-in_default c =
    let q = c.requires in
    off_stack c.args.work.now c.args.self.nodes c.args.self.paths q.links.2 q.links.3 c.args.self.depth c.args.e.0 q.links.1 q.e_bound.0 _ refl
    c.in_default.ensures

pub returns : goal.returns
returns c =
    let q = c.requires in
    let w = c.args.work.now in
    let s = c.args.self in
    let word = c.in-Some.ensures in
    let from_top : s.depth - 1 - c.in-Some.top ≡ s.depth - at w (TOPS + c.args.e.0) = omega (arith, word) in
    on_stack w s.nodes s.paths q.links.2 q.links.3 s.depth c.args.e.0 q.links.1 q.e_bound.0 c.put_on_stack.new.work _ refl
    (λ z. absurd (omega (arith, word))) q.e_bound.1 (rw from_top at c.put_on_stack.ensures)
