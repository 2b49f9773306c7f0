-- `search_passes::clear_seen` meets its contract: the words of the bit set that hold entries in use come back zero.
-- Assumes nothing.
use Prim.Native.Nat.{ℕ, ◌+◌, ◌-◌, ◌/◌, ◌≤◌}
use mathlib.Core.Path.{◌≡◌, ◌∙◌}
use native.Mathlib.Omega.{arith}
use lib.ListN.{length}
use Rattle.words.specs.Words.{part, at}
use Rattle.words.proofs.Words.{part_length}
use Rattle.work_layout.specs.Layout.{SEEN, USED}
use Rattle.search_list.proofs.Marks.{cleared}
use Rattle.search_passes.proofs.clear_seen.Goals as goal

pub returns : goal.returns
unfolding part
returns c =
    let x = c in
    let s = x in
    let r = c.clear in
    let n : ℕ = SEEN + (at x.args.work.now USED + 31) / 32 - SEEN in
    let few : n ≤ 96 = omega (arith, s.requires.1) in
    let len : length (part s.args.work.now SEEN n) ≡ n = part_length s.args.work.now SEEN n (omega (arith, s.requires.0)) in
    cleared s.args.work.now r.new.elements n s.requires.0 few (omega arith) (r.auto.elements ∙ len) (r.ensures 0 (λ y e. e) ∙ rw len)
