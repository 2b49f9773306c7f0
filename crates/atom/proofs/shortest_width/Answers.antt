-- `atom::shortest_width` meets its contract. The invariant: no width below `w` holds the size.
-- Assumes nothing.
use mathlib.Core.Path.{◌≡◌, refl, ◌∙◌}
use native.Mathlib.Omega.{arith}
use Rattle.atom.specs.PrefixLaws.{least_next, width_here, width_on}
use Rattle.atom.proofs.shortest_width.Goals as goal

pub loop-w-init : goal.loop-w-init
loop-w-init c = refl

pub returns-then-size-least_size : goal.returns-then-size-least_size
returns-then-size-least_size c =
    let l = c.loop-w in
    l.invariant ∙ width_here l.w c.args.size (omega arith) (omega (arith, least_next l.w (omega arith), c.least_size.ensures))

pub loop-w-preserved : goal.loop-w-preserved
loop-w-preserved c =
    let l = c.loop-w in
    l.invariant ∙ width_on l.w c.args.size (omega arith) (omega (arith, least_next l.w (omega arith), c.least_size.ensures))

pub returns : goal.returns
returns c =
    let l = c.loop-w in
    let five : c.loop-w.w ≡ 5 = omega arith in
    let p = l.invariant ∙ width_here l.w c.args.size (omega arith) (rw five c.requires) in
    rw five at p
