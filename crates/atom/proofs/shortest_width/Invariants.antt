-- `atom::shortest_width` meets its contract. The invariant: no width below `w` holds the size.
-- Assumes nothing.
use Prim.Native.Nat.{◌-◌}
use mathlib.Core.Path.{◌≡◌}
use Rattle.atom.specs.Prefix.{first_width, width}
use Rattle.atom.proofs.shortest_width.Given as goal

abbrev pub invariant-loop-w : goal.invariant-loop-w
invariant-loop-w l = width l.size ≡ first_width (6 - l.w) l.w l.size
