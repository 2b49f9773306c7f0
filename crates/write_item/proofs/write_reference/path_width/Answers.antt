-- `write_item::write_reference::path_width` meets its contract: at most seven bits stand for themselves, and more take the shortest prefix.
-- Assumes nothing.
use Prim.Native.Nat.{ℕ, ◌+◌, ◌/◌}
use mathlib.Core.Path.{sym, ap, ◌∙◌}
use native.Mathlib.Omega.{arith}
use Rattle.atom.specs.PrefixLaws.{width_carries}
use Rattle.atom.specs.Prefix.{width}
use Rattle.write_item.proofs.write_reference.Widths.{short_width, long_width}
use Rattle.write_item.proofs.write_reference.path_width.Goals as goal

pub returns-then-bits-lt8 : goal.returns-then-bits-lt8
returns-then-bits-lt8 c = (omega arith, λ path e. short_width path (omega (arith, c.if-bits-lt8.true, e)))

pub returns : goal.returns
returns c = let r = c.shortest_width in
    ((width_carries _ r.result r.ensures).five, λ path e. long_width path r.result (omega (arith, c.if-bits-lt8.false, e)) (ap (λ (k : ℕ). width ((k + 7) / 8)) (sym e) ∙ r.ensures))
