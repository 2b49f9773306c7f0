-- `atom::prefix_width` meets its contract.
-- Assumes nothing.
use mathlib.Core.Path.{sym, ◌∙◌}
use Rattle.atom.specs.WriteLaws.{width_of_single, width_of_large, width_of_sized}
use Rattle.atom.proofs.prefix_width.Goals as goal

pub returns-then-is_single : goal.returns-then-is_single
returns-then-is_single c = sym (width_of_single c.args.atom.now (sym c.is_single.ensures ∙ c.if-is_single.true))

pub returns-then-size-ge-SIZE_LIMIT : goal.returns-then-size-ge-SIZE_LIMIT
returns-then-size-ge-SIZE_LIMIT c = sym (width_of_large c.args.atom.now (sym c.is_single.ensures ∙ c.if-is_single.false) c.if-size-ge-SIZE_LIMIT.true)

pub returns : goal.returns
returns c =
    sym (width_of_sized c.args.atom.now (sym c.is_single.ensures ∙ c.if-is_single.false)
    c.shortest_width.result c.shortest_width.ensures)
