-- `write_item::write_reference::path_bits` meets its contract.
-- Assumes nothing.
use mathlib.Core.Path.{◌∙◌}
use native.Mathlib.Omega.{arith}
use Rattle.search_list.proofs.Trails.{readable_size}
use Rattle.write_item.proofs.write_reference.path_bits.Goals as goal

pub returns : goal.returns
returns c = let s = c in (c.size_of.ensures ∙ readable_size s.args.work.now s.args.slot s.requires.1, omega (arith, c.size_of.ensures, s.requires.1.short, s.requires.1.extra))
