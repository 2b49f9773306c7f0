-- `fits_in_small_atom` meets its contract: small bytes answer with the number that they make.
-- Assumes nothing.
use mathlib.Core.Path.{sym, ◌∙◌}
use Rattle.allocator.proofs.fits_in_small_atom.Fits.{small_length, answer_small, answer_listed}
use Rattle.allocator.proofs.fits_in_small_atom.fits_in_small_atom.Goals as goal

pub number_of-requires : goal.number_of-requires
number_of-requires c = small_length c.args.v.now (sym c.if-is_small_atom.true ∙ c.is_small_atom.ensures)

pub returns-then-is_small_atom : goal.returns-then-is_small_atom
returns-then-is_small_atom c =
    answer_small c.args.v.now c.number_of.result
    (sym c.if-is_small_atom.true ∙ c.is_small_atom.ensures)
    c.number_of.ensures

pub returns-else-is_small_atom : goal.returns-else-is_small_atom
returns-else-is_small_atom c = answer_listed c.args.v.now (sym c.if-is_small_atom.false ∙ c.is_small_atom.ensures)
