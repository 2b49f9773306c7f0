-- `is_small_atom` meets its contract: each test decides as the definition does.
-- Assumes nothing.
use Rattle.std.proofs.Common.{sym, ◌∙◌, arith, eqb-true}
use Rattle.words.proofs.Words.{each_byte}
use Rattle.allocator.proofs.fits_in_small_atom.Fits.{some_byte, empty_small, long_listed, negative_listed, first_decides, short_small}
use Rattle.allocator.proofs.fits_in_small_atom.is_small_atom.Goals as goal

pub returns-then-is_empty : goal.returns-then-is_empty
returns-then-is_empty c = empty_small c.args.v.now (eqb-true _ 0 (sym c.is_empty.ensures ∙ c.if-is_empty.true))

pub returns-then-v-gt4 : goal.returns-then-v-gt4
returns-then-v-gt4 c = long_listed c.args.v.now (omega arith)

pub returns-then-v-ge128 : goal.returns-then-v-ge128
returns-then-v-ge128 c = negative_listed c.args.v.now (some_byte c.args.v.now _ c.is_empty.ensures c.if-is_empty.false) (omega arith)

pub returns-then-v-eq4 : goal.returns-then-v-eq4
returns-then-v-eq4 c =
    first_decides c.args.v.now
    (each_byte c.args.v.now c.type_inv.v) (omega arith) (omega arith) (omega arith)

pub returns : goal.returns
returns c =
    short_small c.args.v.now
    (each_byte c.args.v.now c.type_inv.v)
    (some_byte c.args.v.now _ c.is_empty.ensures c.if-is_empty.false) (omega arith) (omega arith) (omega arith)
