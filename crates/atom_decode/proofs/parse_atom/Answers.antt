-- `atom_decode::parse_atom` meets its contract.
-- Assumes nothing.
use mathlib.Core.Path.{sym, ◌∙◌}
use native.Mathlib.Omega.{arith}
use native.Mathlib.Nat.{add-zero}
use Rattle.std.proofs.lemmas.Result.{err_from_is_err_and}
use Rattle.atom.specs.ParseLaws.{at_end, at_single}
use Rattle.atom_decode.specs.Answers.{number}
use Rattle.atom_decode.proofs.Parsing.{parsed_refused, parsed_there, parsed_sized}
use Rattle.atom_decode.proofs.parse_atom.Goals as goal

pub returns-then-input-position : goal.returns-then-input-position
returns-then-input-position c = sym (at_end c.args.input.now c.args.position c.if-input-position.true)

pub returns-then-input-position-le-MAX_SINGLE_BYTE : goal.returns-then-input-position-le-MAX_SINGLE_BYTE
returns-then-input-position-le-MAX_SINGLE_BYTE c = let a = c.args in sym (at_single a.input.now a.position (omega arith) (omega arith) ∙ rw (add-zero a.position))

pub returns-in_err-offset : goal.returns-in_err-offset
returns-in_err-offset c =
    let a = c.args in
    let p = err_from_is_err_and c.from_residual.result c.from_residual.ensures.1 in
    rw (p.1, p.2)
    (parsed_refused a.input.now a.position (omega arith) c.if-input-position-le-MAX_SINGLE_BYTE.false (number c.in_err-offset.field-0.0) (sym c.in_err-offset.ensures))

pub overflow_add-position : goal.overflow_add-position
overflow_add-position c =
    let a = c.args in
    let o = c.in_ok-offset in
    omega (arith, parsed_there a.input.now a.position (omega arith) c.if-input-position-le-MAX_SINGLE_BYTE.false o.field-0.offset o.field-0.size (sym o.ensures))

pub whole_atom-requires : goal.whole_atom-requires
whole_atom-requires c =
    let a = c.args in
    let o = c.in_ok-offset in
    parsed_there a.input.now a.position (omega arith) c.if-input-position-le-MAX_SINGLE_BYTE.false o.field-0.offset o.field-0.size (sym o.ensures)

pub returns : goal.returns
returns c =
    let a = c.args in
    let o = c.in_ok-offset in
    c.whole_atom.ensures
    ∙ parsed_sized a.input.now a.position (omega arith) c.if-input-position-le-MAX_SINGLE_BYTE.false o.field-0.offset o.field-0.size (sym o.ensures)
