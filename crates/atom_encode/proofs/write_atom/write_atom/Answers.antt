-- `atom_encode::write_atom::write_atom` meets its contract.
-- Assumes nothing.
use mathlib.Core.Path.{sym, ◌∙◌}
use native.Mathlib.Omega.{arith}
use Rattle.std.proofs.lemmas.Result.{err_from_is_err_and}
use Rattle.atom.specs.PrefixLaws.{prefixed}
use Rattle.atom.specs.WriteLaws.{put_too_long, put_no_room, put_prefixed}
use Rattle.atom_encode.proofs.Writing.{width_known, none_known}
use Rattle.atom_encode.proofs.write_atom.write_atom.Goals as goal

pub returns-in_err-width : goal.returns-in_err-width
returns-in_err-width c =
    let a = c.args in
    let p = err_from_is_err_and c.from_residual.result c.from_residual.ensures.1 in
    let n = none_known a.atom.now _ c.prefix_width.result c.in_err-width.field-0.0 c.prefix_width.ensures (sym c.ok_or.ensures.value ∙ c.in_err-width.was) in
    rw (p.1, p.2, n.1) (put_too_long a.output.now a.position a.atom.now n.0, tt)

pub overflow_add-total : goal.overflow_add-total
overflow_add-total c =
    let a = c.args in
    let k = width_known a.atom.now _ c.prefix_width.result c.in_ok-width.width c.prefix_width.ensures (sym c.ok_or.ensures.value ∙ c.in_ok-width.was) in
    let p = prefixed _ _ k in
    omega (arith, p.five, p.limit)

pub returns-then-output-total : goal.returns-then-output-total
returns-then-output-total c =
    let a = c.args in
    let k = width_known a.atom.now _ c.prefix_width.result c.in_ok-width.width c.prefix_width.ensures (sym c.ok_or.ensures.value ∙ c.in_ok-width.was) in
    (put_no_room a.output.now a.position a.atom.now _ k (omega arith), tt)

pub returns-then-output-total-2 : goal.returns-then-output-total-2
returns-then-output-total-2 c =
    let a = c.args in
    let k = width_known a.atom.now _ c.prefix_width.result c.in_ok-width.width c.prefix_width.ensures (sym c.ok_or.ensures.value ∙ c.in_ok-width.was) in
    (put_no_room a.output.now a.position a.atom.now _ k (omega arith), tt)

pub write_prefix-requires : goal.write_prefix-requires
write_prefix-requires c =
    let a = c.args in
    let k = width_known a.atom.now _ c.prefix_width.result c.in_ok-width.width c.prefix_width.ensures (sym c.ok_or.ensures.value ∙ c.in_ok-width.was) in
    let p = prefixed _ _ k in
    (p.five, p.limit, omega arith)

pub returns : goal.returns
returns c =
    let a = c.args in
    let k = width_known a.atom.now _ c.prefix_width.result c.in_ok-width.width c.prefix_width.ensures (sym c.ok_or.ensures.value ∙ c.in_ok-width.was) in
    (put_prefixed a.output.now a.position a.atom.now _ c.write_prefix.new.output c.copy_bytes.new.to k (omega arith) c.write_prefix.ensures c.copy_bytes.ensures, k)
