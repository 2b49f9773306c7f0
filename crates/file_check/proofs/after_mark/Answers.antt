-- `after_mark` meets its contract: part after part.
-- Assumes nothing.
use native.Mathlib.Omega.{arith}
use Rattle.std.proofs.lemmas.Result.{err_from_is_err_and}
use Rattle.file_parts.proofs.session_file.CheckLaws.{counts_taken, pairs_turned, pairs_taken, sentinel_turned, parts_taken, steps_turned, passed, pairs_left, steps_left, left_short}
use Rattle.file_check.proofs.after_mark.Goals as goal

pub returns-in_err-pairs : goal.returns-in_err-pairs
returns-in_err-pairs c =
    let p = err_from_is_err_and c.from_residual-in_err-pairs.result c.from_residual-in_err-pairs.ensures.1 in
    let s = counts_taken c.args.file.now _ _ _ c.in_ok-atom_count.ensures c.in_ok-atoms.ensures c.in_ok-pair_count.ensures in
    rw (p.1, p.2) (pairs_turned s _ c.in_err-pairs.ensures)

pub returns-in_err-sentinel : goal.returns-in_err-sentinel
returns-in_err-sentinel c =
    let p = err_from_is_err_and c.from_residual-in_err-sentinel.result c.from_residual-in_err-sentinel.ensures.1 in
    let s = counts_taken c.args.file.now _ _ _ c.in_ok-atom_count.ensures c.in_ok-atoms.ensures c.in_ok-pair_count.ensures in
    rw (p.1, p.2) (sentinel_turned (pairs_taken s _ c.in_ok-pairs.ensures) _ c.in_err-sentinel.ensures)

pub returns-in_err-steps : goal.returns-in_err-steps
returns-in_err-steps c =
    let p = err_from_is_err_and c.from_residual-in_err-steps.result c.from_residual-in_err-steps.ensures.1 in
    let s = parts_taken c.args.file.now _ _ _ _ _ c.in_ok-atom_count.ensures c.in_ok-atoms.ensures c.in_ok-pair_count.ensures c.in_ok-pairs.ensures c.in_ok-sentinel.ensures in
    rw (p.1, p.2) (steps_turned s _ c.in_err-steps.ensures)

pub overflow_sub-result : goal.overflow_sub-result
overflow_sub-result c =
    let s = counts_taken c.args.file.now _ _ _ c.in_ok-atom_count.ensures c.in_ok-atoms.ensures c.in_ok-pair_count.ensures in
    omega (arith, left_short (pairs_left s))

pub overflow_sub-result-2 : goal.overflow_sub-result-2
overflow_sub-result-2 c =
    let s = parts_taken c.args.file.now _ _ _ _ _ c.in_ok-atom_count.ensures c.in_ok-atoms.ensures c.in_ok-pair_count.ensures c.in_ok-pairs.ensures c.in_ok-sentinel.ensures in
    omega (arith, left_short (steps_left s))

pub returns : goal.returns
returns c =
    let s = parts_taken c.args.file.now _ _ _ _ _ c.in_ok-atom_count.ensures c.in_ok-atoms.ensures c.in_ok-pair_count.ensures c.in_ok-pairs.ensures c.in_ok-sentinel.ensures in
    passed s _ c.in_ok-steps.ensures c.requires.1
