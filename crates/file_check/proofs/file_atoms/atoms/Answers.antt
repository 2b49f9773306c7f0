-- `atoms` meets its contract. The invariant: what is left gives what all would give.
-- Assumes nothing.
use mathlib.Core.Path.{refl}
use native.Mathlib.Omega.{arith}
use Rattle.std.proofs.lemmas.Result.{err_from_is_err_and}
use Rattle.file_parts.proofs.session_file.ListLaws.{atoms_refused, atoms_few, atoms_turn, atoms_end}
use Rattle.file_check.proofs.file_atoms.atoms.Goals as goal

pub returns-in_err-a : goal.returns-in_err-a
returns-in_err-a c =
    let p = err_from_is_err_and c.from_residual.result c.from_residual.ensures.1 in
    rw (p.1, p.2) (atoms_refused c.loop.invariant.1 (omega arith) _ c.in_err-a.ensures)

pub loop-preserved : goal.loop-preserved
loop-preserved c =
    let l = c.loop in
    let a = c.in_ok-a in
    (atoms_few l.invariant.1 (omega arith) a.a a.ensures, atoms_turn l.invariant.1 (omega arith) a.a a.ensures)

pub returns : goal.returns
returns c = let l = c.loop in atoms_end l.invariant.1 _ (omega arith) (omega arith) refl refl
