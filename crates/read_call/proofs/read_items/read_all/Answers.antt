-- `read_call::read_items::read_all` reads every item as the definition says.
-- Assumes nothing.
use Prim.Native.Nat.{◌-◌}
use mathlib.Core.Path.{◌≡◌, ap, subst, ◌∙◌}
use native.Mathlib.Omega.{arith}
use lib.ListN.{length}
use Rattle.std.specs.Prelude.{Result, Ok}
use Rattle.std.proofs.lemmas.Result.{err_from_is_err_and}
use Rattle.read_item.specs.declared.read_error.ReadError.{ReadError}
use Rattle.read_item.specs.declared.settle.Item.{Item}
use Rattle.read_call.proofs.read_items.Items.{Reads, reads_start, reads_none, reads_go, reads_whole, reads_refused}
use Rattle.read_call.proofs.read_items.read_all.Goals as goal

pub loop-init : goal.loop-init
loop-init c =
    let all : length c.args.input.now ≡ length c.args.input.now - 0 = omega arith in
    subst (Reads _ _ _ _ _ _) all (reads_start _ _ _ _ _ c.requires)

pub next_item-requires : goal.next_item-requires
next_item-requires c = c.loop.invariant.stands

pub returns-in_err-next : goal.returns-in_err-next
returns-in_err-next c =
    let e = err_from_is_err_and c.from_residual.result c.from_residual.ensures.1 in
    rw (e.1, e.2) (reads_refused _ _ _ _ _ _ _ c.loop.invariant (omega arith) _ _ _ _ c.in_err-next.field-0.0 c.in_err-next.ensures)

pub returns-in-Whole : goal.returns-in-Whole
returns-in-Whole c =
    let s = rw (c.in_ok-next.was ∙ ap {B = Result Item ReadError} Ok c.in-Whole.is) at c.next_item.ensures in
    reads_whole _ _ _ _ _ _ _ c.loop.invariant (omega arith) _ _ _ _ c.in-Whole.last s

pub loop-preserved : goal.loop-preserved
loop-preserved c =
    let s = rw (c.in_ok-next.was ∙ ap {B = Result Item ReadError} Ok c.in-Go.is) at c.next_item.ensures in
    reads_go _ _ _ _ _ _ _ c.loop.invariant (omega arith) _ _ _ _ c.in-Go.next s _ (omega arith)

pub returns : goal.returns
returns c = reads_none _ _ _ _ _ _ _ c.loop.invariant (omega arith)
