-- `read_path::traverse_path_with_vec` meets its contract, by the number of set bits in front: as many as values, as many as bits, or fewer.
-- Assumes nothing.
use mathlib.Core.Path.{sym, ap, ◌∙◌}
use native.Mathlib.Omega.{arith}
use Rattle.std.specs.Prelude.{Ok, Err}
use Rattle.std.proofs.lemmas.Result.{err_from_is_err_and}
use Rattle.words.specs.Options.{option_of}
use Rattle.read_path.proofs.Leading.{counted_none, taken, count_short, leads_nil, leads_below, leads_value, leads_list}
use Rattle.read_path.proofs.Leading.{nil_reachable, value_reachable, fewer_room, lists_of}
use Rattle.read_path.proofs.traverse_path_with_vec.Goals as goal

pub returns-in_default-clause-leads_to : goal.returns-in_default-clause-leads_to
returns-in_default-clause-leads_to c =
    leads_nil _ _ _ _ _ _ _ (lists_of c.requires.1) (counted_none _ (sym (ap option_of c.in_default.is) ∙ c.path_bits.ensures))

pub stack_steps-steps-requires : goal.stack_steps-steps-requires
stack_steps-steps-requires c =
    count_short c.args.path.now _ (λ i. omega (arith, c.type_inv.path i)) (sym (ap option_of c.in-Some.is) ∙ c.path_bits.ensures)

pub walk_bits-requires : goal.walk_bits-requires
walk_bits-requires c =
    let k = taken _ c.in-Some.count c.stack_steps-steps.result c.args.values (sym (ap option_of c.in-Some.is) ∙ c.path_bits.ensures) c.stack_steps-steps.ensures in
    (k.within.0, count_short c.args.path.now _ (λ i. omega (arith, c.type_inv.path i)) (sym (ap option_of c.in-Some.is) ∙ c.path_bits.ensures), nil_reachable _ _ _ _ _ _ c.requires.1)

pub returns-in_err-node-clause-leads_to : goal.returns-in_err-node-clause-leads_to
returns-in_err-node-clause-leads_to c =
    let k = taken _ c.in-Some.count c.stack_steps-steps.result c.args.values (sym (ap option_of c.in-Some.is) ∙ c.path_bits.ensures) c.stack_steps-steps.ensures in
    let e = err_from_is_err_and c.from_residual.result c.from_residual.ensures.1 in
    rw e.1 (leads_below _ _ _ _ _ _ _ (lists_of c.requires.1) _ k.has _ k.steps_are (Err c.in_err-node.field-0.0) c.if-steps-values.true (c.in_err-node.ensures k.has.bits k.has.is k.has.long))

pub returns-then-steps-values-clause-leads_to : goal.returns-then-steps-values-clause-leads_to
returns-then-steps-values-clause-leads_to c =
    let k = taken _ c.in-Some.count c.stack_steps-steps.result c.args.values (sym (ap option_of c.in-Some.is) ∙ c.path_bits.ensures) c.stack_steps-steps.ensures in
    leads_below _ _ _ _ _ _ _ (lists_of c.requires.1) _ k.has _ k.steps_are (Ok c.in_ok-node.node) c.if-steps-values.true (c.in_ok-node.ensures k.has.bits k.has.is k.has.long)

pub overflow_sub-values : goal.overflow_sub-values
overflow_sub-values c =
    let k = taken _ c.in-Some.count c.stack_steps-steps.result c.args.values (sym (ap option_of c.in-Some.is) ∙ c.path_bits.ensures) c.stack_steps-steps.ensures in
    omega (arith, k.within.1)

pub build_list-requires : goal.build_list-requires
build_list-requires c =
    let k = taken _ c.in-Some.count c.stack_steps-steps.result c.args.values (sym (ap option_of c.in-Some.is) ∙ c.path_bits.ensures) c.stack_steps-steps.ensures in
    fewer_room _ _ _ _ _ _ _ c.requires.1.room k.within.1

pub returns-then-steps-count-clause-leads_to : goal.returns-then-steps-count-clause-leads_to
returns-then-steps-count-clause-leads_to c =
    let k = taken _ c.in-Some.count c.stack_steps-steps.result c.args.values (sym (ap option_of c.in-Some.is) ∙ c.path_bits.ensures) c.stack_steps-steps.ensures in
    leads_list _ _ _ _ _ _ _ (lists_of c.requires.1) _ k.has _ k.steps_are _ _ _ (omega (arith, k.within.1, c.if-steps-values.false)) c.if-steps-count.true c.build_list.ensures

pub overflow_sub-value : goal.overflow_sub-value
overflow_sub-value c =
    let k = taken _ c.in-Some.count c.stack_steps-steps.result c.args.values (sym (ap option_of c.in-Some.is) ∙ c.path_bits.ensures) c.stack_steps-steps.ensures in
    omega (arith, k.within.1, c.if-steps-values.false)

pub overflow_sub-value-2 : goal.overflow_sub-value-2
overflow_sub-value-2 c =
    let k = taken _ c.in-Some.count c.stack_steps-steps.result c.args.values (sym (ap option_of c.in-Some.is) ∙ c.path_bits.ensures) c.stack_steps-steps.ensures in
    omega (arith, k.within.1, c.if-steps-values.false)

pub overflow_add-steps : goal.overflow_add-steps
overflow_add-steps c =
    let k = taken _ c.in-Some.count c.stack_steps-steps.result c.args.values (sym (ap option_of c.in-Some.is) ∙ c.path_bits.ensures) c.stack_steps-steps.ensures in
    omega (arith, k.within.1, c.requires.1.room.few)

pub walk_bits-requires-2 : goal.walk_bits-requires-2
walk_bits-requires-2 c =
    let k = taken _ c.in-Some.count c.stack_steps-steps.result c.args.values (sym (ap option_of c.in-Some.is) ∙ c.path_bits.ensures) c.stack_steps-steps.ensures in (
      omega (arith, k.within.0, c.if-steps-count.false),
      count_short c.args.path.now _ (λ i. omega (arith, c.type_inv.path i)) (sym (ap option_of c.in-Some.is) ∙ c.path_bits.ensures),
      value_reachable _ _ _ _ _ _ c.requires.1 _ (omega (arith, k.within.1, c.if-steps-values.false)),
    )

pub returns-in_err-node-2-clause-leads_to : goal.returns-in_err-node-2-clause-leads_to
returns-in_err-node-2-clause-leads_to c =
    let k = taken _ c.in-Some.count c.stack_steps-steps.result c.args.values (sym (ap option_of c.in-Some.is) ∙ c.path_bits.ensures) c.stack_steps-steps.ensures in
    let e = err_from_is_err_and c.from_residual-in_err-node-2.result c.from_residual-in_err-node-2.ensures.1 in
    rw e.1
    (leads_value _ _ _ _ _ _ _ (lists_of c.requires.1) _ k.has _ k.steps_are (Err c.in_err-node-2.field-0.0) (omega (arith, k.within.1, c.if-steps-values.false))
    (omega (arith, k.within.0, c.if-steps-count.false)) (c.in_err-node-2.ensures k.has.bits k.has.is k.has.long))

pub returns-clause-leads_to : goal.returns-clause-leads_to
returns-clause-leads_to c =
    let k = taken _ c.in-Some.count c.stack_steps-steps.result c.args.values (sym (ap option_of c.in-Some.is) ∙ c.path_bits.ensures) c.stack_steps-steps.ensures in
    leads_value _ _ _ _ _ _ _ (lists_of c.requires.1) _ k.has _ k.steps_are (Ok c.in_ok-node-2.node) (omega (arith, k.within.1, c.if-steps-values.false))
    (omega (arith, k.within.0, c.if-steps-count.false)) (c.in_ok-node-2.ensures k.has.bits k.has.is k.has.long)
