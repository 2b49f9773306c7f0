-- `read_path::path_walk::stack_steps` meets its contract. The loop's invariant: the set bits in front are those passed and those in front of the rest.
-- Assumes nothing.
use mathlib.Core.Path.{sym, ◌∙◌}
use native.Mathlib.Omega.{arith}
use Rattle.read_path.proofs.path_walk.Walking.{down_stop, down_more, down_most}
use Rattle.read_path.proofs.path_walk.stack_steps.Goals as goal

pub returns-then-not-path_bit : goal.returns-then-not-path_bit
returns-then-not-path_bit c =
    λ bits e l. down_stop bits c.args.depth c.loop-i.i (c.loop-i.invariant bits e l) (omega (arith, c.min-most.ensures))
    (sym (c.path_bit.ensures bits e (omega (arith, c.min-most.ensures))) ∙ c.if-not-path_bit.true)

pub loop-i-preserved : goal.loop-i-preserved
loop-i-preserved c =
    λ bits e l. down_more bits c.args.depth c.loop-i.i (c.loop-i.invariant bits e l) (omega (arith, c.min-most.ensures)) (omega (arith, c.min-most.ensures))
    (sym (c.path_bit.ensures bits e (omega (arith, c.min-most.ensures))) ∙ c.if-not-path_bit.false)

pub returns : goal.returns
returns c =
    λ bits e l. down_most bits c.args.depth c.loop-i.i (c.loop-i.invariant bits e l) c.min-most.result (omega (arith, c.min-most.ensures)) (omega arith)
