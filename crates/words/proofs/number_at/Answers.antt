-- `words::number_at` meets its contract.
-- Assumes nothing.
use Rattle.std.proofs.Common.{◌≡◌, ◌<◌, ℕ, ◌+◌, ◌-◌, ap, ◌∙◌, arith, take, drop, get_or, length-take}
use Rattle.std.proofs.Math.Seq.{take_all}
use Rattle.words.specs.BigEndian.{number_after}
use Rattle.words.specs.Words.{part}
use Rattle.words.proofs.Words.{part_at}
use Rattle.words.proofs.Numbers.{number_turn, pow_bound}
use Rattle.words.proofs.number_at.Goals as goal

pub loop-byte-init : goal.loop-byte-init
unfolding number_after
loop-byte-init c = (omega arith, omega arith)

pub overflow_mul-value : goal.overflow_mul-value
overflow_mul-value c = omega (arith, pow_bound c.loop-byte.byte-index (omega (arith, length-take {A = ℕ})))

pub overflow_add-value : goal.overflow_add-value
overflow_add-value c = omega (arith, pow_bound c.loop-byte.byte-index (omega (arith, length-take {A = ℕ})))

pub loop-byte-preserved : goal.loop-byte-preserved
unfolding part
loop-byte-preserved c =
    let i = c.loop-byte.byte-index in
    let a = c.args in
    let n = a.position + a.count - a.position in
    let b : get_or (take n (drop a.position a.input.now)) i 0 < 256 =
    rw (part_at a.input.now a.position n i (omega (arith, length-take {A = ℕ}))) (omega (arith, c.type_inv.input (a.position + i))) in
    rw c.from.ensures (number_turn (take n (drop a.position a.input.now)) i a.first c.loop-byte.value c.loop-byte-test.true b c.loop-byte.invariant)

pub returns : goal.returns
unfolding part
returns c =
    let a = c.args in
    let n : a.position + a.count - a.position ≡ a.count = omega arith in
    c.loop-byte.invariant.0 ∙ ap (number_after a.first) (take_all _ _ c.loop-byte-test.false) ∙ ap (λ (k : ℕ). number_after a.first (take k (drop a.position a.input.now))) n
