-- `search_bytes::push_number::push_number` meets its contract. The loop's invariant: with the bits that are left, the builder holds what it is to hold.
-- Assumes nothing.
use Prim.Native.Nat.{ℕ, ◌+◌, ◌-◌}
use mathlib.Core.Path.{◌≡◌, ap}
use native.Mathlib.Omega.{arith}
use Rattle.path_builder.specs.Builder.{built}
use Rattle.search_bytes.specs.Built.{with_number}
use Rattle.search_bytes.proofs.Pushing.{one_holds, push_start, push_room, push_more, push_end, number_next}
use Rattle.search_bytes.proofs.push_number.push_number.Goals as goal

pub loop-init : goal.loop-init
loop-init c =
    let a = c.args in
    let all : a.count - 0 ≡ a.count = omega arith in
    rw all (push_start a.store.now a.builder a.count (with_number a.count a.number) c.requires.0)

pub push-longer-requires : goal.push-longer-requires
push-longer-requires c =
    let m = c.loop.invariant in
    (m.sound, push_room m (omega (arith, c.loop-test.true)) c.requires.1)

pub loop-preserved : goal.loop-preserved
loop-preserved c =
    let p = c.push-longer in
    let l = c.loop in
    let left : ℕ = c.args.count - l.counter in
    let one_less : c.args.count - (l.counter + 1) ≡ left - 1 = omega arith in
    rw one_less
    (push_more l.invariant (left - 1) _ (one_holds p.ensures) p.auto.store (omega (arith, c.loop-test.true))
    (number_next left l.rest _ _ (omega (arith, c.loop-test.true)) c.lowest_step.ensures))

pub returns : goal.returns
returns c =
    let l = c.loop in
    let e : c.args.count - l.counter ≡ 0 = omega (arith, c.loop-test.false) in
    push_end l.invariant (ap (λ (n : ℕ). with_number n l.rest (built l.store l.longer)) e)
