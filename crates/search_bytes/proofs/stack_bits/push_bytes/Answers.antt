-- `search_bytes::stack_bits::push_bytes` meets its contract. The loop's invariant: with the ones that are left, the builder holds what it is to hold.
-- Assumes nothing.
use Prim.Native.Nat.{ℕ, ◌+◌, ◌*◌, ◌-◌}
use mathlib.Core.Path.{◌≡◌, ap}
use native.Mathlib.Omega.{arith}
use Rattle.path_builder.specs.Builder.{built}
use Rattle.search_list.specs.State.{trues}
use Rattle.search_bytes.proofs.Pushing.{push_start, push_fits, push_more, push_end, ones_next}
use Rattle.search_bytes.proofs.stack_bits.push_bytes.Goals as goal

pub loop-init : goal.loop-init
loop-init c =
    let a = c.args in
    let all : a.bytes - 0 ≡ a.bytes = omega arith in
    rw all (push_start a.store.now a.builder (8 * a.bytes) (trues (8 * a.bytes)) c.requires.0)

pub push_eight-longer-requires : goal.push_eight-longer-requires
push_eight-longer-requires c =
    let m = c.loop.invariant in
    (m.sound, push_fits m (omega (arith, c.loop-test.true)) c.requires.1)

pub loop-preserved : goal.loop-preserved
loop-preserved c =
    let p = c.push_eight-longer in
    let l = c.loop in
    let left : ℕ = 8 * (c.args.bytes - l.counter) in
    let next : ℕ = 8 * (c.args.bytes - (l.counter + 1)) in
    push_more l.invariant next (trues next) p.ensures p.auto.store (omega (arith, c.loop-test.true))
    (ones_next left next 8 (built l.store l.longer) (omega (arith, c.loop-test.true)))

pub returns : goal.returns
returns c =
    let l = c.loop in
    let e : 8 * (c.args.bytes - l.counter) ≡ 0 = omega (arith, c.loop-test.false) in
    push_end l.invariant (ap (λ (n : ℕ). trues n (built l.store l.longer)) e)
