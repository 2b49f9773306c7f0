-- `cache_undo::cache_copy::take_off` meets its contract, turn by turn, and then the number of entries is stored.
-- Assumes nothing.
use Rattle.std.proofs.Common.{◌≡◌, ℕ, ◌-◌, arith, subst}
use Rattle.cache_undo.proofs.cache_copy.TakeLaws.{Taking, taking_more, taken_off}
use Rattle.cache_undo.proofs.cache_copy.take_off.Goals as goal

pub loop-e-preserved : goal.loop-e-preserved
loop-e-preserved c = (
  omega arith,
  taking_more c.args.work.now c.loop-e.work c.loop-e.e (c.loop-e.e - 1) c.slot_of-slot.result c.requires.0 (omega arith) (omega arith) c.slot_of-slot.ensures
      c.loop-e.invariant.1,
)

pub returns : goal.returns
returns c =
    let done : c.loop-e.e ≡ c.args.n = omega arith in
    taken_off c.args.work.now c.loop-e.work c.args.n c.requires.0.long (subst (λ (x : ℕ). Taking c.args.work.now c.loop-e.work x) done c.loop-e.invariant.1) (omega arith)
