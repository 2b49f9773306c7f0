-- `session_begin::begin` asks questions 1 to 8, and loads the file where all get yes.
-- Assumes nothing.
use Prim.Native.Nat.{ℕ, ◌<◌}
use mathlib.Core.Path.{sym, ◌∙◌}
use native.Mathlib.Omega.{arith}
use Rattle.words.specs.Lists.{Bytes, all_of}
use Rattle.session_begin.proofs.Asking.{begin_short, begin_refused, open_asks, begin_run}
use Rattle.session_begin.proofs.begin.Goals as goal

pub returns-then-not-long_enough : goal.returns-then-not-long_enough
returns-then-not-long_enough c =
    let a = c.args in
    let bytes : Bytes a.file.now = all_of (λ (n : ℕ). n < 256) a.file.now 0 (λ i m. omega (arith, c.type_inv.file i)) in
    (bytes, begin_short a.measure a.file.now a.work.now a.words a.records (sym c.long_enough.ensures ∙ c.if-not-long_enough.true) c.refused.ensures)

pub returns-in-Err : goal.returns-in-Err
returns-in-Err c =
    let a = c.args in
    let bytes : Bytes a.file.now = all_of (λ (n : ℕ). n < 256) a.file.now 0 (λ i m. omega (arith, c.type_inv.file i)) in
    let long = sym c.long_enough.ensures ∙ c.if-not-long_enough.false in
    (bytes, begin_refused a.measure a.file.now a.work.now a.words a.records long c.in-Err.error c.in-Err.ensures (rw (← c.from.ensures) c.refused-in-Err.ensures))

pub open-requires : goal.open-requires
open-requires c =
    let a = c.args in
    let long = sym c.long_enough.ensures ∙ c.if-not-long_enough.false in
    open_asks a.measure a.file.now a.work.now a.words a.records long c.in-Ok.checked c.in-Ok.ensures

pub returns : goal.returns
returns c =
    let a = c.args in
    let bytes : Bytes a.file.now = all_of (λ (n : ℕ). n < 256) a.file.now 0 (λ i m. omega (arith, c.type_inv.file i)) in
    let long = sym c.long_enough.ensures ∙ c.if-not-long_enough.false in
    let o = c.open in (
      bytes,
      begin_run a.measure a.file.now a.work.now a.words a.records long c.in-Ok.checked c.in-Ok.ensures o.new.work o.auto.work o.ensures
          c.has_forget-forgets.ensures c.started.ensures,
    )
