-- `read_call::nikvoldra_read` gives the answer and leaves the slices as the reading call's definition says, and so as it promises.
-- Assumes nothing.
use Prim.Native.Nat.{ℕ, ◌<◌}
use mathlib.Core.Path.{sym, ◌∙◌}
use native.Mathlib.Omega.{arith}
use Rattle.words.specs.Lists.{Bytes, all_of}
use Rattle.read_call.proofs.Answers.{too_short, too_long, within, promised}
use Rattle.read_call.proofs.nikvoldra_read.Goals as goal

pub returns-then-not-long_enough : goal.returns-then-not-long_enough
returns-then-not-long_enough c =
    let bytes : Bytes c.args.input.now =
    all_of (λ (n : ℕ). n < 256) c.args.input.now 0 (λ i l. omega (arith, c.type_inv.input i)) in
    let tested = c in
    let t = tested.long_enough in
    let the_facts = promised _ bytes _ _ (too_short _ _ _ _ _ t.result t.ensures c.if-not-long_enough.true _ c.refusal.ensures) in
    record { bytes_after = the_facts.0; reads_plainly = the_facts.1 }

pub returns-then-input-gt65535 : goal.returns-then-input-gt65535
returns-then-input-gt65535 c =
    let bytes : Bytes c.args.input.now =
    all_of (λ (n : ℕ). n < 256) c.args.input.now 0 (λ i l. omega (arith, c.type_inv.input i)) in
    let tested = c in
    let t = tested.long_enough in
    let the_facts = promised _ bytes _ _
    (too_long _ _ _ _ _ t.result t.ensures c.if-not-long_enough.false (omega (arith, c.if-input-gt65535)) _ c.refusal-then-input-gt65535.ensures) in
    record { bytes_after = the_facts.0; reads_plainly = the_facts.1 }

pub read_in-requires : goal.read_in-requires
read_in-requires c =
    let short = c in
    let t = short.long_enough in
    (sym t.ensures ∙ short.if-not-long_enough.false, omega (arith, short.if-input-gt65535))

pub returns : goal.returns
returns c =
    let bytes : Bytes c.args.input.now =
    all_of (λ (n : ℕ). n < 256) c.args.input.now 0 (λ i l. omega (arith, c.type_inv.input i)) in
    let read = c in
    let short = read in
    let tested = short in
    let t = tested.long_enough in
    let the_facts = promised _ bytes _ _
    (within _ _ _ _ _ t.result t.ensures short.if-not-long_enough.false (omega (arith, short.if-input-gt65535)) _ read.read_in.ensures) in
    record { bytes_after = the_facts.0; reads_plainly = the_facts.1 }
