-- `path_builder::PathBuilder::done` meets its contract: full bytes are right-aligned as they stand, others are shifted by the free places.
-- Assumes nothing.
use Prim.Native.Nat.{ℕ, ◌<◌}
use mathlib.Core.Path.{refl}
use native.Mathlib.Omega.{arith}
use Rattle.words.specs.Lists.{all_of}
use Rattle.path_builder.proofs.Counting.{done_full, done_part}
use Rattle.path_builder.proofs.PathBuilder.done.Goals as goal

pub returns-then-self-eq7 : goal.returns-then-self-eq7
returns-then-self-eq7 c =
    let a = c.args in
    done_full a.store.now a.self c.requires (all_of (λ (n : ℕ). n < 256) a.store.now 0 (λ i l. omega (arith, c.type_inv.store i))) c.if-self-eq7.true _ refl

pub returns : goal.returns
returns c =
    let a = c.args in
    done_part a.store.now a.self c.requires (all_of (λ (n : ℕ). n < 256) a.store.now 0 (λ i l. omega (arith, c.slice_known-1.given i))) c.if-self-eq7.false
    _ c.right_align.new.store refl c.right_align.ensures
