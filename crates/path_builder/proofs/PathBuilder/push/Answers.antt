-- `path_builder::PathBuilder::push` meets its contract: a new byte, or one place more of the last.
-- Assumes nothing.
use Prim.Native.Nat.{ℕ, ◌<◌}
use native.Mathlib.Omega.{arith}
use Rattle.words.specs.Lists.{Bytes, all_of}
use Rattle.path_builder.specs.Builder.{right}
use Rattle.path_builder.proofs.Building.{bit_small, next_within, last_fits, pushed}
use Rattle.path_builder.proofs.PathBuilder.push.Goals as goal

pub push_bit-requires : goal.push_bit-requires
push_bit-requires c =
    let bytes : Bytes c.args.store.now = all_of (λ (n : ℕ). n < 256) c.args.store.now 0 (λ i l. omega (arith, c.slice_known-1.given i)) in
    let a = c.args in
    let b = right a.dir in
    let sound = c.requires.0 in (
      sound.counts,
      omega (arith, c.from.ensures, bit_small b),
      next_within a.store.now a.self b sound c.requires.1 bytes,
      λ l. rw c.from.ensures (last_fits a.store.now a.self b sound c.requires.1 bytes (λ e. omega arith)),
    )

pub returns : goal.returns
returns c =
    let bytes : Bytes c.args.store.now = all_of (λ (n : ℕ). n < 256) c.args.store.now 0 (λ i l. omega (arith, c.slice_known-1.given i)) in
    let a = c.args in
    let p = c.push_bit in
    pushed a.store.now a.self (right a.dir) c.requires.0 c.requires.1 bytes c.from.result c.from.ensures p.new.store p.result p.ensures
