-- `search_bytes::stack_bits::push_ones` meets its contract: ones after ones.
-- Assumes nothing.
use Prim.Native.Nat.{ℕ, ◌+◌, ◌*◌, ◌-◌, ◌/◌, ◌%◌, ◌≤◌}
use mathlib.Core.Bool.{Bool}
use mathlib.Core.List.{List}
use mathlib.Core.Path.{◌≡◌, refl, ◌∙◌}
use native.Mathlib.Omega.{arith}
use Rattle.path_builder.specs.declared.PathBuilder.{PathBuilder}
use Rattle.path_builder.specs.Builder.{built}
use Rattle.search_list.specs.State.{trues}
use Rattle.search_bytes.specs.Built.{with_number, Holds}
use Rattle.search_bytes.proofs.Pushing.{ones_hold, ones_fits, ones_more}
use Rattle.search_bytes.proofs.stack_bits.push_ones.Goals as goal

-- The ones that fill the last byte: at most eight, and some of the n.
first_few : (b : ℕ) {f n : ℕ} → f ≡ (b + 1) % 8 → 8 ≤ n → (f ≤ 8) × (f ≤ n)
first_few b e h = (omega arith, omega arith)

-- They, and m more.
with_whole : {s s' : List ℕ} {p p' : PathBuilder} (bits : List Bool) (f m : ℕ) → f ≤ 8 → Holds s p (with_number f 0xff bits)
    → Holds s' p' (trues m (built s p)) → Holds s' p' (trues (m + f) bits)
with_whole bits f m h filled more = ones_more bits f m (m + f) (ones_hold f bits h filled) more refl

pub returns-then-ones-lt8 : goal.returns-then-ones-lt8
returns-then-ones-lt8 c =
    let a = c.args in
    ones_hold a.ones (built a.store.now a.builder) (omega (arith, c.if-ones-lt8.true)) c.push_number.ensures

pub push_bytes-whole-requires : goal.push_bytes-whole-requires
push_bytes-whole-requires c =
    let a = c.args in
    let first = c.from-first.result in
    let few = first_few c.args.builder.bit_pos c.from-first.ensures c.if-ones-lt8.false in
    let bits = built a.store.now a.builder in
    let f = c.push_number-filled in
    let filled = ones_hold first bits few.0 f.ensures in (
      f.ensures.sound,
      ones_fits a.store.now f.new.store f.result bits first (8 * ((a.ones - first) / 8)) a.ones c.requires.1 f.auto.store filled (omega (arith, few.1)),
    )

pub push_number-requires-2 : goal.push_number-requires-2
push_number-requires-2 c =
    let a = c.args in
    let first = c.from-first.result in
    let few = first_few c.args.builder.bit_pos c.from-first.ensures c.if-ones-lt8.false in
    let full = 8 * ((a.ones - first) / 8) in
    let bits = built a.store.now a.builder in
    let f = c.push_number-filled in
    let b = c.push_bytes-whole in
    let whole = with_whole bits first full few.0 f.ensures b.ensures in (
      b.ensures.sound,
      ones_fits a.store.now b.new.store b.result bits (full + first) ((a.ones - first) % 8) a.ones c.requires.1 (b.auto.store ∙ f.auto.store) whole
          (omega (arith, few.1)),
    )

pub returns : goal.returns
returns c =
    let n = c.args.ones in
    let first = c.from-first.result in
    let few = first_few c.args.builder.bit_pos c.from-first.ensures c.if-ones-lt8.false in
    let full = 8 * ((n - first) / 8) in
    let bits = built c.args.store.now c.args.builder in
    let b = c.push_bytes-whole in
    let whole = with_whole bits first full few.0 c.push_number-filled.ensures b.ensures in
    ones_more bits (full + first) ((n - first) % 8) n whole
    (ones_hold ((n - first) % 8) (built b.new.store b.result) (omega arith) c.push_number-2.ensures) (omega (arith, few.1))
