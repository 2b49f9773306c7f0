-- `atom_decode::decode_size::decode_size_with_offset` meets its contract: an answer for each test, in the Rust's order.
-- Assumes nothing.
use mathlib.Core.Path.{◌∙◌}
use native.Mathlib.Omega.{arith}
use Rattle.atom_decode.proofs.decode_size.Decoding.{first, read, decode_one, decode_seven, decode_short, decode_large, decode_long, decode_byte, decode_right}
use Rattle.atom_decode.proofs.decode_size.decode_size_with_offset.Goals as goal

pub returns-then-width-gt6 : goal.returns-then-width-gt6
returns-then-width-gt6 c =
    let a = c.args in
    decode_seven (first a.input.now a.position c.requires c.type_inv.input c.leading_ones-width.ensures) c.if-width-gt6.true

pub returns-then-input-position : goal.returns-then-input-position
returns-then-input-position c =
    let a = c.args in
    decode_short (first a.input.now a.position c.requires c.type_inv.input c.leading_ones-width.ensures) c.if-width-gt6.false c.if-input-position.true

pub overflow_sub-width : goal.overflow_sub-width
overflow_sub-width c = let a = c.args in decode_one (first a.input.now a.position c.requires c.type_inv.input c.leading_ones-width.ensures)

pub returns-then-size-ge-SIZE_LIMIT : goal.returns-then-size-ge-SIZE_LIMIT
returns-then-size-ge-SIZE_LIMIT c =
    let a = c.args in
    let f = first a.input.now a.position c.requires c.type_inv.input c.leading_ones-width.ensures in
    decode_large (read f c.if-width-gt6.false c.if-input-position.false c.number_at-size.ensures) c.if-size-ge-SIZE_LIMIT.true

pub least_size-requires : goal.least_size-requires
least_size-requires c =
    let a = c.args in
    (decode_one (first a.input.now a.position c.requires c.type_inv.input c.leading_ones-width.ensures), c.if-width-gt6.false)

pub returns-then-size-least_size : goal.returns-then-size-least_size
returns-then-size-least_size c =
    let a = c.args in
    let f = first a.input.now a.position c.requires c.type_inv.input c.leading_ones-width.ensures in
    decode_long (read f c.if-width-gt6.false c.if-input-position.false c.number_at-size.ensures) c.if-size-ge-SIZE_LIMIT.false
    (omega (arith, c.least_size.ensures))

pub returns-then-size-eq1 : goal.returns-then-size-eq1
returns-then-size-eq1 c =
    let a = c.args in
    let f = first a.input.now a.position c.requires c.type_inv.input c.leading_ones-width.ensures in
    c.one_byte.ensures
    ∙ decode_byte (read f c.if-width-gt6.false c.if-input-position.false c.number_at-size.ensures) c.if-size-ge-SIZE_LIMIT.false
    (omega (arith, c.least_size.ensures)) c.if-size-eq1.true

pub returns : goal.returns
returns c =
    let a = c.args in
    let f = first a.input.now a.position c.requires c.type_inv.input c.leading_ones-width.ensures in
    decode_right (read f c.if-width-gt6.false c.if-input-position.false c.number_at-size.ensures) c.if-size-ge-SIZE_LIMIT.false
    (omega (arith, c.least_size.ensures)) c.if-size-eq1.false
