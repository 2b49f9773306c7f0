-- `search_bytes::node_bits::push_node` meets its contract: where all bits are taken at once, none are before them.
-- Assumes nothing.
use mathlib.Core.Path.{refl}
use native.Mathlib.Omega.{arith}
use Rattle.search_list.specs.State.{node_bits}
use Rattle.search_bytes.specs.Built.{Holds}
use Rattle.search_bytes.proofs.Pushing.{no_bits, before_size, taken_fits, node_more}
use Rattle.search_bytes.proofs.node_bits.push_node.Goals as goal

pub push_number-requires : goal.push_number-requires
push_number-requires c =
    let none_before : Holds c.args.store.now c.new.result (node_bits c.args.work.now c.take_bits-all.result.before) =
    let t = c in
    no_bits _ c.new.ensures (omega (arith, before_size t.take_bits-all.ensures, t.len_of-n.ensures, c.requires.in_bounds.2)) in
    (none_before.sound, taken_fits c.take_bits-all.ensures c.requires.fits refl none_before)

pub returns-then-n-le64 : goal.returns-then-n-le64
returns-then-n-le64 c =
    let none_before : Holds c.args.store.now c.new.result (node_bits c.args.work.now c.take_bits-all.result.before) =
    let t = c in
    no_bits _ c.new.ensures (omega (arith, before_size t.take_bits-all.ensures, t.len_of-n.ensures, c.requires.in_bounds.2)) in
    let x = c in
    node_more x.take_bits-all.ensures none_before c.push_number.ensures
