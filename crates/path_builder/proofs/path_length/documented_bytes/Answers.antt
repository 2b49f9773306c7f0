-- `path_builder::path_length::documented_bytes` meets its contract: a byte that stands for itself, and the shortest prefix.
-- Assumes nothing.
use native.Mathlib.Omega.{arith}
use Rattle.atom.specs.PrefixLaws.{width_carries}
use Rattle.path_builder.proofs.path_length.Documented.{documented_sized}
use Rattle.path_builder.proofs.path_length.documented_bytes.Goals as goal

pub overflow_cast-result : goal.overflow_cast-result
overflow_cast-result c = let r = c.shortest_width in omega (arith, (width_carries _ r.result r.ensures).five)

pub overflow_add-result : goal.overflow_add-result
overflow_add-result c = let r = c.shortest_width in omega (arith, (width_carries _ r.result r.ensures).five)

pub returns : goal.returns
returns c =
    let a = c.args in
    let r = c.shortest_width in
    documented_sized a.full a.bytes r.result (omega arith) (rw c.from.ensures at r.ensures) c.else-bytes-eq1.either
