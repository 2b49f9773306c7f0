-- `write_loop::write_turn::write_atom` meets its contract: a listed atom from the file, a small one from its value.
-- Assumes nothing.
use native.Mathlib.Omega.{arith}
use mathlib.Core.Path.{◌≡◌, sym, ◌∙◌}
use mathlib.Core.Bool.{true}
use Rattle.allocator.specs.Handle.{node_of}
use Rattle.cache_entries.specs.Effects.{is_listed}
use Rattle.cache_entries.proofs.Atoms.{index_low}
use Rattle.write_loop.proofs.write_turn.Atoms.{listed_put, small_put}
use Rattle.write_loop.proofs.write_turn.write_atom.Goals as goal

pub returns-then-is_listed : goal.returns-then-is_listed
returns-then-is_listed c =
    let listed : is_listed (node_of c.args.node.0) ≡ true =
    sym c.is_listed.ensures ∙ c.if-is_listed.true in
    let x = c in
    let s = x in
    listed_put s.requires.1 s.requires.3 x.index.result s.requires.2 listed x.index.ensures c.write_listed.ensures

pub write_small-requires : goal.write_small-requires
write_small-requires c = let s = c in (s.requires.0, omega (arith, c.index-2.ensures, index_low s.args.node.0))

pub returns : goal.returns
returns c =
    let x = c in
    let s = x in
    small_put s.requires.1 s.requires.3 x.index-2.result (sym x.is_listed.ensures ∙ x.if-is_listed.false) s.requires.4 x.index-2.ensures
    c.write_small.ensures
