-- `write_loop::write_full` meets its contract: a pair is opened, an atom stands for itself.
-- Assumes nothing.
use mathlib.Core.Path.{◌≡◌, sym, ◌∙◌}
use mathlib.Core.Bool.{true}
use Rattle.allocator.specs.Handle.{node_of, is_atom}
use Rattle.write_loop.proofs.write_turn.Atoms.{named_atom}
use Rattle.write_loop.proofs.write_turn.Values.{atom_turns}
use Rattle.write_loop.proofs.write_full.Goals as goal

pub returns-then-is_pair : goal.returns-then-is_pair
returns-then-is_pair c = let opened = c in opened.open_pair.ensures opened.args.file.now

pub returns : goal.returns
returns c =
    let atom : is_atom (node_of c.args.node.0) ≡ true =
    let s = c in named_atom _ _ (node_of s.args.node.0) s.requires.1.names (sym c.is_pair.ensures ∙ c.if-is_pair.false) in
    let pushed = c.push_value in
    let put = c in
    let no_pair = put in
    atom_turns pushed.auto.work put.write_atom-item.result pushed.ensures no_pair.requires.1 atom put.write_atom-item.ensures
