-- `write_loop::write_turn::open_pairs::open_pair` meets its contract: 12, then 13, then the pair's mark and its left side.
-- Assumes nothing.
use mathlib.Core.Path.{ap, ◌∙◌}
use Prim.Native.Nat.{ℕ, ◌+◌, ◌*◌}
use Rattle.words.specs.Words.{at}
use Rattle.work_layout.specs.Layout.{PAIRS}
use Rattle.write_loop.proofs.write_turn.Opening.{deep_turns, lacks_turns, opens_turns}
use Rattle.write_loop.proofs.write_turn.open_pairs.open_pair.Goals as goal

pub returns-then-opens-ge-MAX_OPEN : goal.returns-then-opens-ge-MAX_OPEN
returns-then-opens-ge-MAX_OPEN c =
    deep_turns c.args.node c.requires.0 c.requires.1 c.if-opens-ge-MAX_OPEN.true

pub returns-in_default : goal.returns-in_default
returns-in_default c =
    lacks_turns c.args.node c.requires.0 c.requires.1 c.if-opens-ge-MAX_OPEN.false c.write_cons.new.output (rw c.in_default.is at c.write_cons.ensures)

pub returns : goal.returns
returns c =
    opens_turns c.args.node c.requires.0 c.requires.1 c.if-opens-ge-MAX_OPEN.false c.write_cons.new.output c.in-Ok.counts c.index-2.result
    c.left_of-left.result c.index-2.ensures
    (c.left_of-left.ensures ∙ ap (λ (k : ℕ). at c.args.work.now (PAIRS + 2 * k)) c.index.ensures)
    (rw c.in-Ok.is at c.write_cons.ensures)
