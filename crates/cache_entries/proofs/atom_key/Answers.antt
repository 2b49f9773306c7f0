-- `cache_entries::atom_key` meets its contract: the first listed atom with the same bytes, or the small atom itself.
-- Assumes nothing.
use Rattle.std.proofs.Common.{ℕ, ◌+◌, sym, ap, ◌∙◌}
use Rattle.work_layout.specs.Layout.{FIRST}
use Rattle.allocator.specs.Handle.{listed_atom, handle_of}
use Rattle.words.specs.Words.{at}
use Rattle.cache_entries.proofs.Atoms.{stands_listed}
use Rattle.cache_entries.proofs.atom_key.Goals as goal

pub returns-then-is_listed : goal.returns-then-is_listed
returns-then-is_listed c =
    let f = c.first_of-first.ensures ∙ ap (λ (k : ℕ). at c.args.work.now (FIRST + k)) c.index.ensures in
    stands_listed c.args.work.now c.args.h.0 c.requires.0 c.requires.1 (sym c.is_listed.ensures ∙ c.if-is_listed.true) c.bytes.result.0
    (c.bytes.ensures ∙ ap (λ (k : ℕ). handle_of (listed_atom k)) f)
