-- `search_find::find_marked` meets its contract: the exceptions, and then the search.
-- Assumes nothing.
use mathlib.Core.Path.{◌≡◌, sym, ◌∙◌}
use mathlib.Core.Bool.{true}
use Rattle.cache_stack.specs.marks.Effects.{marked_at}
use Rattle.cache_stack.proofs.Stacks.{stacked_tops}
use Rattle.search_find.proofs.Finding.{finds_unmarked, finds_short, finds_path}
use native.Mathlib.Omega.{arith}
use Rattle.search_find.proofs.find_marked.Goals as goal

pub returns-then-not-is_marked : goal.returns-then-not-is_marked
returns-then-not-is_marked c = λ h named.
    let x = c in
    finds_unmarked named x.requires.3 (sym x.is_marked.ensures ∙ c.if-not-is_marked.true)

pub returns-then-len-lt-MIN_SERIALIZED_LENGTH : goal.returns-then-len-lt-MIN_SERIALIZED_LENGTH
returns-then-len-lt-MIN_SERIALIZED_LENGTH c =
    let marked : marked_at c.args.work.now c.args.e.0 ≡ true =
    sym c.is_marked.ensures ∙ c.if-not-is_marked.false in
    λ h named. let x = c in finds_short named x.requires.3 marked x.length_at-len.ensures c.if-len-lt-MIN_SERIALIZED_LENGTH.true

pub find_path-requires : goal.find_path-requires
find_path-requires c =
    let s = c in
    (s.requires.0.sound, stacked_tops s.args.work.now s.args.depth s.requires.1, s.requires.2, c.length_at-len.ensures.in_use (omega (arith, c.if-len-lt-MIN_SERIALIZED_LENGTH.false)))

pub returns : goal.returns
returns c =
    let marked : marked_at c.args.work.now c.args.e.0 ≡ true =
    sym c.is_marked.ensures ∙ c.if-not-is_marked.false in
    λ h named.
    let x = c in
    let s = x in
    finds_path s.requires.0.sound named s.requires.3 marked x.length_at-len.ensures
    c.if-len-lt-MIN_SERIALIZED_LENGTH.false c.find_path.ensures
