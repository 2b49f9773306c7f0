-- `add_parent` meets its contract: the list gets one parent more, or one of its 100 is overwritten.
-- Assumes nothing.
use Rattle.std.proofs.Common.{◌≡◌, ℕ, ◌+◌, ◌%◌, Bool, true, false, cond, refl, ap, ◌∙◌}
use Rattle.std.specs.Int.{from_bool}
use Rattle.cache_parents.proofs.Parents.{pushed, replaced}
use Rattle.cache_parents.proofs.add_parent.Goals as goal

position : (t : Bool) → from_bool t ≡ cond t 1 0
position true = refl
position false = refl

pub returns-then-n-lt-MAX_PARENTS : goal.returns-then-n-lt-MAX_PARENTS
returns-then-n-lt-MAX_PARENTS c =
    pushed c.args.work.now c.set_parent.new.work c.args.e.0 c.args.parent.0 c.new-link.result.0 c.count_of-n.result c.count_of-n.result c.args.right
    c.requires.0 c.requires.1 c.requires.2 c.new-link.ensures c.count_of-n.ensures.0 c.set_parent.ensures c.args.e.0 refl refl c.if-n-lt-MAX_PARENTS.true

pub returns-else-n-lt-MAX_PARENTS : goal.returns-else-n-lt-MAX_PARENTS
returns-else-n-lt-MAX_PARENTS c =
    replaced c.args.work.now c.set_parent-else-n-lt-MAX_PARENTS.new.work c.args.e.0 c.args.parent.0 c.new-link.result.0 c.count_of-n.result
    ((c.args.parent.0 + c.from.result) % 100) c.args.right c.requires.0 c.requires.1 c.requires.2 c.new-link.ensures c.count_of-n.ensures.0
    c.set_parent-else-n-lt-MAX_PARENTS.ensures (ap (λ (x : ℕ). (c.args.parent.0 + x) % 100) (c.from.ensures ∙ position c.args.right)) c.if-n-lt-MAX_PARENTS.false
