-- `session_begin::clear_part` clears the words from one place up to another.
-- Assumes nothing.
use Prim.Native.Nat.{◌-◌}
use mathlib.Core.Path.{◌≡◌, ◌∙◌}
use native.Mathlib.Omega.{arith}
use lib.ListN.{length}
use Rattle.words.specs.Words.{part}
use Rattle.words.proofs.Words.{part_length}
use Rattle.session_begin.proofs.Opening.{part_clear}
use Rattle.session_begin.proofs.clear_part.Goals as goal

pub returns : goal.returns
unfolding part
returns c =
    let s = c in
    let r = c.fill in
    let w = s.args.work.now in
    let a = s.args.from in
    let b = s.args.to in
    let len : length (part w a (b - a)) ≡ b - a = part_length w a (b - a) (omega (arith, s.requires)) in
    part_clear w r.new.self a b s.requires.0 s.requires.1 (r.ensures.len ∙ len) (r.ensures.after (λ y e. e) ∙ rw len)
