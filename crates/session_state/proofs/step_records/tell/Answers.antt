-- `session_state::step_records::tell` writes the three words of a finished step, one after the other.
-- Assumes nothing.
use Prim.Native.Nat.{ℕ, suc, ◌+◌, ◌≤◌}
use mathlib.Core.List.{List, [], ◌∷◌}
use mathlib.Core.Path.{◌≡◌, ap, ◌∙◌}
use native.Mathlib.Omega.{arith}
use lib.ListN.{length, set}
use lib.Seq.{paste, sets-eq}
use Rattle.session_state.proofs.step_records.tell.Goals as goal

stored : (l : List ℕ) (i a b c : ℕ) → i + 3 ≤ length l → set (set (set l i a) (i + 1) b) (i + 2) c ≡ paste l i (a ∷ b ∷ c ∷ []) 3
stored l i a b c h =
    let one : i + 1 ≡ suc i = omega arith in
    let two : i + 2 ≡ suc (suc i) = omega arith in
    (λ j. set (set (set l i a) (one j) b) (two j) c) ∙ sets-eq (a ∷ b ∷ c ∷ []) l i h

pub returns : goal.returns
returns c =
    let a = c.args in
    ap (λ (v : ℕ). set (set (set a.words.now a.at v) (a.at + 1) a.counts.references) (a.at + 2) a.counts.prefix_bytes) c.word_of.ensures
    ∙ stored a.words.now a.at _ a.counts.references a.counts.prefix_bytes c.requires.0
