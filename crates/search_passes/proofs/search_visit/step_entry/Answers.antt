-- `search_passes::search_visit::step_entry` meets its contract: a path at a seen entry is dropped, visit 1,025 ends the search, any other is a visit.
-- Assumes nothing.
use native.Mathlib.Omega.{arith}
use mathlib.Core.Path.{◌≡◌, sym, subst, ◌∙◌}
use Prim.Native.Nat.{ℕ, ◌+◌, ◌-◌}
use Rattle.search_list.specs.Steps.{PathsOK}
use Rattle.search_list.proofs.TurnLaws.{few, at_entry_of, entry_low, entry_seen, entry_capped}
use Rattle.search_passes.proofs.search_visit.step_entry.Goals as goal

pub is_seen-requires : goal.is_seen-requires
is_seen-requires c = (c.requires.0.links.long, entry_low (at_entry_of c.requires c.entry_of.ensures))

pub drop_path-requires : goal.drop_path-requires
drop_path-requires c =
    let q = c.requires in
    let s = c.args.at.search in
    let e : s.paths - 1 + 1 ≡ s.paths = omega (arith, q.1) in
    let p = subst (λ (k : ℕ). PathsOK c.args.work.now s.nodes k) (sym e) q.0.paths in
    (q.0.links.long, q.0.nodes, p, omega (arith, q.1), omega (arith, few q.0))

pub returns-then-is_seen : goal.returns-then-is_seen
returns-then-is_seen c =
    let g = c.drop_path in
    entry_seen (at_entry_of c.requires c.entry_of.ensures) (sym c.if-is_seen.true ∙ c.is_seen.ensures) g.auto.work g.ensures

pub returns-then-at-eq-MOST_VISITS : goal.returns-then-at-eq-MOST_VISITS
returns-then-at-eq-MOST_VISITS c =
    entry_capped (at_entry_of c.requires c.entry_of.ensures) (sym c.if-is_seen.false ∙ c.is_seen.ensures) c.if-at-eq-MOST_VISITS.true

pub visit-requires : goal.visit-requires
visit-requires c =
    let q = c.requires in
    let new = rw c.entry_of.ensures at (sym c.if-is_seen.false ∙ c.is_seen.ensures) in
    (q.0, q.1, q.2, new, omega (arith, c.if-at-eq-MOST_VISITS.false, q.0.nodes.few))
