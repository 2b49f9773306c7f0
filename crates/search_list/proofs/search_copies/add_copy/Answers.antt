-- `search_list::search_copies::add_copy` meets its contract: the list is as it was where the parent is seen, and has one path more otherwise.
-- Assumes nothing.
use Rattle.search_list.proofs.Copies.{copy_seen, copy_new}
use Rattle.search_list.specs.State.{seen_at, count_at}
use Prim.Native.Nat.{ℕ, ◌*◌, ◌<◌}
use Rattle.words.specs.Words.{at}
use Rattle.work_layout.specs.Layout.{USED, ENTRIES}
use Rattle.work_layout.specs.Rows.{link_at}
use Rattle.search_list.specs.Steps.{Links}
use mathlib.Core.List.{List}
use mathlib.Core.Path.{◌≡◌, ap, sym, ◌∙◌}
use native.Mathlib.Omega.{arith}
use Rattle.search_list.proofs.search_copies.add_copy.Goals as goal

pub parent_at-p-requires : goal.parent_at-p-requires
parent_at-p-requires c =
    let q = c.requires in
    (q.links.0.long, q.e_bound.0, omega (arith, q.links.0.counts c.args.e.0 q.e_bound.0))

-- A parent of entry e is an entry in use, with a position.
in_use : {w : List ℕ} {e i v : ℕ} → Links w → v ≡ link_at w e i → e < ENTRIES → i < count_at w e → v < 2 * at w USED
in_use {e = e} {i = i} k is low next = omega (arith, is, k.links e i low next)

pub is_seen-requires : goal.is_seen-requires
is_seen-requires c =
    let q = c.requires in
    let low = in_use q.links.0 c.parent_at-p.ensures q.e_bound.0 q.e_bound.1 in
    (q.links.0.long, omega (arith, c.entry.ensures, low, q.links.0.used))

pub returns-then-is_seen : goal.returns-then-is_seen
returns-then-is_seen c =
    let a = c.args in
    let q = c.requires in
    let p = c.parent_at-p in
    let low = in_use q.links.0 p.ensures q.e_bound.0 q.e_bound.1 in
    copy_seen a.work.now a.nodes a.paths q.links.1 q.links.2 q.links.0 p.result.0 _ p.ensures low
    (sym c.if-is_seen.true ∙ c.is_seen.ensures ∙ ap (seen_at a.work.now) c.entry.ensures)

pub returns : goal.returns
returns c =
    let a = c.args in
    let q = c.requires in
    let p = c.parent_at-p in
    let low = in_use q.links.0 p.ensures q.e_bound.0 q.e_bound.1 in
    copy_new a.work.now a.nodes a.paths q.links.1 q.links.2 q.links.0 c.put_at_entry.new.work p.result.0 _ p.ensures low q.e_bound.2
    (sym c.if-is_seen.false ∙ c.is_seen.ensures ∙ ap (seen_at a.work.now) c.entry.ensures) c.put_at_entry.ensures
