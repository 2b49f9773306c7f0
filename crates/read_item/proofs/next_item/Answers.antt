-- `read_item::next_item` meets its contract: what stands at the place says which kind of item it is.
-- Assumes nothing.
use Rattle.std.specs.Prelude.{Option, Some, None}
use mathlib.Core.Path.{sym, ap, ◌∙◌}
use Rattle.std.proofs.lemmas.Result.{err_from_is_err_and}
use Rattle.atom.specs.Parse.{refused}
use Rattle.atom_decode.specs.Answers.{parse_of}
use Rattle.read_cursor.specs.declared.Head.{Head}
use Rattle.read_cursor.specs.declared.Head.TheVariants as head
use Rattle.read_cursor.specs.HeadLaws.{told}
use Rattle.read_item.proofs.Items as items
use Rattle.read_item.proofs.read_value.Atoms.{atom_refused}
use Rattle.read_item.proofs.read_value.Paths.{path_turned_down}
use Rattle.read_item.proofs.next_item.Goals as goal

pub returns-in_default : goal.returns-in_default
returns-in_default c = items.end_stepped _ _ _ _ _ _ (told _ _ _ None c.head_at.ensures c.in_default.is)

-- ---- a pair's mark

pub pair_item-requires : goal.pair_item-requires
pair_item-requires c =
    let t = told _ _ _ (Some head.Pair) c.head_at.ensures (c.in-Some.is ∙ ap {B = Option Head} Some c.in-Pair.is) in
    items.pair_room _ _ _ _ _ _ t.0 c.requires

pub returns-in-Pair : goal.returns-in-Pair
returns-in-Pair c =
    let t = told _ _ _ (Some head.Pair) c.head_at.ensures (c.in-Some.is ∙ ap {B = Option Head} Some c.in-Pair.is) in
    let q = c.pair_item in
    items.pair_stepped _ _ _ _ _ _ t.0 c.requires _ q.auto.work q.ensures.0 t.1 _ q.ensures.1

-- ---- a reference

pub path_item-requires : goal.path_item-requires
path_item-requires c =
    let t = told _ _ _ (Some (head.Path c.in-Path.found)) c.head_at.ensures (c.in-Some.is ∙ ap {B = Option Head} Some c.in-Path.is) in
    (items.before_path _ _ _ _ _ _ t.0 c.requires, sym (ap parse_of c.in_ok-found-in-Path.was) ∙ t.2)

pub returns-in_ok-found-in-Path : goal.returns-in_ok-found-in-Path
returns-in_ok-found-in-Path c =
    let t = told _ _ _ (Some (head.Path c.in-Path.found)) c.head_at.ensures (c.in-Some.is ∙ ap {B = Option Head} Some c.in-Path.is) in
    items.path_stepped _ _ _ _ _ _ t.0 c.requires _ _ _ t.1 c.path_item.ensures

pub returns-in_err-found-in-Path : goal.returns-in_err-found-in-Path
returns-in_err-found-in-Path c =
    let t = told _ _ _ (Some (head.Path c.in-Path.found)) c.head_at.ensures (c.in-Some.is ∙ ap {B = Option Head} Some c.in-Path.is) in
    let e = err_from_is_err_and c.from_residual.result c.from_residual.ensures.1 in
    rw e.1
    (items.path_stepped _ _ _ _ _ _ t.0 c.requires _ _ _ t.1
    (path_turned_down _ _ _ _ e.0 (ap refused e.2 ∙ sym (ap parse_of c.in_err-found-in-Path.was) ∙ t.2)))

-- ---- an atom

pub atom_item-requires : goal.atom_item-requires
atom_item-requires c =
    let t = told _ _ _ (Some (head.Atom c.in-Atom.found)) c.head_at.ensures (c.in-Some.is ∙ ap {B = Option Head} Some c.in-Atom.is) in
    (c.requires, sym (ap parse_of c.in_ok-found-in-Atom.was) ∙ t.3)

pub returns-in_ok-found-in-Atom : goal.returns-in_ok-found-in-Atom
returns-in_ok-found-in-Atom c =
    let t = told _ _ _ (Some (head.Atom c.in-Atom.found)) c.head_at.ensures (c.in-Some.is ∙ ap {B = Option Head} Some c.in-Atom.is) in
    items.atom_stepped _ _ _ _ _ _ t.0 c.requires _ _ _ _ _ t.1 t.2 c.atom_item.ensures

pub returns-in_err-found-in-Atom : goal.returns-in_err-found-in-Atom
returns-in_err-found-in-Atom c =
    let t = told _ _ _ (Some (head.Atom c.in-Atom.found)) c.head_at.ensures (c.in-Some.is ∙ ap {B = Option Head} Some c.in-Atom.is) in
    let e = err_from_is_err_and c.from_residual-in_err-found-in-Atom.result c.from_residual-in_err-found-in-Atom.ensures.1 in
    rw e.1
    (items.atom_stepped _ _ _ _ _ _ t.0 c.requires _ _ _ _ _ t.1 t.2
    (atom_refused _ _ _ _ _ _ e.0 (ap refused e.2 ∙ sym (ap parse_of c.in_err-found-in-Atom.was) ∙ t.3)))
