-- `read_store::new_atom` meets its contract: a small atom stores nothing, and a listed one is appended by `new_listed`.
-- Assumes nothing.
use mathlib.Core.Path.{sym, ap, ◌∙◌}
use native.Mathlib.Omega.{arith}
use Rattle.words.specs.Options.{option_of}
use Rattle.allocator.specs.SmallAtomLaws.{fits_some}
use Rattle.read_store.proofs.Stored.{small_stored, listed_stored}
use Rattle.read_store.proofs.new_atom.Goals as goal

pub small_atom-requires : goal.small_atom-requires
small_atom-requires c = (fits_some _ _ (sym c.fits_in_small_atom.ensures ∙ ap option_of c.in-Some.is)).0

pub returns-in-Some : goal.returns-in-Some
returns-in-Some c =
    let a = c.args in
    small_stored a.atoms.now a.bytes.now a.used a.size a.blob.now _ c.small_atom.result.0
    (sym c.fits_in_small_atom.ensures ∙ ap option_of c.in-Some.is)
    c.small_atom.ensures

pub returns-in-None : goal.returns-in-None
returns-in-None c =
    let a = c.args in
    listed_stored a.atoms.now a.bytes.now a.used a.size a.blob.now _ _ _ _ _
    (sym c.fits_in_small_atom.ensures ∙ ap option_of c.in-None.is)
    (omega arith)
    (omega arith)
    c.new_listed.ensures
