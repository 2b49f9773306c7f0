-- `atom_encode::serialized_length::serialized_length_atom` meets its contract.
-- Assumes nothing.
use mathlib.Core.Path.{sym, ap, ◌∙◌}
use native.Mathlib.Omega.{arith}
use Rattle.words.specs.Options.{option_of}
use Rattle.atom.specs.PrefixLaws.{prefixed}
use Rattle.atom.specs.WriteLaws.{length_some, length_none}
use Rattle.atom_encode.proofs.serialized_length.serialized_length_atom.Goals as goal

pub overflow_add-result : goal.overflow_add-result
overflow_add-result c =
    let p = prefixed c.args.atom.now c.in-Some.width (sym c.prefix_width.ensures ∙ ap option_of c.in-Some.is) in
    omega (arith, p.five, p.limit)

pub returns-in-Some : goal.returns-in-Some
returns-in-Some c = sym (length_some c.args.atom.now c.in-Some.width (sym c.prefix_width.ensures ∙ ap option_of c.in-Some.is))

pub returns-in-None : goal.returns-in-None
returns-in-None c = sym (length_none c.args.atom.now (sym c.prefix_width.ensures ∙ ap option_of c.in-None.is))
