-- Laws of a write's way out: what the test for a prefix says of the atom.
-- Assumes nothing.
use Prim.Native.Nat.{ℕ}
use mathlib.Core.Path.{◌≡◌, sym, ◌∙◌}
use mathlib.Core.List.{List}
use mathlib.Core.Option.{none, some}
use Rattle.std.specs.Prelude.{Some, None, Ok, Err, ok_or}
use Rattle.std.specs.Prelude as code
use Rattle.words.specs.Choice.{clash}
use Rattle.words.specs.Options.{option_of}
use Rattle.atom.specs.Prefix.{prefix_width}
use Rattle.atom_encode.specs.declared.write_atom.WriteError.{WriteError}

module _ (atom : List ℕ) (e : WriteError) where
  pub width_known : (o : code.Option ℕ) (w : ℕ) → option_of o ≡ prefix_width atom → ok_or o e ≡ Ok w → prefix_width atom ≡ some w
  width_known None w h q = clash cc
  width_known (Some x) w h q = sym h ∙ cc

  pub none_known : (o : code.Option ℕ) (f : WriteError) → option_of o ≡ prefix_width atom → ok_or o e ≡ Err f → (prefix_width atom ≡ none) × (f ≡ e)
  none_known None f h q = (sym h, cc)
  none_known (Some x) f h q = clash cc
