-- The path that a search gives, whatever the parents say: how many bits and bytes it has, and that its last bit, the terminator, is set, so that the first
-- byte is not 0 and no byte could be spared.
-- Assumes nothing.
use Rattle.std.specs.Prelude.{◌+◌, ◌≡◌, Bool, true, List, [], ◌∷◌, ◌++◌}

-- The bits are steps and, last, the terminator.
pub record Ends (bits : List Bool) : Type 0 where
  pub steps : List Bool
  pub ends : bits ≡ steps ++ true ∷ []
