-- What the count's answers mean.
use Rattle.std.specs.Prelude.{ℕ, Bool, List, length}
use Rattle.std.proofs.Math.Option.{Option, none, some}

-- How many bits a path has.
abbrev pub counted : Option (List Bool) → Option ℕ
counted none = none
counted (some bits) = some (length bits)
