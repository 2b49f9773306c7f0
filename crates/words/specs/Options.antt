-- The code's `Option` as the definitions' one.
-- Assumes nothing.
use Rattle.std.specs.Prelude.{Some, None}
use Rattle.std.specs.Prelude as code
use Rattle.std.proofs.Math.Option.{Option, some, none}

abbrev pub option_of : {A : Type 0} → code.Option A → Option A
option_of None = none
option_of (Some x) = some x
