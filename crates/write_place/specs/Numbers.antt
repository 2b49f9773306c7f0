-- The question that each error is of.
use Rattle.std.specs.Prelude.{ℕ}
use Rattle.write_place.specs.declared.AddError.{AddError}
use Rattle.write_place.specs.declared.AddError.TheVariants.{TooManyOpen, OutputFull}

abbrev pub question_of : AddError → ℕ
question_of TooManyOpen = 12
question_of OutputFull = 13
