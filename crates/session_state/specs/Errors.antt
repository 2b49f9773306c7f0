-- The numbers with which a run ends at a step.
use Rattle.std.specs.Prelude.{ℕ, Ok, Err, Result}
use Rattle.session_state.specs.declared.step_error.StepError.{StepError}
use Rattle.session_state.specs.declared.step_error.StepError.TheVariants.{Finished, TooManyAdds, NoSuchAdd, Add, NoQuote}
use Rattle.write_place.specs.Numbers.{question_of}

abbrev pub number_of : StepError → ℕ
number_of Finished = 9
number_of TooManyAdds = 10
number_of NoSuchAdd = 11
number_of (Add error) = question_of error
number_of NoQuote = 17

-- 0 where no error ends it.
abbrev pub number_in : Result (Unit {0}) StepError → ℕ
number_in (Ok done) = 0
number_in (Err e) = number_of e
