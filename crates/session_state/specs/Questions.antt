-- Questions 9 and 10.
use Rattle.std.specs.Prelude.{ℕ, Bool, cond, ltb}

-- At an add: the number of the first that gets no, or 0.
abbrev pub question_of : (finished : Bool) → (adds : ℕ) → ℕ
question_of finished adds = cond finished 9 (cond (ltb adds 16) 0 10)
