-- What the call's answer and slices stand for, and the call's end after the items.
use Rattle.std.specs.Prelude.{ℕ, List, Result, Ok, Err}
use Rattle.spec_reading.specs.Call.{Slices, refusal, zeroed}
use Rattle.spec_reading.specs.Call as call
use Rattle.read_answer.specs.declared.ReadAnswer.{ReadAnswer}
use Rattle.read_answer.specs.Answer.{read_answer_of, Counts, read_answer_at, slices}
use Rattle.read_item.specs.declared.settle.Reader.{Reader}
use Rattle.read_item.specs.declared.read_error.ReadError.{ReadError}
use Rattle.read_item.specs.Refusals.{number}

abbrev pub read_result_of : ReadAnswer → (w p a b : List ℕ) → call.Result
read_result_of r w p a b = record { answer = read_answer_of r; slices = slices w p a b }

-- What was read can be told.
abbrev pub Counted : (w : List ℕ) → Result Reader ReadError → Type 0
Counted w (Ok r) = Counts w r
Counted w (Err e) = Unit {0}

-- After an outcome: work is cleared and the store stays, or everything is cleared.
abbrev pub ended : Result Reader ReadError → Slices → call.Result
ended (Ok r) l = record { answer = read_answer_at l.work r; slices = slices (zeroed l.work) l.pairs l.atoms l.bytes }
ended (Err e) l = record { answer = refusal (number e); slices = slices (zeroed l.work) (zeroed l.pairs) (zeroed l.atoms) (zeroed l.bytes) }
