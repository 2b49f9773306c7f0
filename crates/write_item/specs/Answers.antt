-- What the code's answers mean.
use Rattle.std.specs.Prelude.{ℕ, ◌≡◌, List, Result, Ok, Err}
use Rattle.std.proofs.Math.Option.{some}
use Rattle.atom.specs.Write.{next, full, Written, put}
use Rattle.spec_session.specs.Items.{Item, item_bytes}
use Rattle.write_counts.specs.declared.Counts.{Counts}
use Rattle.write_counts.specs.Counts.{with_item}
use Rattle.write_item.specs.declared.OutputFull.{OutputFull}

-- The answer of a write, and the output after it.
abbrev pub written : Result Counts OutputFull → List ℕ → Written
written (Ok c) out = record { answer = next c.size; output = out }
written (Err e) out = record { answer = full; output = out }

-- The item is counted, where it was written.
abbrev pub Counted : Counts → Item → Result Counts OutputFull → Type 0
Counted c i (Ok n) = n ≡ with_item c i
Counted c i (Err e) = Unit {0}

-- The item's bytes were put into the output, and it is counted; or they do not fit.
pub record ItemPut (out out' : List ℕ) (c : Counts) (i : Item) (r : Result Counts OutputFull) : Type 0 where
  pub bytes : written r out' ≡ put out c.size (some (item_bytes i))
  pub counted : Counted c i r
