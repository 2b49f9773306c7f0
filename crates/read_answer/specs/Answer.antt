-- What the call's answer and the lent slices stand for, and the answer after everything was read.
use Rattle.std.specs.Prelude.{ℕ, ◌^◌, ◌<◌, List, length}
use Rattle.words.specs.Words.{at}
use Rattle.spec_reading.specs.Call.{Answer, Slices}
use Rattle.read_store.specs.Layout.{VALUES}
use Rattle.read_item.specs.declared.settle.Reader.{Reader}
use Rattle.read_answer.specs.declared.ReadAnswer.{ReadAnswer}

abbrev pub read_answer_of : ReadAnswer → Answer
read_answer_of r = record { number = r.number; root = r.root; pairs = r.pairs; atoms = r.atoms; bytes = r.bytes; ghosts = r.ghosts }

-- The lowest value lies in work, and the counts fit a word.
pub record Counts (w : List ℕ) (r : Reader) : Type 0 where
  pub value_in : VALUES < length w
  pub pairs_fit : r.pairs < 2 ^ 32
  pub atoms_fit : r.atoms < 2 ^ 32
  pub bytes_fit : r.bytes < 2 ^ 32
  pub ghosts_fit : r.ghosts < 2 ^ 32

-- The lowest value's node and the reader's counts.
abbrev pub read_answer_at : List ℕ → Reader → Answer
read_answer_at w r = record { number = 0; root = at w VALUES; pairs = r.pairs; atoms = r.atoms; bytes = r.bytes; ghosts = r.ghosts }

abbrev pub slices : (w p a b : List ℕ) → Slices
slices w p a b = record { work = w; pairs = p; atoms = a; bytes = b }
