-- What a run of the steps takes and leaves. It uses the first 65,535 bytes of the output.
use Rattle.std.specs.Prelude.{ℕ, ◌≡◌, Bool, true, false, List, take}
use Rattle.session_state.specs.declared.checkpoints.Checkpoint.{Checkpoint}
use Rattle.session_state.specs.declared.progress.Progress.{Progress}
use Rattle.session_state.specs.State.{the_file, Underway, Ended}

-- A run that is not over is under way.
abbrev pub Going : (input w words : List ℕ) (rows : List Checkpoint) (out : List ℕ) (p : Progress) → (done : Bool) → Type 0
Going input w words rows out p true = Unit {0}
Going input w words rows out p false = Underway p.measure input (the_file input) w words rows (take 65535 out) p

-- A run that is over leaves everything as it is. Any other goes to its end.
abbrev pub Driven : (input w words : List ℕ) (rows : List Checkpoint) (out : List ℕ) (p : Progress) (w' words' : List ℕ) (rows' : List Checkpoint) (out' : List ℕ)
    (q : Progress) → (done : Bool) → Type 0
Driven input w words rows out p w' words' rows' out' q true = (w' ≡ w) × (words' ≡ words) × (rows' ≡ rows) × (out' ≡ out) × (q ≡ p)
Driven input w words rows out p w' words' rows' out' q false = Ended p.measure (the_file input) words' (take 65535 out') q
