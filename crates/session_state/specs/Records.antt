-- The checkpoint records.
use Rattle.session_state.specs.declared.checkpoints.Checkpoint.{Checkpoint}

-- The record whose words are zero.
abbrev pub blank : Checkpoint
blank = record { opens = 0; depth = 0; size = 0; references = 0; prefix_bytes = 0; sentinel = 0 }
