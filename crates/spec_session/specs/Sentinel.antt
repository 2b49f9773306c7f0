-- The sentinel as a word, in the file and in work.
use Rattle.std.specs.Prelude.{ℕ}
use Rattle.std.proofs.Math.Option.{Option, none, some}

-- Its handle; `ffffffff` for none.
abbrev pub sentinel_word : Option ℕ → ℕ
sentinel_word none = 0xffffffff
sentinel_word (some h) = h
