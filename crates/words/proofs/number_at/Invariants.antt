-- `words::number_at` meets its contract. The invariant: `value` is the number of the bytes passed.
-- Assumes nothing.
use Rattle.std.proofs.Common.{◌≡◌, ◌*◌, ◌^◌, ◌<◌, take}
use Rattle.words.specs.BigEndian.{number_after}
use Rattle.words.proofs.number_at.Given as goal

abbrev pub invariant-loop-byte : goal.invariant-loop-byte
invariant-loop-byte l = (l.value ≡ number_after l.first (take l.byte-index l.byte-items)) × (l.value < 256 * 256 ^ l.byte-index)
