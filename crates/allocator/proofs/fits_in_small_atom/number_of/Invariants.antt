-- `number_of` meets its contract. The invariant: `ret` is the number of the bytes passed.
-- Assumes nothing.
use Rattle.std.proofs.Common.{◌≡◌, take}
use Rattle.words.specs.BigEndian.{number}
use Rattle.allocator.proofs.fits_in_small_atom.number_of.Given as goal

abbrev pub invariant-loop-byte : goal.invariant-loop-byte
invariant-loop-byte l = l.ret ≡ number (take l.byte-index l.v)
