-- `has_forget` meets its contract. The invariant: the steps from the present place on have a forget or a quote where all of them have one.
-- Assumes nothing.
use Prim.Native.Nat.{◌-◌}
use lib.ListN.{length}
use Rattle.file_parts.proofs.LoadLaws.{ForgetsOn}
use Rattle.file_parts.proofs.has_forget.Given as goal

abbrev pub invariant-loop-found : goal.invariant-loop-found
invariant-loop-found l = ForgetsOn l.file l.at l.place

abbrev pub decreases-loop-found : goal.decreases-loop-found
decreases-loop-found l = length l.file - l.place
