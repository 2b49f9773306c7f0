-- `search_list::search_moves::first_unseen` meets its contract: every parent before it is seen.
-- Assumes nothing.
use Rattle.search_list.proofs.Copies.{Seeking}
use Rattle.search_list.proofs.search_moves.first_unseen.Given as goal

abbrev pub invariant-loop-i : goal.invariant-loop-i
invariant-loop-i l = Seeking l.work l.e.0 l.i
