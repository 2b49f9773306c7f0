-- `search_list::Search::add_copies` meets its contract: after i parents the list has a path for each unseen one among them.
-- Assumes nothing.
use Rattle.search_list.proofs.Copies.{Copying}
use Rattle.search_list.proofs.Search.add_copies.Given as goal

abbrev pub invariant-loop-i : goal.invariant-loop-i
invariant-loop-i l = Copying l.initial.work l.work l.e.0 l.self.nodes l.first l.self.paths l.paths l.i
