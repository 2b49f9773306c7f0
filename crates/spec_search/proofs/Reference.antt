-- A reference whose path the search gave is read as the entry's tree.
-- Assumes nothing.
use Rattle.std.specs.Prelude.{ℕ, ◌≡◌, Bool, List, map}
use Rattle.std.proofs.Math.Option.{some}
use Rattle.spec_reading.specs.Tree.{Tree, as_list, referred}
use Rattle.spec_search.specs.Search.{Parents, search}
use Rattle.path.specs.Bytes.{path_bytes}
use Rattle.path.proofs.BytesLaws.{round_trip}
use Rattle.spec_search.proofs.Sound.{Linked, Leads, search_sound}

leads_referred : (bits : List Bool) (trees : List Tree) (u : Tree) → Leads bits (as_list trees) u → referred (path_bytes bits) trees ≡ some u
unfolding referred
leads_referred bits trees u h = rw (h.ends, round_trip h.steps) h.arrives

-- THE THEOREM. The path that the search gives is read as the entry's tree.
pub reference_right : (T : ℕ → Tree) (parents : Parents) (stack : List ℕ) (len e : ℕ) (bits : List Bool) → Linked T parents
    → search parents stack len e ≡ some bits → referred (path_bytes bits) (map T stack) ≡ some (T e)
reference_right T parents stack len e bits linked q =
    leads_referred bits (map T stack) (T e) (search_sound T parents stack len e bits linked q).leads_there
