-- The plain reader, over trees: its values are a stack of trees.
use Rattle.std.specs.Prelude.{ℕ, ◌+◌, Bool, List, [], ◌∷◌}
use Rattle.std.proofs.Math.Option.{Option, none, some}
use Rattle.spec_reading.specs.Tree.{Tree, atom, cons, as_list, lead}
use Rattle.spec_reading.specs.Format.{Values, Read, read}

-- The trees read, the last one first. `made` counts the pairs of a reader that keeps this stack as a list of pairs: one for each value
-- pushed, and one for each pair of the tree.
pub record Plain : Type 0 where
  pub trees : List Tree
  pub made : ℕ

abbrev pub no_trees : Plain
no_trees = record { trees = []; made = 0 }

abbrev pub push : Tree → Plain → Plain
push t p = record { trees = t ∷ p.trees; made = p.made + 1 }

abbrev pub found : Option Tree → Plain → Option Plain
found none p = none
found (some t) p = some (push t p)

-- A path leads from the stack as a list.
abbrev pub push_path_plain : Option (List Bool) → Plain → Option Plain
push_path_plain path p = found (lead path (as_list p.trees)) p

abbrev pub join_trees : List Tree → List Tree
join_trees [] = []
join_trees (t ∷ []) = t ∷ []
join_trees (r ∷ l ∷ ts) = cons l r ∷ ts

abbrev pub plain_values : Values Plain
plain_values =
    record {
      push_atom = λ bytes p. push (atom bytes) p;
      push_path = push_path_plain;
      join = λ p. record { trees = join_trees p.trees; made = p.made + 2 };
    }

-- A serialized tree, read plainly.
abbrev pub read_plain : List ℕ → Read Plain
read_plain input = read plain_values input no_trees
