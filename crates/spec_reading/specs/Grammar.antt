-- The grammar of a serialized tree, from the CLVM serialization documentation: a tree is an atom, or `ff` and two trees, or `fe` and a path into the stack.
use Rattle.std.specs.Prelude.{ℕ, ◌≡◌, List, ◌∷◌, ◌++◌}
use Rattle.std.proofs.Math.Option.{some}
use Rattle.atom.specs.Prefix.{encode}
use Rattle.spec_reading.specs.Tree.{Tree, atom, cons, referred}

-- The bytes, all of them, stand for the tree, where `stack` has the trees read before them that are no side of a whole pair yet, the last one first.
pub data StandsFor : (stack : List Tree) → (bytes : List ℕ) → Tree → Type 0 where
  -- An atom in its one form, the shortest.
  an_atom : {stack : List Tree} {a form : List ℕ} → encode a ≡ some form → StandsFor stack form (atom a)
  -- `ff` and two trees: the left one is on the stack while the right one is read.
  a_pair : {stack : List Tree} {ls rs : List ℕ} {l r : Tree} → StandsFor stack ls l → StandsFor (l ∷ stack) rs r → StandsFor stack (0xff ∷ (ls ++ rs)) (cons l r)
  -- `fe` and a path, written as an atom is: it leads from the stack as a list.
  a_reference : {stack : List Tree} (path : List ℕ) {form : List ℕ} {t : Tree} → encode path ≡ some form → referred path stack ≡ some t → StandsFor stack (0xfe ∷ form) t
