-- What stands at a place of the input, from the format of a serialized tree, and what the code's answers mean.
use Rattle.std.specs.Prelude.{ℕ, ◌+◌, cond, List, [], ◌∷◌, eqb, drop, Option, Some, None}
use Rattle.atom.specs.Parse.{Parse, parse_at}
use Rattle.atom_decode.specs.Answers.{parse_of}
use Rattle.read_cursor.specs.declared.Head.{Head}
use Rattle.read_cursor.specs.declared.Head.TheVariants as head

-- Nothing, a pair's mark, a reference with its path, or an atom.
pub data There : Type 0 where
  end : There
  pair : There
  path : Parse → There
  atom : Parse → There

abbrev pub there_of : Option Head → There
there_of None = end
there_of (Some head.Pair) = pair
there_of (Some (head.Path z)) = path (parse_of z)
there_of (Some (head.Atom z)) = atom (parse_of z)

-- What begins with the byte b at the place p: `ff` is a pair's mark; after `fe` stands a path; anything else begins an atom.
abbrev pub begun : ℕ → List ℕ → ℕ → There
begun b input p = cond (eqb b 0xff) pair (cond (eqb b 0xfe) (path (parse_at input (p + 1))) (atom (parse_at input p)))

-- The bytes from the place p on, and what stands there.
abbrev pub head_of : List ℕ → List ℕ → ℕ → There
head_of [] input p = end
head_of (b ∷ rest) input p = begun b input p

unfoldable pub head_at : List ℕ → ℕ → There
head_at input p = head_of (drop p input) input p
