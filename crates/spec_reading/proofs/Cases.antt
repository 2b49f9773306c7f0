-- 01's cases of parse_atom.rs and de_br.rs that are marked to be proved: one table over the definitions, with one theorem.
use Rattle.std.specs.Prelude.{ℕ, ◌≡◌, refl, List, [], ◌∷◌, map}
use Rattle.words.specs.BigEndian.{number_after}
use Rattle.words.specs.Words.{part}
use Rattle.atom.specs.Parse.{parse, size_of, ones, blob_of}
use Rattle.path.specs.Bytes.{read_path, all_bits, below_top, low_bits}
use Rattle.spec_reading.specs.Tree.{Tree, atom, cons}
use Rattle.spec_reading.specs.Format.{Read, accepted, turned_down, read, run, step}
use Rattle.spec_reading.specs.Plain.{Plain, read_plain}

-- What reading a whole input gives: the tree, or the number of the refusal.
pub data Outcome : Type 0 where
  tree : Tree → Outcome
  number : ℕ → Outcome

abbrev pub top : List Tree → Outcome
top [] = number 0
top (t ∷ ts) = tree t

abbrev pub outcome : Read Plain → Outcome
outcome (accepted p) = top p.trees
outcome (turned_down n) = number n

pub record Case : Type 0 where
  pub input : List ℕ
  pub gives : Outcome

abbrev pub case : List ℕ → Outcome → Case
case i o = record { input = i; gives = o }

abbrev nil : Tree
nil = atom []

abbrev one : Tree
one = atom (1 ∷ [])

abbrev pub cases : List Case
cases =
    -- 81 7f gets 15; 81 80 is the atom 80
    case (0x81 ∷ 0x7f ∷ []) (number 15)
    ∷ case (0x81 ∷ 0x80 ∷ []) (tree (atom (0x80 ∷ [])))
    -- fc 00 00 00 00 00 gets 15; fc 04 00 00 00 00 gets 14
    ∷ case (0xfc ∷ 0 ∷ 0 ∷ 0 ∷ 0 ∷ 0 ∷ []) (number 15)
    ∷ case (0xfc ∷ 4 ∷ 0 ∷ 0 ∷ 0 ∷ 0 ∷ []) (number 14)
    -- 80 80 gets 14 (bytes left over)
    ∷ case (0x80 ∷ 0x80 ∷ []) (number 14)
    -- fe 01 and fe 80 alone read as nil (empty stack; empty path); fe 02 alone gets 16: it steps into nil
    ∷ case (0xfe ∷ 0x01 ∷ []) (tree nil)
    ∷ case (0xfe ∷ 0x80 ∷ []) (tree nil)
    ∷ case (0xfe ∷ 0x02 ∷ []) (number 16)
    -- ff 01 fe 01 is (1 . (1 . nil)): the whole stack as a list; ff 01 fe 03 is (1 . nil); ff 01 fe 04 gets 16
    ∷ case (0xff ∷ 0x01 ∷ 0xfe ∷ 0x01 ∷ []) (tree (cons one (cons one nil)))
    ∷ case (0xff ∷ 0x01 ∷ 0xfe ∷ 0x03 ∷ []) (tree (cons one nil))
    ∷ case (0xff ∷ 0x01 ∷ 0xfe ∷ 0x04 ∷ []) (number 16)
    ∷ []

pub cases_right : map (λ c. outcome (read_plain c.input)) cases ≡ map (λ c. c.gives) cases
unfolding read run step parse size_of ones blob_of number_after part read_path all_bits below_top low_bits
cases_right = refl
