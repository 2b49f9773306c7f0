-- What a scan of bytes counts. Bytes are told apart into items by themselves alone: `ff`; `fe` with a path's atom; any other atom with its prefix. The counts
-- are sums over the kinds of these items, one after the other.
use Rattle.std.specs.Prelude.{ℕ, zero, suc, ◌-◌, cond, List, [], ◌∷◌, eqb}
use Rattle.atom.specs.Parse.{Parse, blob, refused, parse}
use Rattle.spec_session.specs.Items.{Item, cons_item, atom_item, reference_item, total, item_prefix}

-- An atom, and a reference's path, with how many bytes its prefix has: 0 where it stands for itself.
pub data Kind : Type 0 where
  pair_mark : Kind
  an_atom : (prefix : ℕ) → Kind
  a_reference : (prefix : ℕ) → Kind

-- ---- the scan

-- How many bytes stand in front of an atom's own, and how many it takes with them. (Where no atom begins, 0: no output has such bytes.)
abbrev pub prefix_at : Parse → ℕ
prefix_at (blob start end) = start
prefix_at (refused n) = 0

abbrev pub taken_by : Parse → ℕ
taken_by (blob start end) = end
taken_by (refused n) = 0

-- The first byte tells the item's kind.
abbrev pub kind_at : (first : ℕ) → (rest : List ℕ) → Kind
kind_at b rest = cond (eqb b 0xff) pair_mark (cond (eqb b 0xfe) (a_reference (prefix_at (parse rest))) (an_atom (prefix_at (parse (b ∷ rest)))))

-- How many bytes of the item stand after its first one.
abbrev pub further : Kind → (first : ℕ) → (rest : List ℕ) → ℕ
further pair_mark b rest = 0
further (an_atom prefix) b rest = taken_by (parse (b ∷ rest)) - 1
further (a_reference prefix) b rest = taken_by (parse rest)

-- The kinds of the items, after the bytes of an item that are still to be passed.
unfoldable pub scan_after : (pass : ℕ) → List ℕ → List Kind
scan_after pass [] = []
scan_after zero (b ∷ rest) = kind_at b rest ∷ scan_after (further (kind_at b rest) b rest) rest
scan_after (suc pass) (b ∷ rest) = scan_after pass rest

abbrev pub scan : (bytes : List ℕ) → List Kind
scan bytes = scan_after 0 bytes

-- ---- counts

abbrev pub is_reference : Kind → ℕ
is_reference pair_mark = 0
is_reference (an_atom prefix) = 0
is_reference (a_reference prefix) = 1

abbrev pub prefix_of : Kind → ℕ
prefix_of pair_mark = 0
prefix_of (an_atom prefix) = prefix
prefix_of (a_reference prefix) = prefix

abbrev pub scanned_references : (bytes : List ℕ) → ℕ
scanned_references bytes = total is_reference (scan bytes)

-- Those of paths included.
abbrev pub scanned_prefixes : (bytes : List ℕ) → ℕ
scanned_prefixes bytes = total prefix_of (scan bytes)

-- ---- items

abbrev pub kind_of : Item → Kind
kind_of cons_item = pair_mark
kind_of (atom_item bytes) = an_atom (item_prefix (atom_item bytes))
kind_of (reference_item path) = a_reference (item_prefix (reference_item path))
