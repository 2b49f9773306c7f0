-- The items of a serialized tree, their sizes in bytes, and a reader over items.
use Rattle.std.specs.Prelude.{◌≡◌, List, [], ◌∷◌, ◌++◌, Bool, true, ℕ, ◌+◌, ◌≤◌}
use Rattle.std.proofs.Math.Option.{Option, none, some, bind}
use Rattle.atom.specs.Prefix.{prefix_width, encode}
use Rattle.atom.specs.Write.{serialized_length}
use Rattle.path.specs.Bytes.{path_bytes}
use Rattle.spec_reading.specs.Tree.{Tree, place, atom, cons, follow, as_list}

pub data Item : Type 0 where
  cons_item : Item
  atom_item : List ℕ → Item
  -- The steps from the stack as a list: false left, true right.
  reference_item : List Bool → Item

abbrev pub item_size : Item → ℕ
item_size cons_item = 1
item_size (atom_item bs) = serialized_length bs
item_size (reference_item path) = 1 + serialized_length (path_bytes (path ++ true ∷ []))

-- The sum of a count.
abbrev pub total : {A : Type 0} → (A → ℕ) → List A → ℕ
total count [] = 0
total count (x ∷ xs) = count x + total count xs

abbrev pub size_of : List Item → ℕ
size_of is = total item_size is

-- ---- where the bytes went

abbrev pub reference_count : Item → ℕ
reference_count cons_item = 0
reference_count (atom_item bs) = 0
reference_count (reference_item path) = 1

-- How many items are references.
abbrev pub references : List Item → ℕ
references is = total reference_count is

abbrev pub width_or_0 : Option ℕ → ℕ
width_or_0 none = 0
width_or_0 (some w) = w

-- The prefix bytes of an item: of its atom, or of its path's atom. `ff`, `fe` and an atom that stands for itself have none.
abbrev pub item_prefix : Item → ℕ
item_prefix cons_item = 0
item_prefix (atom_item bs) = width_or_0 (prefix_width bs)
item_prefix (reference_item path) = width_or_0 (prefix_width (path_bytes (path ++ true ∷ [])))

abbrev pub prefix_bytes : List Item → ℕ
prefix_bytes is = total item_prefix is

-- ---- a tree in full

-- A tree in full: one byte for each pair, and each atom with its prefix.
abbrev pub full_size : Tree → ℕ
full_size place = 0
full_size (atom bs) = serialized_length bs
full_size (cons l r) = 1 + (full_size l + full_size r)

-- ---- bytes

abbrev pub bytes_or_none : Option (List ℕ) → List ℕ
bytes_or_none none = []
bytes_or_none (some bytes) = bytes

-- `ff`; an atom with its prefix; `fe` and the path's atom.
abbrev pub item_bytes : Item → List ℕ
item_bytes cons_item = 0xff ∷ []
item_bytes (atom_item bytes) = bytes_or_none (encode bytes)
item_bytes (reference_item path) = 0xfe ∷ bytes_or_none (encode (path_bytes (path ++ true ∷ [])))

abbrev pub output : List Item → List ℕ
output [] = []
output (i ∷ items) = item_bytes i ++ output items

-- ---- the reader

pub data Op : Type 0 where
  want : Op
  make : Op

-- What is left to read, and the stack of values, top first.
abbrev pub Reading : Type 0
Reading = List Op × List Tree

-- The pairs that are complete are made.
abbrev pub collapse : List Op → List Tree → Reading
collapse [] vs = ([], vs)
collapse (want ∷ k) vs = (want ∷ k, vs)
collapse (make ∷ k) [] = (make ∷ k, [])
collapse (make ∷ k) (b ∷ []) = (make ∷ k, b ∷ [])
collapse (make ∷ k) (b ∷ a ∷ vs) = collapse k (cons a b ∷ vs)

abbrev pub step_read : Item → List Op → List Tree → Option Reading
step_read i [] vs = none
step_read i (make ∷ k) vs = none
step_read cons_item (want ∷ k) vs = some (want ∷ want ∷ make ∷ k, vs)
step_read (atom_item bs) (want ∷ k) vs = some (collapse k (atom bs ∷ vs))
step_read (reference_item path) (want ∷ k) vs = bind (follow path (as_list vs)) (λ v. some (collapse k (v ∷ vs)))

abbrev pub feed : List Item → Reading → Option Reading
feed [] r = some r
feed (i ∷ is) r = bind (step_read i r.0 r.1) (feed is)

-- One value, and nothing left to read.
abbrev pub whole : List Op → List Tree → Option Tree
whole (o ∷ k) vs = none
whole [] [] = none
whole [] (v ∷ []) = some v
whole [] (v ∷ a ∷ vs) = none

abbrev pub read_items : List Item → Option Tree
read_items is = bind (feed is (want ∷ [], [])) (λ r. whole r.0 r.1)

-- Each reference takes at most as many bytes as the tree that the reader puts there, in full.
abbrev pub ItemNoLonger : Item → List Tree → Type 0
ItemNoLonger cons_item vs = Unit {0}
ItemNoLonger (atom_item bs) vs = Unit {0}
ItemNoLonger (reference_item path) vs = (v : Tree) → follow path (as_list vs) ≡ some v → item_size (reference_item path) ≤ full_size v

abbrev pub NoLongerFrom : List Item → Option Reading → Type 0
NoLongerFrom [] r = Unit {0}
NoLongerFrom (i ∷ is) none = Unit {0}
NoLongerFrom (i ∷ is) (some r) = ItemNoLonger i r.1 × NoLongerFrom is (step_read i r.0 r.1)

abbrev pub NoLonger : List Item → Type 0
NoLonger is = NoLongerFrom is (some (want ∷ [], []))
