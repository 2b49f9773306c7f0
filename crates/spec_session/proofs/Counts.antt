-- Where the bytes of the items went: into prefixes, and into the rest. One item more, and no count passes the size.
-- Assumes nothing.
use Rattle.std.specs.Prelude.{ℕ, ◌+◌, ◌≤◌, ◌≡◌, refl, true, List, [], ◌∷◌, ◌++◌, length}
use Rattle.std.proofs.Math.Option.{Option, none, some, none-ne-some}
use Rattle.std.proofs.Common.{arith, length-append}
use Rattle.words.specs.BigEndian.{length_big_endian}
use Rattle.words.specs.Lists.{All}
use Rattle.atom.specs.Prefix.{mark, prefix, prefix_width, with_prefix, encode}
use Rattle.atom.specs.Write.{length_or_0, serialized_length}
use Rattle.path.specs.Bytes.{path_bytes}
use Rattle.spec_session.specs.Items.{Item, cons_item, atom_item, reference_item, item_size, total, size_of, reference_count, width_or_0, item_prefix, prefix_bytes}
use Rattle.spec_session.proofs.BytesRead.{Formed}

-- ---- sums

-- One item more.
pub total_more : {A : Type 0} (count : A → ℕ) (xs : List A) (x : A) → total count (xs ++ x ∷ []) ≡ total count xs + count x
total_more count [] x = omega arith
total_more count (y ∷ xs) x = omega (arith, total_more count xs x)

-- ---- no count passes the size

pub reference_few : (i : Item) → reference_count i ≤ item_size i
reference_few cons_item = omega arith
reference_few (atom_item bs) = omega arith
reference_few (reference_item path) = omega arith

atom_few : (bs : List ℕ) → width_or_0 (prefix_width bs) ≤ serialized_length bs
unfolding serialized_length encode
atom_few bs = go (prefix_width bs)
  where
    go : (o : Option ℕ) → width_or_0 o ≤ length_or_0 (with_prefix o bs)
    go none = omega arith
    go (some w) = omega (arith, length-append (prefix w (length bs)) bs, length_big_endian w (mark w + length bs))

pub prefix_few : (i : Item) → item_prefix i ≤ item_size i
prefix_few cons_item = omega arith
prefix_few (atom_item bs) = atom_few bs
prefix_few (reference_item path) = omega (arith, atom_few (path_bytes (path ++ true ∷ [])))

-- ---- prefixes, and the rest

-- The other bytes of an item: `ff`; an atom's own; `fe` and a path's own.
abbrev pub other_bytes : Item → ℕ
other_bytes cons_item = 1
other_bytes (atom_item bs) = length bs
other_bytes (reference_item path) = 1 + length (path_bytes (path ++ true ∷ []))

pub atom_parts : (bs b : List ℕ) → encode bs ≡ some b → serialized_length bs ≡ width_or_0 (prefix_width bs) + length bs
unfolding serialized_length encode
atom_parts bs b e = go (prefix_width bs) e
  where
    go : (o : Option ℕ) → with_prefix o bs ≡ some b → length_or_0 (with_prefix o bs) ≡ width_or_0 o + length bs
    go none e = absurd (none-ne-some b e)
    go (some w) e = omega (arith, length-append (prefix w (length bs)) bs, length_big_endian w (mark w + length bs))

item_parts : (i : Item) → Formed i → item_size i ≡ item_prefix i + other_bytes i
item_parts cons_item f = refl
item_parts (atom_item bs) f = atom_parts bs f.0 f.1
item_parts (reference_item path) f = omega (arith, atom_parts (path_bytes (path ++ true ∷ [])) f.0 f.1)

-- The size is the prefix bytes that a step shows, and the others.
pub size_parts : (is : List Item) → All Formed is → size_of is ≡ prefix_bytes is + total other_bytes is
size_parts [] f = refl
size_parts (i ∷ is) f = omega (arith, item_parts i f.0, size_parts is f.1)
