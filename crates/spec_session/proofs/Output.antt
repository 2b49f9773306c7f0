-- The sizes of items are those of their bytes; one item more.
-- Assumes nothing.
use Rattle.std.specs.Prelude.{ℕ, ◌+◌, ◌≡◌, refl, true, List, [], ◌∷◌, ◌++◌, length}
use Rattle.std.proofs.Common.{ap, ap₂, sym, ◌∙◌, append-nil, append_assoc, arith, length-append}
use Rattle.std.proofs.Math.Option.{Option, none, some}
use Rattle.atom.specs.Prefix.{encode}
use Rattle.atom.specs.Write.{length_or_0, serialized_length}
use Rattle.path.specs.Bytes.{path_bytes}
use Rattle.spec_session.specs.Items.{Item, cons_item, atom_item, reference_item, item_size, size_of, bytes_or_none, item_bytes, output}

length_or_none : (o : Option (List ℕ)) → length_or_0 o ≡ length (bytes_or_none o)
length_or_none none = refl
length_or_none (some bytes) = refl

atom_size : (atom : List ℕ) → serialized_length atom ≡ length (bytes_or_none (encode atom))
unfolding serialized_length
atom_size atom = length_or_none (encode atom)

pub item_size_is : (i : Item) → item_size i ≡ length (item_bytes i)
item_size_is cons_item = refl
item_size_is (atom_item bytes) = atom_size bytes
item_size_is (reference_item path) = omega (arith, atom_size (path_bytes (path ++ true ∷ [])))

pub output_size : (items : List Item) → size_of items ≡ length (output items)
output_size [] = refl
output_size (i ∷ items) = ap₂ (λ (a b : ℕ). a + b) (item_size_is i) (output_size items) ∙ sym (length-append (item_bytes i) (output items))

-- One item more.
pub output_more : (items : List Item) (i : Item) → output (items ++ i ∷ []) ≡ output items ++ item_bytes i
output_more [] i = append-nil (item_bytes i)
output_more (x ∷ items) i = ap (λ (r : List ℕ). item_bytes x ++ r) (output_more items i) ∙ sym (append_assoc (item_bytes x) (output items) (item_bytes i))
