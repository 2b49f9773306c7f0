-- One item more is counted, and no count passes the size.
-- Assumes nothing.
use Rattle.std.specs.Prelude.{◌≡◌, List, [], ◌∷◌, ◌++◌}
use Rattle.std.proofs.Common.{arith}
use Rattle.spec_session.specs.Items.{Item, item_size, reference_count, item_prefix}
use Rattle.spec_session.proofs.Counts.{total_more, reference_few, prefix_few}
use Rattle.write_counts.specs.declared.Counts.{Counts}
use Rattle.write_counts.specs.Counts.{counts_of, with_item, Bounded}

pub counts_more : (items : List Item) (i : Item) → counts_of (items ++ i ∷ []) ≡ with_item (counts_of items) i
counts_more items i =
    λ j. record { size = total_more item_size items i j; references = total_more reference_count items i j; prefix_bytes = total_more item_prefix items i j }

pub bounded_more : (c : Counts) (i : Item) → Bounded c → Bounded (with_item c i)
bounded_more c i b = record { references = omega (arith, b.references, reference_few i); prefixes = omega (arith, b.prefixes, prefix_few i) }
