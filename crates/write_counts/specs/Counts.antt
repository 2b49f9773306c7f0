-- What is counted of items, in the code's struct.
use Rattle.std.specs.Prelude.{ℕ, ◌+◌, ◌≤◌, List}
use Rattle.spec_session.specs.Items.{Item, item_size, size_of, reference_count, references, item_prefix, prefix_bytes}
use Rattle.write_counts.specs.declared.Counts.{Counts}

abbrev pub counts_of : List Item → Counts
counts_of items = record { size = size_of items; references = references items; prefix_bytes = prefix_bytes items }

abbrev pub no_items : Counts
no_items = record { size = 0; references = 0; prefix_bytes = 0 }

-- Up to another size, with so many references and prefix bytes more.
abbrev pub grown : Counts → (size references prefix : ℕ) → Counts
grown c size n w = record { size = size; references = c.references + n; prefix_bytes = c.prefix_bytes + w }

-- One item more.
abbrev pub with_item : Counts → Item → Counts
with_item c i = grown c (c.size + item_size i) (reference_count i) (item_prefix i)

-- No count passes the size.
pub record Bounded (c : Counts) : Type 0 where
  pub references : c.references ≤ c.size
  pub prefixes : c.prefix_bytes ≤ c.size
