-- What lies where in work: the offset of each region, and that no two regions meet.
-- Assumes nothing.
use Rattle.std.specs.Prelude.{◌≡◌, ℕ, ◌+◌, ◌≤◌, List, [], ◌∷◌, refl}
use Rattle.std.proofs.Common.{arith}
use Rattle.words.specs.Words.{WORK}

-- Two words for each listed atom of the file: where its bytes start and end.
abbrev pub ATOMS : ℕ
ATOMS = 0

-- Two words for each pair of the file: its left and its right handle.
abbrev pub PAIRS : ℕ
PAIRS = 2048

-- For each listed atom the first one with the same bytes.
abbrev pub FIRST : ℕ
FIRST = 4096

-- The serialized length of each listed atom.
abbrev pub ATOM_LENGTHS : ℕ
ATOM_LENGTHS = 5120

-- Listed atoms by slot: one more than the last one of the slot, or 0.
abbrev pub ATOM_HEADS : ℕ
ATOM_HEADS = 6144

-- One more than the listed atom before it in the same slot, or 0.
abbrev pub ATOM_NEXT : ℕ
ATOM_NEXT = 7168

-- How many listed atoms the file has.
abbrev pub ATOM_COUNT : ℕ
ATOM_COUNT = 8192

-- How many pairs the file has.
abbrev pub PAIR_COUNT : ℕ
PAIR_COUNT = 8193

-- The sentinel's handle, or ffffffff.
abbrev pub SENTINEL : ℕ
SENTINEL = 8194

-- Open pairs: the pair's number, doubled, and 1 where its right side is still to come.
abbrev pub OPEN : ℕ
OPEN = 8195

-- The stack of entries, the top last.
abbrev pub STACK : ℕ
STACK = 12291

-- For each place of the stack what TOPS held before it was pushed.
abbrev pub BELOW : ℕ
BELOW = 16388

-- For each entry one more than its highest place on the stack, or 0.
abbrev pub TOPS : ℕ
TOPS = 20485

-- A bit for each entry that is marked written.
abbrev pub WRITTEN : ℕ
WRITTEN = 23557

-- The parents that an update moves, while the added tree is entered, two to a word.
abbrev pub MOVED : ℕ
MOVED = 23653

-- For each pair of the file one more than its entry, or 0.
abbrev pub MAPS : ℕ
MAPS = 23703

-- One more than the sentinel's latest entry, or 0.
abbrev pub SENTINEL_ENTRY : ℕ
SENTINEL_ENTRY = 24727

-- How many entries there are.
abbrev pub USED : ℕ
USED = 24728

-- How many parents each entry has.
abbrev pub COUNTS : ℕ
COUNTS = 24729

-- The key of each entry, first word.
abbrev pub LEFT : ℕ
LEFT = 27801

-- The key of each entry, second word.
abbrev pub RIGHT : ℕ
RIGHT = 30873

-- The length of each entry, low word.
abbrev pub LOW : ℕ
LOW = 33945

-- The length of each entry, high word.
abbrev pub HIGH : ℕ
HIGH = 37017

-- One more than the entry before it in the same slot, or 0.
abbrev pub NEXT : ℕ
NEXT = 40089

-- Entries by slot: one more than the last one of the slot, or 0.
abbrev pub HEADS : ℕ
HEADS = 43161

-- The parents, two to a word: the first two of each entry, the next two of each, .., the last two of each. Before it 128 words are left out.
abbrev pub PARENTS : ℕ
PARENTS = 47385

-- The search: a bit for each entry that is seen.
abbrev pub SEEN : ℕ
SEEN = 200985

-- The search: for each node the node before it.
abbrev pub PREVS : ℕ
PREVS = 201081

-- The search: for each node the entry visited, doubled, and the position bit.
abbrev pub NODES : ℕ
NODES = 202106

-- The search: the bits of each node.
abbrev pub LENS : ℕ
LENS = 203131

-- The search: three words for each path under way: node, place, extra.
abbrev pub PATHS : ℕ
PATHS = 204156

-- Undo: sixteen copies of open pairs, stack and marks, and of the tree cache.
abbrev pub COPIES : ℕ
COPIES = 214155

-- Not used, to the end of work.
abbrev pub FREE : ℕ
FREE = 477867

-- The most entries, and the slots of their table.
abbrev pub ENTRIES : ℕ
ENTRIES = 3072

abbrev pub SLOTS : ℕ
SLOTS = 4096

-- The most parents of an entry.
abbrev pub MAX_PARENTS : ℕ
MAX_PARENTS = 100

-- The most entries on the stack.
abbrev pub DEPTH : ℕ
DEPTH = 4097

-- The words of one undo copy.
abbrev pub COPY : ℕ
COPY = 16482

pub record Region : Type 0 where
  pub offset : ℕ
  pub size : ℕ

-- Each region with its size, in order.
abbrev pub regions : List Region
regions =
    record { offset = ATOMS; size = 2048 } ∷
    record { offset = PAIRS; size = 2048 } ∷
    record { offset = FIRST; size = 1024 } ∷
    record { offset = ATOM_LENGTHS; size = 1024 } ∷
    record { offset = ATOM_HEADS; size = 1024 } ∷
    record { offset = ATOM_NEXT; size = 1024 } ∷
    record { offset = ATOM_COUNT; size = 1 } ∷
    record { offset = PAIR_COUNT; size = 1 } ∷
    record { offset = SENTINEL; size = 1 } ∷
    record { offset = OPEN; size = 4096 } ∷
    record { offset = STACK; size = 4097 } ∷
    record { offset = BELOW; size = 4097 } ∷
    record { offset = TOPS; size = 3072 } ∷
    record { offset = WRITTEN; size = 96 } ∷
    record { offset = MOVED; size = 50 } ∷
    record { offset = MAPS; size = 1024 } ∷
    record { offset = SENTINEL_ENTRY; size = 1 } ∷
    record { offset = USED; size = 1 } ∷
    record { offset = COUNTS; size = 3072 } ∷
    record { offset = LEFT; size = 3072 } ∷
    record { offset = RIGHT; size = 3072 } ∷
    record { offset = LOW; size = 3072 } ∷
    record { offset = HIGH; size = 3072 } ∷
    record { offset = NEXT; size = 3072 } ∷
    record { offset = HEADS; size = 4096 } ∷
    record { offset = PARENTS; size = 153600 } ∷
    record { offset = SEEN; size = 96 } ∷
    record { offset = PREVS; size = 1025 } ∷
    record { offset = NODES; size = 1025 } ∷
    record { offset = LENS; size = 1025 } ∷
    record { offset = PATHS; size = 9999 } ∷
    record { offset = COPIES; size = 263712 } ∷
    []

-- Regions one after the other, none before `from`, the last one's end at `most` at the latest. So no two meet.
abbrev pub Apart : (from most : ℕ) → List Region → Type 0
Apart from most [] = from ≤ most
Apart from most (r ∷ rs) = (from ≤ r.offset) × Apart (r.offset + r.size) most rs

-- The regions are apart, and end where FREE begins.
pub regions_apart : Apart 0 FREE regions
regions_apart = omega arith

-- So many words of work are not used after them.
pub free_words : FREE + 46421 ≡ WORK
free_words = refl
