-- An undo, which forgets or not: what it takes, and what it leaves.
use Rattle.std.specs.Prelude.{ℕ, ◌+◌, ◌≤◌, ◌<◌, ◌≡◌, Bool, true, false, List, length, set}
use Rattle.words.specs.Words.{at, WORK}
use Rattle.session_state.specs.declared.checkpoints.Checkpoint.{Checkpoint}
use Rattle.work_layout.specs.Layout.{SENTINEL_ENTRY, ENTRIES, DEPTH}
use Rattle.cache_stack.specs.Effects.{Stacked}
use Rattle.cache_undo.specs.undo_state.Effects.{copied_stack}
use Rattle.cache_undo.specs.Effects.{Restored}
use Rattle.cache_undo.specs.cache_copy.Effects.{Bringable, CacheBrought}
use Rattle.session_state.specs.Stored.{with_entry}

-- What a forget asks of copy n: it has the cache of some words v.
abbrev pub Brings : (forgets : Bool) → List ℕ → (n : ℕ) → Type 0
Brings false w n = Unit {0}
Brings true w n = (n < 16) × (v : List ℕ) × Bringable v w n

-- The cache is that of the words v, with the sentinel's entry s.
pub record Forgotten (v w w' : List ℕ) (s : ℕ) : Type 0 where
  pub brought_words : List ℕ
  pub brought_long : length brought_words ≡ length w
  pub brought : CacheBrought v w brought_words
  pub is : w' ≡ set brought_words SENTINEL_ENTRY s

-- A restore brings back the sentinel's entry of record r, a forget the whole cache.
abbrev pub CacheBack : (forgets : Bool) → (w w' : List ℕ) → (n : ℕ) → Checkpoint → Type 0
CacheBack false w w' n r = w' ≡ with_entry w r.sentinel
CacheBack true w w' n r = (v : List ℕ) → Bringable v w n → Forgotten v w w' r.sentinel

-- What an undo takes: copy n and record r, on a stack of so many entries.
pub record Undoing (forgets : Bool) (w : List ℕ) (depth n : ℕ) (r : Checkpoint) : Type 0 where
  pub long : WORK ≤ length w
  pub stacked : Stacked w depth
  pub few : n < 16
  pub few_opens : r.opens ≤ 4096
  pub deep : r.depth ≤ DEPTH
  pub entries : (i : ℕ) → i < r.depth → at w (copied_stack n + i) < ENTRIES
  pub cache : Brings forgets w n

-- Copy n and record r are the present state.
pub record Undone (forgets : Bool) (w w' : List ℕ) (n : ℕ) (r : Checkpoint) : Type 0 where
  pub cache_words : List ℕ
  pub cache_long : length cache_words ≡ length w
  pub cache : CacheBack forgets w cache_words n r
  pub restored : Restored cache_words w' n r.opens r.depth
