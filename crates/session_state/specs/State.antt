-- What the slices hold between two steps of a session, and what they mean: a session of the definitions, and the states before its adds.
use Rattle.std.specs.Prelude.{ℕ, ◌+◌, ◌-◌, ◌*◌, ◌≤◌, ◌<◌, ◌≡◌, Bool, true, false, cond, List, [], ◌∷◌, ◌++◌, ltb, length, get_or, take}
use Rattle.std.proofs.Math.Option.{Option, none, some}
use Rattle.words.specs.Words.{at}
use Rattle.words.specs.Lists.{All}
use Rattle.session_state.specs.Records.{blank}
use Rattle.session_state.specs.declared.checkpoints.Checkpoint.{Checkpoint}
use Rattle.path.specs.declared.Measure.{Measure}
use Rattle.path.specs.Measure.{measure_of}
use Rattle.spec_session.specs.File.{File, Got, got, refused, Step, add, restore, forget, quote, take_quote, file, version_1}
use Rattle.spec_session.specs.Places.{StepsAt, StepNamed}
use Rattle.spec_session.specs.Items.{size_of, output}
use Rattle.spec_session.specs.Cache.{Cache}
use Rattle.spec_session.specs.Writer.{Todo, Session}
use Rattle.spec_session.specs.Trees.{nth}
use Rattle.spec_session.specs.Steps.{words_of, restored, State, at_start, went, run_step, Run, run_steps}
use Rattle.spec_session.specs.Extends.{Extends}
use Rattle.file_parts.specs.Loaded.{forgets}
use Rattle.work_layout.specs.Layout.{PAIR_COUNT, OPEN, STACK, WRITTEN, SENTINEL_ENTRY, USED, ENTRIES}
use Rattle.work_layout.specs.Rows.{all_counts}
use Rattle.cache_undo.specs.undo_state.Effects.{copied_open, copied_stack, copied_marks}
use Rattle.cache_undo.specs.cache_copy.Effects.{CacheCopied}
use Rattle.cache_entries.specs.Meaning.{Tables, unmapped}
use Rattle.write_counts.specs.declared.Counts.{Counts}
use Rattle.write_place.specs.State.{AtomPlaces, AtomsThere, todo_of, Running, Writes}
use Rattle.session_state.specs.declared.progress.Progress.{Progress}
use Rattle.path.specs.Bytes.{bit}
use Rattle.session_state.specs.Moves.{counts_in}

-- ---- the file of the bytes, and its whole run

abbrev pub contents_of : Got File → File
contents_of (got f rest) = f
contents_of (refused n) = record { atoms = []; pairs = []; sentinel = none; steps = [] }

-- The file that the bytes are.
unfoldable pub the_file : List ℕ → File
the_file input = contents_of (file version_1 input)

-- The run of its steps, by this measure of a path and with so many bytes of output.
unfoldable pub whole_run : Measure → File → (space : ℕ) → Run
whole_run m f space = run_steps (measure_of m) space f f.steps at_start

abbrev pub standing : (past : List Session) → Session → State
standing past s = record { now = s; past = past; quoted = none }

-- A run after n steps that are finished, and their words.
abbrev pub after_words : (n : ℕ) → List ℕ → Run → Run
after_words n ws r = record { words = ws ++ r.words; steps = n + r.steps; number = r.number; last = r.last }

-- ---- one state

-- Room for what the steps that are left can add to the cache.
pub record Roomy (w : List ℕ) (steps : ℕ) : Type 0 where
  pub entries : at w USED + 2 * unmapped w (at w PAIR_COUNT) ≤ 2048 + steps
  pub counts : all_counts w ENTRIES + 2 * unmapped w (at w PAIR_COUNT) ≤ 2048

abbrev pub waits : Bool → List Todo → Option (List Todo)
waits true k = none
waits false k = some k

-- Work and output hold the session s.
pub record At (f : File) (w out : List ℕ) (opens depth : ℕ) (counts : Counts) (finished : Bool) (s : Session) : Type 0 where
  pub running : Running w out opens depth counts (bit finished)
  pub writes : Writes f w out depth counts s.cache s.written
  pub waiting : s.waiting ≡ waits finished (todo_of f w opens)

-- ---- the state before an add

-- Record r and copy k hold the session u before add k. A record has the open pairs, the depth of the stack, what was counted, and one more than the sentinel's
-- entry. A copy has the cache too where the file has a `03` or a `04`.
pub record Before (f : File) (w out : List ℕ) (forgetting : Bool) (steps k : ℕ) (r : Checkpoint) (u : Session) : Type 0 where
  -- The words at that time.
  pub words_then : List ℕ
  pub stood : At f words_then out r.opens r.depth (counts_in r) false u
  pub entry_is : r.sentinel ≡ at words_then SENTINEL_ENTRY
  pub tables_same : (j : ℕ) → j < OPEN → at w j ≡ at words_then j
  pub open_pairs : (i : ℕ) → i < r.opens → at w (copied_open k + i) ≡ at words_then (OPEN + i)
  pub places : (i : ℕ) → i < r.depth → at w (copied_stack k + i) ≡ at words_then (STACK + i)
  pub marks : (i : ℕ) → i < 96 → at w (copied_marks k + i) ≡ at words_then (WRITTEN + i)
  pub room_then : Roomy words_then steps
  pub cache_then : forgetting ≡ true → CacheCopied words_then w k

-- The bytes written at record k.
abbrev pub size_at : List Checkpoint → ℕ → ℕ
size_at rows k = (get_or rows k blank).size

-- The sessions before the first n adds, of a session with the cache c. Each cache has all entries of those before it.
pub record History (f : File) (w out : List ℕ) (rows : List Checkpoint) (forgetting : Bool) (steps size n : ℕ) (past : List Session) (c : Cache) : Type 0 where
  pub long : length past ≡ n
  pub befores : (k : ℕ) (u : Session) → nth past k ≡ some u → Before f w out forgetting steps k (get_or rows k blank) u
  pub sizes : (k : ℕ) → k < n → size_at rows k ≤ size
  pub ordered : (j k : ℕ) → j < k → k < n → size_at rows j ≤ size_at rows k
  pub extended : (k : ℕ) (u : Session) → nth past k ≡ some u → Extends u.cache c
  pub older : (j k : ℕ) (u v : Session) → j < k → nth past j ≡ some u → nth past k ≡ some v → Extends u.cache v.cache

-- ---- an open quote

-- The state st of the definitions, where a session and those before its adds are held. While a quote is open its add stands: held is what the taking leaves.
abbrev pub Shows : Measure → (quoted : Bool) → File → (space : ℕ) → State → (past : List Session) → Session → Type 0
Shows m false f space st past s = st ≡ standing past s
Shows m true f space st past s = (run_step (measure_of m) space f take_quote st ≡ went (words_of s) (standing past s)) × (past ≡ st.past ++ st.now ∷ [])

-- ---- a run under way

-- What work holds of the file, and room for what the steps that are left can add to the cache.
pub record Stocked (input : List ℕ) (f : File) (w : List ℕ) (steps : ℕ) : Type 0 where
  pub tables : Tables f w
  pub places : AtomPlaces input w
  pub atoms_there : AtomsThere input f w
  pub room : Roomy w steps

pub record Underway (m : Measure) (input : List ℕ) (f : File) (w words : List ℕ) (rows : List Checkpoint) (out : List ℕ) (p : Progress) : Type 0 where
  pub left : List Step
  pub past : List Session
  pub session : Session
  pub present : At f w out p.opens p.depth p.counts p.finished session
  pub stocked : Stocked input f w p.steps
  pub history : History f w out rows p.forgets p.steps p.counts.size p.adds past session.cache
  -- The flag is set before the first step.
  pub known : p.forgets ≡ false → forgets left ≡ false
  pub few_adds : p.adds ≤ 16
  pub goes : p.done ≡ false
  pub steps_there : StepsAt input p.at left
  pub steps_named : All (StepNamed (length f.atoms) (length f.pairs)) left
  pub few_steps : p.steps + length left ≤ 1024
  pub many_rows : 16 ≤ length rows
  pub many_words : 3072 ≤ length words
  -- The cache before an open quote is saved.
  pub quote_saved : p.quoted ≡ true → p.forgets ≡ true
  pub state : State
  pub shown : Shows m p.quoted f (length out) state past session
  pub measure_is : p.measure ≡ m
  pub same : whole_run m f (length out) ≡ after_words p.steps (take (3 * p.steps) words) (run_steps (measure_of m) (length out) f left state)

-- The run is over: no step is left, or one is refused.
pub record Ended (m : Measure) (f : File) (words out : List ℕ) (p : Progress) : Type 0 where
  pub session : Session
  pub size_is : p.counts.size ≡ size_of session.written.items
  pub bytes_are : take p.counts.size out ≡ output session.written.items
  pub short : length out ≤ 65535
  pub few_steps : p.steps ≤ 1024
  pub many_words : 3072 ≤ length words
  pub same : whole_run m f (length out) ≡ record { words = take (3 * p.steps) words; steps = p.steps; number = p.number; last = session }

abbrev pub Stands : (m : Measure) (input : List ℕ) (f : File) (w words : List ℕ) (rows : List Checkpoint) (out : List ℕ) (p : Progress) → Bool → Type 0
Stands m input f w words rows out p true = Ended m f words out p
Stands m input f w words rows out p false = Underway m input f w words rows out p

-- A record's number, or 0.
abbrev pub low_slot : ℕ → ℕ
low_slot n = cond (ltb n 16) n 0

-- The record that a step takes, and stores: of an add or a quote its own; of an undo the one that it names; while a quote is open, that of its add.
abbrev pub slot_for : (quoted : Bool) → List Step → (adds : ℕ) → ℕ
slot_for true steps adds = low_slot (adds - 1)
slot_for false [] adds = 0
slot_for false (add h ∷ steps) adds = low_slot adds
slot_for false (restore n ∷ steps) adds = low_slot n
slot_for false (forget n ∷ steps) adds = low_slot n
slot_for false (quote h ∷ steps) adds = low_slot adds
slot_for false (take_quote ∷ steps) adds = 0

-- ---- an add, or a quote of it

abbrev pub add_of : (quotes : Bool) → (handle : ℕ) → Step
add_of false h = add h
add_of true h = quote h

-- ---- an undo, which forgets or not

abbrev pub undo_of : (forgets : Bool) → (n : ℕ) → Step
undo_of false n = restore n
undo_of true n = forget n

-- The session that it leaves, from the one before the add and the present one.
abbrev pub undone : (forgets : Bool) → (before now : Session) → Session
undone false b s = restored b s
undone true b s = b
