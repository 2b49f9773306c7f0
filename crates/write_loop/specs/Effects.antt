-- What a turn of the writer's loop does, and the whole loop: what comes next, when the words are sound there, and what the definitions make of it.
use Rattle.std.specs.Prelude.{ℕ, ◌+◌, ◌-◌, ◌*◌, ◌^◌, ◌≤◌, ◌<◌, ◌≡◌, List, ◌∷◌, length, take, Result, Ok, Err, Option}
use Rattle.words.specs.Words.{at}
use Rattle.path.specs.declared.Measure.{Measure}
use Rattle.path.specs.Measure.{measure_of}
use Rattle.allocator.specs.declared.NodePtr.{NodePtr}
use Rattle.allocator.specs.Handle.{node_of}
use Rattle.spec_session.specs.File.{File}
use Rattle.spec_session.specs.Unfold.{unfolded}
use Rattle.spec_session.specs.Cache.{Cache}
use Rattle.spec_session.specs.Items.{atom_item}
use Rattle.spec_session.specs.Writer as session
use Rattle.spec_session.specs.Writer.{Todo, parse, Written, resume}
use Rattle.spec_session.specs.Steps.{room_in}
use Rattle.spec_session.specs.FindPath.{find_in}
use Rattle.work_layout.specs.Layout.{PAIR_COUNT, SENTINEL}
use Rattle.cache_stack.specs.Effects.{PushedMarked, PoppedTwo}
use Rattle.write_counts.specs.declared.Counts.{Counts}
use Rattle.write_item.specs.declared.OutputFull.{OutputFull}
use Rattle.write_item.specs.Answers.{ItemPut}
use Rattle.cache_entries.specs.Meaning.{bytes_named, Tables, Names}
use Rattle.cache_entries.specs.lookup.Effects.{PairEntry, EntryOf}
use Rattle.search_find.specs.Effects.{LengthOf, Ready, FindsIn}
use Rattle.write_place.specs.declared.Place.{Place}
use Rattle.write_loop.specs.declared.write_turn.Next.{Next}
use Rattle.write_loop.specs.declared.write_turn.Next.TheVariants.{Parse, Close, Done, Stopped, Refused}
use Rattle.write_place.specs.declared.Refused as refused_add
use Rattle.write_place.specs.declared.Outcome.{Outcome}
use Rattle.write_place.specs.declared.AddError.TheVariants as add_error
use Rattle.write_place.specs.Numbers.{question_of}
use Rattle.write_place.specs.declared.Outcome.TheVariants as outcome
use Rattle.write_place.specs.State.{AtomsThere, todo_of, Running, Writes, WriterOnly}

-- ---- what comes next

abbrev pub place_of : Next → Place
place_of (Parse p h) = p
place_of (Close p) = p
place_of (Done p) = p
place_of (Stopped p) = p
place_of (Refused x p) = p

-- The words are sound at a place.
abbrev pub Runs : (w out : List ℕ) → Place → (values : ℕ) → Type 0
Runs w out p v = Running w out p.opens p.depth p.counts v

-- A node comes next, or a value was written and is on the stack. At the end no pair is open.
abbrev pub Fine : (w out : List ℕ) → Next → Type 0
Fine w out (Parse p h) = Runs w out p 0 × Names w (at w PAIR_COUNT) h.0
Fine w out (Close p) = Runs w out p 1
Fine w out (Done p) = Runs w out p 1 × (p.opens ≡ 0)
Fine w out (Stopped p) = Runs w out p 0
Fine w out (Refused x p) = Runs w out p 0

-- All that is left to write, in the definitions, with this measure of a path and an output of so many bytes.
abbrev pub goes_on : Measure → Cache → (space : ℕ) → List Todo → Written → session.Outcome
goes_on m c space k s = resume (find_in (measure_of m)) (room_in space) c k s

-- What the definitions make of what comes next.
abbrev pub comes_to : Measure → File → Cache → (space : ℕ) → List ℕ → Next → Written → session.Outcome
comes_to m f c space w (Parse p h) s = goes_on m c space (parse (unfolded f h.0) ∷ todo_of f w p.opens) s
comes_to m f c space w (Close p) s = goes_on m c space (todo_of f w p.opens) s
comes_to m f c space w (Done p) s = session.done s
comes_to m f c space w (Stopped p) s = session.stopped (todo_of f w p.opens) s
comes_to m f c space w (Refused x p) s = session.refused (question_of x) s

-- ---- turns

-- What is written is now this, and the outcome is that of what comes next.
pub record Leads (m : Measure) (f : File) (c : Cache) (space : ℕ) (w out : List ℕ) (r : Next) (o : session.Outcome) : Type 0 where
  pub last : Written
  pub writes : Writes f w out (place_of r).depth (place_of r).counts c last
  pub same : o ≡ comes_to m f c space w r last

-- From b on, r comes next, by the measure m.
pub record Turns (m : Measure) (file w w' out out' : List ℕ) (b r : Next) : Type 0 where
  pub fine : Fine w' out' r
  pub only : WriterOnly w w'
  pub grows : (place_of b).counts.size ≤ (place_of r).counts.size
  -- The bytes written before stay.
  pub before : take (place_of b).counts.size out' ≡ take (place_of b).counts.size out
  pub leads : (f : File) (c : Cache) (s : Written) → Tables f w → AtomsThere file f w → Writes f w out (place_of b).depth (place_of b).counts c s
      → Leads m f c (length out) w' out' r (comes_to m f c (length out) w b s)

-- How far the loop is from its end: a byte at least is written for each node, and 4,096 pairs at most are closed after it.
abbrev pub ahead : (space : ℕ) → Next → ℕ
ahead space (Parse p h) = (space - p.counts.size) * 4098 + 1
ahead space (Close p) = (space - p.counts.size) * 4098 + p.opens + 2
ahead space (Done p) = 0
ahead space (Stopped p) = 0
ahead space (Refused x p) = 0

abbrev pub Falls : (space : ℕ) → (b r : Next) → Type 0
Falls space b r = ahead space r < ahead space b

-- ---- an item

-- A place where the path for node h, of entry e, was looked for, by some measure.
pub record Found (w out : List ℕ) (p : Place) (h e : ℕ) (path : Option ℕ) : Type 0 where
  pub running : Runs w out p 0
  pub names : Names w (at w PAIR_COUNT) h
  pub inner : at w SENTINEL ≡ h → ⊥
  pub entry : EntryOf w h e
  pub ready : Ready w path

-- From there on, r comes next, by whichever measure the path was looked for.
abbrev pub TurnsFound : (file w w' out out' : List ℕ) (p : Place) (node : NodePtr) (e : ℕ) (path : Option ℕ) → Next → Type 0
TurnsFound file w w' out out' p node e path r =
    ((m : Measure) → FindsIn m w w p.depth node.0 e path → Turns m file w w' out out' (Parse p node) r) × Falls (length out) (Parse p node) r

-- The bytes of the atom h were put into the output.
pub record AtomPut (file w : List ℕ) (h : ℕ) (out out' : List ℕ) (counts : Counts) (r : Result Counts OutputFull) : Type 0 where
  pub bytes : List ℕ
  pub short : length bytes < 2 ^ 34
  pub are : (f : File) → Tables f w → AtomsThere file f w → bytes_named f (node_of h) ≡ bytes
  pub answer : ItemPut out out' counts (atom_item bytes) r

-- Entry e goes on the stack, and is marked written where its length is at least 4.
pub record Stacks (w w' : List ℕ) (d e : ℕ) : Type 0 where
  pub len : ℕ
  pub length_is : LengthOf w e len
  pub pushed : PushedMarked w w' d e len

-- After an item for a whole subtree of entry e: the entry goes on the stack, or question 13 gets no.
abbrev pub Pushes : (w w' : List ℕ) → Place → (e : ℕ) → Result Counts OutputFull → Next → Type 0
Pushes w w' p e (Ok n) r = (r ≡ Close (record { opens = p.opens; depth = p.depth + 1; counts = n })) × Stacks w w' p.depth e
Pushes w w' p e (Err x) r = (r ≡ Refused add_error.OutputFull p) × (w' ≡ w)

-- The two topmost entries go, and that of pair i comes.
pub record Closes (w w' : List ℕ) (d i : ℕ) : Type 0 where
  pub middle : List ℕ
  pub long : length middle ≡ length w
  pub popped : PoppedTwo w middle d
  pub entry : ℕ
  pub entry_is : PairEntry middle i entry
  pub stacks : Stacks middle w' (d - 2) entry

-- ---- the end of the loop

abbrev pub ended : Result Outcome refused_add.Refused → Next
ended (Ok (outcome.Done p)) = Done p
ended (Ok (outcome.Stopped p)) = Stopped p
ended (Err r) = Refused r.error r.place
