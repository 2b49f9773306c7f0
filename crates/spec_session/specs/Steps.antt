-- The steps of a session: 9 to 13 and 17, undo, quotes, and the words of each finished step.
use Rattle.std.specs.Prelude.{ℕ, suc, ◌+◌, ◌*◌, Bool, true, false, cond, List, [], ◌∷◌, ◌++◌, ltb, length, take}
use Rattle.std.proofs.Math.Option.{Option, none, some}
use Rattle.spec_session.specs.File.{File, Step, add, restore, forget, quote, take_quote}
use Rattle.spec_session.specs.Unfold.{unfolded}
use Rattle.spec_session.specs.Items.{Item, cons_item, atom_item, reference_item, item_size, size_of, references, prefix_bytes}
use Rattle.spec_session.specs.Writer.{Todo, parse, close, Session, start, Added, added, turned_down, add_tree}
use Rattle.spec_session.specs.Trees.{nth}
use Rattle.spec_session.specs.FindPath.{find_in}

-- The pairs that are open: those whose end is left to write.
abbrev pub open_pairs : List Todo → ℕ
open_pairs [] = 0
open_pairs (parse u ∷ k) = open_pairs k
open_pairs (close h ∷ k) = suc (open_pairs k)

-- Question 12: before a pair's `ff`, are fewer than 4,096 pairs open?
abbrev pub too_deep : Item → List Todo → Bool
too_deep cons_item k = ltb 4095 (open_pairs k)
too_deep (atom_item bytes) k = false
too_deep (reference_item path) k = false

-- Questions 12 and 13, before an item: 13 asks whether it fits in `space` bytes.
abbrev pub room_in : (space : ℕ) → List Todo → List Item → Item → ℕ
room_in space k items i = cond (too_deep i k) 12 (cond (ltb space (size_of items + item_size i)) 13 0)

-- ---- what a step writes

abbrev pub finished_bit : Option (List Todo) → ℕ
finished_bit none = 1
finished_bit (some k) = 0

-- The size times 2, and 1 more where the session is finished.
abbrev pub word_of : Session → ℕ
word_of s = size_of s.written.items * 2 + finished_bit s.waiting

-- "A step now writes three words: the old one, references written so far, and prefix bytes so far, paths included."
abbrev pub words_of : Session → List ℕ
words_of s = word_of s ∷ references s.written.items ∷ prefix_bytes s.written.items ∷ []

-- ---- undo

-- A sentinel's entry that was not there before the first add stays known.
abbrev pub or_known : Option ℕ → Option ℕ → Option ℕ
or_known (some s) now = some s
or_known none now = now

-- What `02` brings back of the session before an add. Entries, parents and the handles mapped stay.
abbrev pub restored : (before now : Session) → Session
restored b s =
    record {
      cache = record { entries = s.cache.entries; mapped = s.cache.mapped; sentinel_entry = or_known b.cache.sentinel_entry s.cache.sentinel_entry };
      waiting = b.waiting;
      written = b.written;
    }

-- ---- one step

-- Where a session stands between two steps.
pub record State : Type 0 where
  pub now : Session
  -- The whole session before each add on the present history.
  pub past : List Session
  -- The handle of the open quote.
  pub quoted : Option ℕ

abbrev pub at_start : State
at_start = record { now = start; past = []; quoted = none }

pub data Stepped : Type 0 where
  -- The step is finished, with these words.
  went : (words : List ℕ) → State → Stepped
  -- It is refused, and the run ends with this session.
  halted : (number : ℕ) → Session → Stepped

-- Question 9: at an add, is the session unfinished? Question 10: are there fewer than 16 adds on the present history?
abbrev pub unless_full : Option (List Todo) → (full : Bool) → Session → Stepped → Stepped
unless_full none full s x = halted 9 s
unless_full (some k) true s x = halted 10 s
unless_full (some k) false s x = x

-- An add that 12 or 13 refuses leaves the whole items written.
abbrev pub after_add : Added → State → Stepped
after_add (added t) st = went (words_of t) (record { now = t; past = st.past ++ st.now ∷ []; quoted = none })
after_add (turned_down n t) st = halted n t

-- "Step `04` with a handle writes the word an add would write and leaves the session and output unchanged." "Numbers 9, 10, 12 and 13 are given at the quote,
-- and output and size are then those before it."
abbrev pub after_quote : (handle : ℕ) → Added → State → Stepped
after_quote h (added t) st = went (words_of t) (record { now = st.now; past = st.past; quoted = some h })
after_quote h (turned_down n t) st = halted n st.now

-- The session b comes back, which stood before add n.
abbrev pub back_to : Session → (n : ℕ) → State → Stepped
back_to b n st = went (words_of b) (record { now = b; past = take n st.past; quoted = none })

-- Question 11: is the restore number below the count of adds on the present history?
abbrev pub after_restore : Option Session → (n : ℕ) → State → Stepped
after_restore none n st = halted 11 st.now
after_restore (some b) n st = back_to (restored b st.now) n st

-- "Step `03` with a 16-bit number puts back everything the session held before that add." "Number 11 applies to it as to `02`."
abbrev pub after_forget : Option Session → (n : ℕ) → State → Stepped
after_forget none n st = halted 11 st.now
after_forget (some b) n st = back_to b n st

module _ (measure : List Bool → ℕ) (space : ℕ) (f : File) where
  -- The add of a handle to a session: its unfolded tree, with 12 and 13.
  abbrev pub add_handle : (handle : ℕ) → Session → Added
  add_handle h s = add_tree (find_in measure) (room_in space) (unfolded f h) s

  abbrev pub add_step : (handle : ℕ) → State → Stepped
  add_step h st =
      let x = after_add (add_handle h st.now) st in
      unless_full st.now.waiting (ltb 15 (length st.past)) st.now x

  abbrev pub quote_step : (handle : ℕ) → State → Stepped
  quote_step h st =
      let x = after_quote h (add_handle h st.now) st in
      unless_full st.now.waiting (ltb 15 (length st.past)) st.now x

  -- "Step `05` then performs that add and closes the quote." "It refuses a `05` with no quote open, at that step, with 17."
  abbrev pub take_step : (quoted : Option ℕ) → State → Stepped
  take_step none st = halted 17 st.now
  take_step (some h) st = add_step h st

  -- "Any other step drops the quote."
  abbrev pub run_step : Step → State → Stepped
  run_step (add h) st = add_step h st
  run_step (restore n) st = after_restore (nth st.past n) n st
  run_step (forget n) st = after_forget (nth st.past n) n st
  run_step (quote h) st = quote_step h st
  run_step take_quote st = take_step st.quoted st

-- ---- the steps

-- The words of the finished steps, three for each, and how many steps they are; the number (0 where none is refused), and the session at the end.
pub record Run : Type 0 where
  pub words : List ℕ
  pub steps : ℕ
  pub number : ℕ
  pub last : Session

abbrev pub stop_at : ℕ → Session → Run
stop_at n s = record { words = []; steps = 0; number = n; last = s }

abbrev pub with_words : List ℕ → Run → Run
with_words ws r = record { words = ws ++ r.words; steps = suc r.steps; number = r.number; last = r.last }

abbrev pub after_step : Stepped → (State → Run) → Run
after_step (went ws st) next = with_words ws (next st)
after_step (halted n s) next = stop_at n s

-- The steps from a state on.
unfoldable pub run_steps : (measure : List Bool → ℕ) → (space : ℕ) → File → List Step → State → Run
run_steps measure space f [] st = stop_at 0 st.now
run_steps measure space f (x ∷ steps) st = after_step (run_step measure space f x st) (λ t. run_steps measure space f steps t)
