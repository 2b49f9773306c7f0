-- DEMAND 3 of the session calls: one claim about a whole file, a refused last step included, from one argument that takes the measure of a path as given.
-- No step that was taken is a `02`; the last one taken is no `04`, and its first word says finished. The adds that survive keep 01's premises. Then the reading call
-- accepts the finished bytes, which are the first `size` bytes of the output at the end of the run, and gives a root whose tree is the plain filling's whole
-- tree; the bytes are those of the items that the writer makes of the surviving adds, so references stand exactly where 01's search rules put them (`write`
-- puts a reference at a subtree exactly where `find_in` gives a path), and each takes at most as many bytes as its subtree in full; and the next step, where
-- there is one, is refused, and bytes and tree stay.
-- Finished is asked of the final state: a finish that a later `03` takes back is no claim about the final output. `read_back_run` is of any steps over the
-- file, so it holds at every prefix of its own steps.
-- Assumes nothing.
use Rattle.std.specs.Prelude.{ℕ, suc, ◌+◌, ◌*◌, ◌%◌, ◌<◌, ◌≡◌, Bool, true, List, ◌++◌, map, length, take}
use Rattle.std.proofs.Math.Option.{Option, none, some}
use Rattle.words.specs.Lists.{All, Bytes}
use Rattle.words.specs.Words.{at}
use Rattle.spec_reading.specs.Tree.{Tree}
use Rattle.spec_reading.specs.Call as read
use Rattle.spec_reading.specs.Promise.{ReadAs}
use Rattle.spec_session.specs.File.{File, Step, add, Limits, got, file}
use Rattle.spec_session.specs.Unfold.{unfolded}
use Rattle.spec_session.specs.Filling.{plain_filling}
use Rattle.spec_session.specs.Survivors.{survivors}
use Rattle.spec_session.specs.Premises.{opens, Apart, NoRestore, NoQuote, IfAny, number_after_finish}
use Rattle.spec_session.specs.Items.{output, read_items, NoLonger}
use Rattle.spec_session.specs.Writer.{Session, start, added, add_all}
use Rattle.spec_session.specs.Trees.{nth}
use Rattle.spec_session.specs.FindPath.{find_in}
use Rattle.spec_session.specs.Steps.{room_in}
use Rattle.spec_session.specs.Call.{Slices, Result, usable, session}

-- Of a step's three words, the first: "size × 2, plus 1 if finished".
abbrev pub Finished : (words : List ℕ) → (step : ℕ) → Type 0
Finished words k = at words (3 * k) % 2 ≡ 1

-- What demand 3 says of a session's result r, where step k is the last one taken, its first word says finished, `handles` are those of the adds that survive, and
-- `next` is the step after it, if there is one.
pub record ReadBack {C : Type 0} (measure : List Bool → ℕ) (l : Limits) (f : File) (handles : List ℕ) (k : ℕ) (next : Option Step) (r : Result C) : Type 0 where
  -- What the writer makes of these adds, on a fresh session: a reference exactly where the search gives a path that is used.
  pub made : Session
  pub wrote : add_all (find_in measure) (room_in (usable l r.slices)) (map (unfolded f) handles) start ≡ added made
  pub is_finished : made.waiting ≡ none
  -- The finished bytes are those of its items.
  pub size_is : r.answer.size ≡ length (output made.written.items)
  pub bytes_are : take r.answer.size r.slices.output ≡ output made.written.items
  -- The plain filling is a whole tree after these adds, and stays so: any that are fed further are refused.
  pub tree : Tree
  pub is_whole : opens tree ≡ 0
  pub filling : plain_filling f handles ≡ tree
  pub stays : (more : List ℕ) → plain_filling f (handles ++ more) ≡ tree
  -- The finished bytes, read with any slices that pass question 1, give that tree.
  pub reads : (lent : read.Slices) → read.long_enough lent ≡ true → ReadAs (read.reading (take r.answer.size r.slices.output) lent) tree
  -- The items read as that tree too, and each reference takes at most as many bytes as its subtree in full.
  pub items_read : read_items made.written.items ≡ some tree
  pub no_longer : NoLonger made.written.items
  -- The word has the size, this step was the last one taken, and the next one, where there is one, gets its number: 9 at an add or a quote, 11 at an undo, 17
  -- at a `05`.
  pub word : at r.slices.words (3 * k) ≡ r.answer.size * 2 + 1
  pub last : r.answer.steps ≡ suc k
  pub number_is : r.answer.number ≡ number_after_finish next

-- Demand 3 of the session call with these limits and this measure, of the adds that survive the file's steps.
abbrev pub Demand3 : {C : Type 0} → (blank : C) → Limits → (measure : List Bool → ℕ) → Type 0
Demand3 {C} blank l measure =
    (input : List ℕ) → Bytes input → (f : File) (rest : List ℕ) → file l input ≡ got f rest → (slices : Slices C) (k : ℕ)
    → suc k ≡ (session blank l measure input slices).answer.steps
    → All NoRestore (take (suc k) f.steps) → IfAny NoQuote (nth f.steps k) → Finished (session blank l measure input slices).slices.words k
    → Apart (map (unfolded f) (survivors (take (suc k) f.steps)))
    → ReadBack measure l f (survivors (take (suc k) f.steps)) k (nth f.steps (suc k)) (session blank l measure input slices)

-- And of a file of adds alone: there any add whose first word says finished is the last one taken.
abbrev pub Demand3Adds : {C : Type 0} → (blank : C) → Limits → (measure : List Bool → ℕ) → Type 0
Demand3Adds {C} blank l measure =
    (input : List ℕ) → Bytes input → (f : File) (rest : List ℕ) → file l input ≡ got f rest
    → (handles : List ℕ) → f.steps ≡ map add handles → (slices : Slices C) (k : ℕ)
    → k < (session blank l measure input slices).answer.steps → Finished (session blank l measure input slices).slices.words k
    → Apart (map (unfolded f) (take (suc k) handles))
    → ReadBack measure l f (take (suc k) handles) k (nth (map add handles) (suc k)) (session blank l measure input slices)
