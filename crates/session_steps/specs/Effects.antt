-- An add, or a quote of it: what it takes, and what it leaves.
use Rattle.std.specs.Prelude.{ℕ, ◌+◌, ◌*◌, ◌≤◌, ◌<◌, ◌≡◌, Bool, true, false, List, length, Option, Some, Result}
use Rattle.words.specs.Words.{at}
use Rattle.allocator.specs.declared.NodePtr.{NodePtr}
use Rattle.file_parts.specs.declared.session_file.NextStep.{NextStep}
use Rattle.file_parts.specs.declared.session_file.Step.TheVariants as code
use Rattle.work_layout.specs.Layout.{PAIR_COUNT, USED, ENTRIES}
use Rattle.work_layout.specs.Rows.{all_counts}
use Rattle.cache_undo.specs.undo_state.Effects.{Saved}
use Rattle.cache_undo.specs.cache_copy.Effects.{CacheCopied}
use Rattle.cache_entries.specs.Meaning.{Names, unmapped}
use Rattle.cache_entries.specs.Effects.{Updated}
use Rattle.write_place.specs.State.{AtomPlaces, Running}
use Rattle.write_loop.specs.Effects.{Turns, ended}
use Rattle.write_loop.specs.declared.write_turn.Next.TheVariants as next
use Rattle.write_place.specs.declared.Place.{Place}
use Rattle.write_place.specs.declared.Outcome.{Outcome}
use Rattle.write_place.specs.declared.Refused.{Refused}
use Rattle.session_state.specs.declared.progress.Progress.{Progress}
use Rattle.session_state.specs.Moves.{after_outcome}

-- An add at a place of the file, or a quote of it.
abbrev pub told_add : (quotes : Bool) → NodePtr → (next : ℕ) → Option NextStep
told_add false node next = Some (record { step = code.Add node; next = next })
told_add true node next = Some (record { step = code.Quote node; next = next })

-- The state p of the words is saved.
pub record StateSaved (w w' : List ℕ) (p : Progress) : Type 0 where
  pub saved : Saved w w' p.adds p.opens p.depth
  pub cache : p.forgets ≡ true → CacheCopied w w' p.adds

-- What an add takes.
pub record Adding (input w out : List ℕ) (p : Progress) (h : ℕ) : Type 0 where
  pub places : AtomPlaces input w
  pub running : Running w out p.opens p.depth p.counts 0
  pub names : Names w (at w PAIR_COUNT) h
  pub room : at w USED + 2 * unmapped w (at w PAIR_COUNT) < ENTRIES
  pub counts : all_counts w ENTRIES + 2 * unmapped w (at w PAIR_COUNT) ≤ 2048
  pub few : p.adds < 16

abbrev pub place_at : Progress → Place
place_at p = record { opens = p.opens; depth = p.depth; counts = p.counts }

-- The state is saved, the tree entered in the cache, and written up to the next open place.
pub record Added (input w out w' out' : List ℕ) (p : Progress) (node : NodePtr) (q : Progress) : Type 0 where
  pub saved_words : List ℕ
  pub updated_words : List ℕ
  pub outcome : Result Outcome Refused
  pub saved : StateSaved w saved_words p
  pub saved_long : length saved_words ≡ length w
  pub updated : Updated saved_words updated_words node.0
  pub updated_long : length updated_words ≡ length w
  pub resumed : Turns p.measure input updated_words w' out out' (next.Parse (place_at p) node) (ended outcome)
  pub long : length w' ≡ length w
  pub out_long : length out' ≡ length out
  pub is : q ≡ after_outcome p outcome
