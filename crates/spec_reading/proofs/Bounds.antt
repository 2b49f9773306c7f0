-- On every input within the limit the store's reader stays sound at every state that it reaches, and what it accepts fits the slices.
use Rattle.std.specs.Prelude.{ℕ, ◌+◌, ◌≤◌, ◌≡◌, refl, List, [], ◌∷◌, length}
use Rattle.std.proofs.Common.{ap, subst, arith}
use Rattle.std.proofs.Math.Option.{Option, none, some}
use Rattle.words.specs.Lists.{Bytes}
use Rattle.spec_reading.specs.Format.{ParseOp, SExp, At, Step, go, whole, stop, Read, accepted, turned_down, step}
use Rattle.spec_reading.specs.Plain.{Plain, read_plain}
use Rattle.spec_reading.specs.Store.{Stored, pair_count, nothing_stored, store_values, read_stored}
use Rattle.spec_reading.specs.Sound.{Sound}
use Rattle.spec_reading.proofs.Sound.{SoundOption, sound_start, sound_pair, sound_atom, sound_path, sound_join}
use Rattle.spec_reading.proofs.Same.{BothOrNone, Alike, SameStep, SameRead, step_same}
use Rattle.spec_reading.proofs.Agree.{Agrees, read_agrees}

-- ---- what is accepted

pub record Bounds (s : Stored) : Type 0 where
  pub pairs_and_ghosts : pair_count s.store + s.store.ghosts ≤ 131072
  pub pair_words : length s.store.pairs ≤ 262144
  pub atom_words : length s.store.atoms ≤ 131072
  pub atom_bytes : length s.store.bytes ≤ 65535

pub sound_bounds : (used : ℕ) (ops : List ParseOp) (s : Stored) → used ≤ 65535 → Sound used ops s → Bounds s
sound_bounds used ops s m h =
    record {
      pairs_and_ghosts = omega (arith, h.pairs_bound);
      pair_words = omega (arith, h.pairs_bound, h.holds.pairs_even);
      atom_words = omega (arith, h.atoms_bound, h.holds.atoms_even);
      atom_bytes = omega (arith, h.bytes_bound);
    }

pub accepted_sound : (input : List ℕ) (s : Stored) → Bytes input → length input ≤ 65535 → read_stored input ≡ accepted s → Sound (length input) [] s
accepted_sound input s bs m e = both (read_plain input) (subst (λ (x : Read Stored). SameRead Agrees (length input) x (read_plain input)) e (read_agrees input bs m))
  where
    both : (y : Read Plain) → SameRead Agrees (length input) (accepted s) y → Sound (length input) [] s
    both (accepted p) h = h.sound
    both (turned_down n) h = absurd h

-- Pairs and ghost pairs stay at or below 131,072, so no refusal of the allocator can arise; pairs, atoms and atom bytes fit their slices.
pub accepted_bounds : (input : List ℕ) (s : Stored) → Bytes input → length input ≤ 65535 → read_stored input ≡ accepted s → Bounds s
accepted_bounds input s bs m e = sound_bounds (length input) [] s m (accepted_sound input s bs m e)

-- ---- every state

-- The states before an item.
pub data Reached (input : List ℕ) : At Stored → Type 0 where
  first : Reached input (record { rest = input; ops = []; values = nothing_stored })
  next : {a b : At Stored} → Reached input a → step store_values a ≡ go b → Reached input b

pub record SoundAt (total : ℕ) (a : At Stored) : Type 0 where
  pub used : ℕ
  pub counted : used + length a.rest ≡ total
  pub bytes : Bytes a.rest
  pub sound : Sound used (SExp ∷ a.ops) a.values

abbrev pub SoundStep : (total : ℕ) → Step Stored → Type 0
SoundStep total (go a) = SoundAt total a
SoundStep total (whole s) = Sound total [] s
SoundStep total (stop n) = Unit {0}

-- A reader beside itself.
record Twice (used : ℕ) (ops : List ParseOp) (s t : Stored) : Type 0 where
  sound : Sound used ops s
  same : s ≡ t

twice_alike : (total : ℕ) → total ≤ 65535 → Alike store_values store_values Twice total
twice_alike total m =
    record {
      pair_alike = λ used ops s t limit h. record { sound = sound_pair used ops s h.sound; same = h.same };
      atom_alike = λ used n ops b s t one fit limit bs h.
          record { sound = sound_atom used n ops b s one fit (omega arith) h.sound; same = ap (λ (x : Stored). store_values.push_atom b x) h.same };
      path_alike = λ used n ops path s t one limit h.
          subst (λ (x : Stored). BothOrNone (Twice (used + n) ops) (store_values.push_path path s) (store_values.push_path path x)) h.same
          (itself (used + n) ops (store_values.push_path path s) (sound_path used n ops s one (omega arith) h.sound path));
      join_alike = λ used ops s t limit h. record { sound = sound_join used ops s (omega arith) h.sound; same = ap (λ (x : Stored). store_values.join x) h.same };
    }
  where
    itself : (used : ℕ) (ops : List ParseOp) (o : Option Stored) → SoundOption used ops o → BothOrNone (Twice used ops) o o
    itself used ops none h = tt
    itself used ops (some s) h = record { sound = h; same = refl }

pub sound_step : (total : ℕ) (a : At Stored) → total ≤ 65535 → SoundAt total a → SoundStep total (step store_values a)
sound_step total a m h =
    one (step store_values a) (step_same store_values store_values Twice total (twice_alike total m) a a
    (record { used = h.used; counted = h.counted; same_rest = refl; same_ops = refl; bytes = h.bytes; related = record { sound = h.sound; same = refl } }))
  where
    one : (x : Step Stored) → SameStep Twice total x x → SoundStep total x
    one (go b) k = record { used = k.used; counted = k.counted; bytes = k.bytes; sound = k.related.sound }
    one (whole s) k = k.sound
    one (stop n) k = tt

-- Every state that is reached is sound after the bytes used so far.
pub reached_sound : (input : List ℕ) (a : At Stored) → Bytes input → length input ≤ 65535 → Reached input a → SoundAt (length input) a
reached_sound input a bs m first = record { used = 0; counted = omega arith; bytes = bs; sound = sound_start }
reached_sound input a bs m (next {a = c} r e) =
    subst (λ (x : Step Stored). SoundStep (length input) x) e (sound_step (length input) c m (reached_sound input c bs m r))
