-- The reading call: 01's questions 1 and 2, then 14 to 16 by the store's reader; the answer, and what each slice holds afterwards.
use Rattle.std.specs.Prelude.{ℕ, ◌-◌, Bool, cond, ◌&&◌, List, [], ◌∷◌, ◌++◌, leb, length, replicate}
use Rattle.spec_reading.specs.Format.{Read, accepted, turned_down}
use Rattle.spec_reading.specs.Store.{Value, Stored, pair_count, atom_count, read_stored}

-- The number, 0 for none; the root and four counts: pairs, listed atoms, atom bytes, ghost pairs.
pub record Answer : Type 0 where
  pub number : ℕ
  pub root : ℕ
  pub pairs : ℕ
  pub atoms : ℕ
  pub bytes : ℕ
  pub ghosts : ℕ

-- The lent slices.
pub record Slices : Type 0 where
  pub work : List ℕ
  pub pairs : List ℕ
  pub atoms : List ℕ
  pub bytes : List ℕ

pub record Result : Type 0 where
  pub answer : Answer
  pub slices : Slices

-- A refused reading gives zero for root and counts.
abbrev pub refusal : ℕ → Answer
refusal n = record { number = n; root = 0; pairs = 0; atoms = 0; bytes = 0; ghosts = 0 }

-- All words zero; some words, and zero in the unused slots after them.
abbrev pub zeroed : List ℕ → List ℕ
zeroed l = replicate (length l) 0

abbrev pub filled : List ℕ → List ℕ → List ℕ
filled l used = used ++ replicate (length l - length used) 0

-- The node of the value read last.
abbrev pub root_of : List Value → ℕ
root_of [] = 0
root_of (v ∷ vs) = v.node

abbrev pub answer_of : Stored → Answer
answer_of s =
    record {
      number = 0;
      root = root_of s.values;
      pairs = pair_count s.store;
      atoms = atom_count s.store;
      bytes = length s.store.bytes;
      ghosts = s.store.ghosts;
    }

abbrev pub after : Read Stored → Slices → Result
after (turned_down n) l =
    record { answer = refusal n; slices = record { work = zeroed l.work; pairs = zeroed l.pairs; atoms = zeroed l.atoms; bytes = zeroed l.bytes } }
after (accepted s) l =
    record {
      answer = answer_of s;
      slices =
          record {
            work = zeroed l.work;
            pairs = filled l.pairs s.store.pairs;
            atoms = filled l.atoms s.store.atoms;
            bytes = filled l.bytes s.store.bytes;
          };
    }

-- Question 1: are the slices long enough?
abbrev pub long_enough : Slices → Bool
long_enough l = leb 524288 (length l.work) && (leb 262144 (length l.pairs) && (leb 131072 (length l.atoms) && leb 65536 (length l.bytes)))

-- Questions 1 and 2 touch nothing.
unfoldable pub reading : List ℕ → Slices → Result
reading input l =
    cond (long_enough l)
    (cond (leb (length input) 65535) (after (read_stored input) l) (record { answer = refusal 2; slices = l }))
    (record { answer = refusal 1; slices = l })
