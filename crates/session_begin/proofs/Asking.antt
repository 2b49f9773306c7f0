-- The start of the session call: questions 1 to 8 are those of the definition, and a file that passes can be run.
-- Assumes nothing.
use Prim.Native.Nat.{ℕ, ◌≤◌}
use mathlib.Core.Path.{◌≡◌, refl, sym, ap, subst, ◌∙◌}
use mathlib.Core.Bool.{Bool, true, false, cond, ◌&&◌}
use mathlib.Core.List.{List}
use native.Mathlib.Omega.{arith}
use lib.Dec.{leb}
use lib.ListN.{length}
use borrow.Author.Tests.{leb-true}
use Rattle.words.specs.Choice.{clash}
use Rattle.words.specs.Words.{WORK}
use Rattle.path.specs.declared.Measure.{Measure}
use Rattle.spec_session.specs.File.{Got, File, Step, refused, version_1, file}
use Rattle.spec_session.specs.Places.{StepsAt}
use Rattle.file_parts.specs.Loaded.{forgets}
use Rattle.file_parts.specs.Checked.{Passed, Checks}
use Rattle.file_parts.specs.CheckedLaws.{Accepted, accepted, rejected}
use Rattle.std.specs.Prelude.{Ok, Err}
use Rattle.file_parts.specs.Answers.{number_of}
use Rattle.file_parts.specs.declared.session_file.Checked.{Checked}
use Rattle.file_parts.specs.declared.session_file.FileError.{FileError}
use Rattle.session_state.specs.State.{contents_of, the_file}
use Rattle.session_begin.specs.Lengths.{are_long}
use Rattle.session_begin.specs.declared.Begun.{Begun}
use Rattle.session_begin.specs.Opened.{Opened, start_at}
use Rattle.session_begin.specs.Begins.{asked, refused_with, Starts, Begins}
use Rattle.session_begin.proofs.Starting.{starts}

-- ---- question 1

-- What question 1 was answered by.
pub record Long (w ws cs : ℕ) : Type 0 where
  pub work : WORK ≤ w
  pub words : 3072 ≤ ws
  pub records : 16 ≤ cs

pub lengths : (w ws cs : ℕ) → are_long w ws cs ≡ true → Long w ws cs
lengths w ws cs e = go (leb WORK w) refl (leb 3072 ws) refl e
  where
    go : (a : Bool) → leb WORK w ≡ a → (b : Bool) → leb 3072 ws ≡ b → a && (b && leb 16 cs) ≡ true → Long w ws cs
    go true p true q r = record { work = leb-true WORK w p; words = leb-true 3072 ws q; records = leb-true 16 cs r }
    go true p false q r = clash cc
    go false p b q r = clash cc

-- ---- questions 1 to 8

module _ (measure : Measure) (input w : List ℕ) (ws cs : ℕ) where
  abbrev n : ℕ
  n = length w

  asked_short : are_long n ws cs ≡ false → asked input n ws cs ≡ refused 1
  asked_short e = ap (λ (x : Bool). cond x (file version_1 input) (refused 1)) e

  asked_file : are_long n ws cs ≡ true → asked input n ws cs ≡ file version_1 input
  asked_file e = ap (λ (x : Bool). cond x (file version_1 input) (refused 1)) e

  refuses : (k : ℕ) → asked input n ws cs ≡ refused k → {b : Begun} → b ≡ record { start = refused_with measure k; records = 0 }
      → Begins measure input w ws cs w b (asked input n ws cs)
  refuses k e {b} q = subst (λ (g : Got File). Begins measure input w ws cs w b g) (sym e) (q, refl)

  -- The slices are too short.
  pub begin_short : are_long n ws cs ≡ false → {b : Begun} → b ≡ record { start = refused_with measure 1; records = 0 }
      → Begins measure input w ws cs w b (asked input n ws cs)
  begin_short z q = refuses 1 (asked_short z) q

  module _ (is-long : are_long n ws cs ≡ true) where
    -- The file is turned down.
    pub begin_refused : (e : FileError) → Checks input (Err e) (file version_1 input) → {b : Begun} → b ≡ record { start = refused_with measure (number_of e); records = 0 }
        → Begins measure input w ws cs w b (asked input n ws cs)
    begin_refused e checks q = refuses (number_of e) (asked_file is-long ∙ rejected input e (file version_1 input) checks) q

    module _ (c : Checked) (checks : Checks input (Ok c) (file version_1 input)) where
      accepted_file : Accepted input c (file version_1 input)
      accepted_file = accepted input c (file version_1 input) checks

      is_file : the_file input ≡ accepted_file.file
      unfolding the_file
      is_file = ap contents_of accepted_file.is

      passed : Passed input (the_file input) c
      passed = subst (λ (f : File). Passed input f c) (sym is_file) accepted_file.passed

      pub open_asks : Passed input (the_file input) c × (WORK ≤ n)
      open_asks = (passed, (lengths n ws cs is-long).work)

      -- The tables are loaded, and the run can start.
      pub begin_run : (w' : List ℕ) → length w' ≡ n → Opened input (the_file input) w' → {flag : Bool}
          → ((ss : List Step) → StepsAt input c.steps_at ss → flag ≡ forgets ss) → {b : Begun} → b ≡ record { start = start_at measure c.steps_at flag; records = cs }
          → Begins measure input w ws cs w' b (asked input n ws cs)
      begin_run w' e o {flag} known {b} q =
          subst (λ (g : Got File). Begins measure input w ws cs w' b g) (sym (asked_file is-long ∙ accepted_file.is))
          (subst (λ (x : Begun). Starts measure input w' ws cs x) (sym q)
          record {
            many_words = have.words;
            many_rows = have.records;
            all_records = refl;
            goes = refl;
            measure_is = refl;
            ready = λ words rows out m r s. starts measure input (the_file input) c passed flag known w' words rows out o (omega (arith, have.work)) m r s;
          })
        where
          have : Long n ws cs
          have = lengths n ws cs is-long
