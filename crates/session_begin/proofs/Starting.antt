-- The run of a session file starts: nothing is added, and the words hold the fresh session.
-- Assumes nothing.
use Prim.Native.Nat.{ℕ, ◌+◌, ◌/◌, ◌%◌, ◌^◌, ◌≤◌, ◌<◌}
use mathlib.Core.Path.{◌≡◌, refl, sym, ap, subst, ◌∙◌}
use mathlib.Core.Bool.{Bool, false}
use mathlib.Core.List.{List, []}
use mathlib.Core.Option.{Option}
use native.Mathlib.Omega.{arith}
use native.Mathlib.Nat.{zero-div}
use lib.ListN.{length}
use Rattle.words.specs.Choice.{clash}
use Rattle.words.specs.Words.{at, WORK}
use Rattle.path.specs.Bytes.{odd}
use Rattle.spec_session.specs.File.{File, Step}
use Rattle.spec_session.specs.Places.{PairNamed, SentinelNamed, StepsAt}
use Rattle.file_parts.specs.Loaded.{pair_of, forgets}
use Rattle.file_parts.specs.Checked.{Passed, Contents}
use Rattle.file_parts.specs.CheckedLaws.{pair_named}
use Rattle.file_parts.specs.declared.session_file.Checked.{Checked}
use Rattle.spec_session.specs.Writer.{start}
use Rattle.path.specs.declared.Measure.{Measure}
use Rattle.path.specs.Measure.{measure_of}
use Rattle.spec_session.specs.Steps.{at_start, Run, run_steps}
use Rattle.work_layout.specs.Layout.{TOPS, WRITTEN, MAPS, PARENTS, ENTRIES}
use Rattle.work_layout.specs.Rows.{stack_of}
use Rattle.cache_stack.specs.marks.Effects.{marked_at}
use Rattle.cache_stack.proofs.Stacks.{stacked_none}
use Rattle.cache_entries.specs.Meaning.{Handles}
use Rattle.cache_entries.proofs.Fresh.{Sorted, tables_handles, fresh_whole, fresh_holds, fresh_room, fresh_counts}
use Rattle.write_place.specs.State.{todo_of, rights_left}
use Rattle.session_state.specs.declared.checkpoints.Checkpoint.{Checkpoint}
use Rattle.session_state.specs.State.{whole_run, At, Underway}
use Rattle.write_counts.specs.Counts.{no_items}
use Rattle.session_begin.specs.Opened.{Opened, start_at}

-- Questions 5 and 7 were answered.
sorted : (f : File) → Contents f → Sorted f
sorted f c =
    record {
      few_atoms = c.few_atoms;
      few_pairs = c.few_pairs;
      lefts = λ i l. (pair_at i l).0;
      rights = λ i l. (pair_at i l).1;
      sentinel = λ s e. subst (λ (o : Option ℕ). SentinelNamed (length f.atoms) (length f.pairs) o) e c.sentinel_named;
    }
  where
    pair_at : (i : ℕ) → i < length f.pairs → PairNamed (length f.atoms) i (pair_of f.pairs i)
    pair_at i l =
        let z : 0 + i ≡ i = omega arith in
        subst (λ (n : ℕ). PairNamed (length f.atoms) n (pair_of f.pairs i)) z (pair_named (length f.atoms) 0 f.pairs c.pairs_named i l)

no_mark : (k : ℕ) → odd (0 / 2 ^ k) ≡ false
no_mark k = ap odd (zero-div (2 ^ k))

module _ (measure : Measure) (input : List ℕ) (f : File) (c : Checked) (p : Passed input f c) (flag : Bool)
    (known : (ss : List Step) → StepsAt input c.steps_at ss → flag ≡ forgets ss) (w words : List ℕ) (rows : List Checkpoint) (out : List ℕ) (o : Opened input f w)
    (long : WORK ≤ length w) (many_words : 3072 ≤ length words) (many_rows : 16 ≤ length rows) (short : length out ≤ 65535) where
  handles : Handles w
  handles = tables_handles f w (sorted f p.contents) o.tables

  cache_zeros : (k : ℕ) → MAPS ≤ k → k < PARENTS → at w k ≡ 0
  cache_zeros k a b = o.zeros k (omega arith) b

  no_marks : (e : ℕ) → e < ENTRIES → false ≡ marked_at w e
  unfolding marked_at
  no_marks e l = sym (ap (λ (x : ℕ). odd (x / 2 ^ (e % 32))) (o.zeros (WRITTEN + e / 32) (omega arith) (omega arith)) ∙ no_mark (e % 32))

  present : At f w out 0 0 no_items false start
  unfolding todo_of rights_left stack_of
  present =
      record {
        running =
            record {
              stands =
                  record {
                    whole = fresh_whole w long handles cache_zeros;
                    stacked = stacked_none w (λ x l. o.zeros (TOPS + x) (omega arith) (omega arith));
                    counts = omega (arith, fresh_counts w long handles cache_zeros);
                    few_opens = omega arith;
                    pairs = λ i l. absurd (omega arith);
                    balance = refl;
                  };
              fits = omega arith;
              bounded = record { references = omega arith; prefixes = omega arith };
              short = short;
            };
        writes = record { cache = fresh_holds w long handles cache_zeros f o.tables; stack = refl; marks = no_marks; counts_are = refl; bytes_are = refl };
        waiting = refl;
      }

  pub starts : Underway measure input f w words rows out (start_at measure c.steps_at flag)
  unfolding whole_run
  starts =
      record {
        left = f.steps;
        past = [];
        session = start;
        present = present;
        stocked =
            record {
              tables = o.tables;
              places = o.places;
              atoms_there = o.atoms_there;
              room = record { entries = omega (arith, fresh_room w long handles cache_zeros); counts = fresh_counts w long handles cache_zeros };
            };
        history =
            record {
              long = refl;
              befores = λ k u e. clash cc;
              sizes = λ k l. absurd (omega arith);
              ordered = λ j k q l. absurd (omega arith);
              extended = λ k u e. clash cc;
              older = λ j k u v q d e. clash cc;
            };
        known = λ e. sym (known f.steps p.steps_there) ∙ e;
        few_adds = omega arith;
        goes = refl;
        steps_there = p.steps_there;
        steps_named = p.contents.steps_named;
        few_steps = omega (arith, p.contents.few_steps);
        many_rows = many_rows;
        many_words = many_words;
        quote_saved = λ e. clash cc;
        state = at_start;
        shown = refl;
        measure_is = refl;
        same = λ i. record { words = r.words; steps = none_before i; number = r.number; last = r.last };
      }
    where
      r : Run
      r = run_steps (measure_of measure) (length out) f f.steps at_start

      none_before : r.steps ≡ 0 + r.steps
      none_before = omega arith
