-- The session call: what its calls give together is what the definition says, and demand 3 follows.
-- Assumes nothing.
use Prim.Native.Nat.{ℕ, ◌*◌, ◌-◌, ◌≤◌, min}
use mathlib.Core.Path.{◌≡◌, refl, sym, ap, subst, ◌∙◌}
use mathlib.Core.Bool.{Bool, true, false, cond}
use mathlib.Core.List.{List, ◌++◌, append-nil}
use native.Mathlib.Omega.{arith}
use lib.ListN.{length, take, drop, replicate, length-take, drop_of_length-le}
use lib.Seq.{take-take}
use Rattle.words.specs.Choice.{clash}
use Rattle.words.specs.Lists.{Bytes}
use Rattle.path.specs.declared.Measure.{Measure}
use Rattle.path.specs.Measure.{measure_of}
use Rattle.spec_reading.specs.Call.{zeroed, filled}
use Rattle.spec_session.specs.File.{Got, got, refused, File, version_1, file}
use Rattle.spec_session.specs.Items.{Item, output}
use Rattle.spec_session.proofs.Output.{output_size}
use Rattle.spec_session.specs.Steps.{Run}
use Rattle.spec_session.proofs.Demand3.{demand_3_of, demand_3_adds_of}
use Rattle.spec_session.specs.Call.{Slices, Result, untouched, after_run, after_file, session}
use Rattle.session_state.specs.declared.checkpoints.Checkpoint.{Checkpoint}
use Rattle.session_state.specs.Records.{blank}
use Rattle.session_state.specs.State.{contents_of, the_file, whole_run, Underway, Ended}
use Rattle.session_state.specs.declared.progress.Progress.{Progress}
use Rattle.session_steps.specs.Driven.{Going, Driven}
use Rattle.session_begin.specs.declared.Begun.{Begun}
use Rattle.session_begin.specs.Lengths.{are_long}
use Rattle.session_begin.specs.Begins.{asked, refused_with, Begins}
use Rattle.session_answer.specs.declared.SessionAnswer.{SessionAnswer}
use Rattle.session_answer.specs.Answer.{answer_of, answer_at, Cleared}
use Rattle.session_call.specs.Outcome.{slices, result_of, ReadsBack}

-- ---- the run is over

module _ (measure : Measure) (f : File) (words out : List ℕ) (p : Progress) (e : Ended measure f words (take 65535 out) p) where
  abbrev items : List Item
  items = e.session.written.items

  size_low : p.counts.size ≤ length (take 65535 out)
  size_low =
      omega (arith, e.size_is, output_size items, ap length e.bytes_are, length-take p.counts.size (take 65535 out))

  pub ended_asks : (p.steps ≤ 1024) × (3 * p.steps ≤ length words) × (p.counts.size ≤ 65535) × (p.counts.size ≤ length out)
  ended_asks =
      (e.few_steps, omega (arith, e.few_steps, e.many_words), omega (arith, size_low, length-take 65535 out), omega (arith, size_low, length-take 65535 out))

  -- The answer and the slices are those of the whole run.
  pub run_result : (r : SessionAnswer) (w words' : List ℕ) (cs : List Checkpoint) (out' w₀ words₀ : List ℕ) (cs₀ : List Checkpoint) (out₀ : List ℕ) → answer_of r ≡ answer_at p
      → w ≡ replicate (length w₀) 0 → words' ≡ filled words (take (3 * p.steps) words) → cs ≡ replicate (length cs₀) blank → out' ≡ filled out (take p.counts.size out)
      → length words ≡ length words₀ → length out ≡ length out₀
      → result_of r w words' cs out' ≡ after_run blank (whole_run measure f (min (length out₀) 65535)) (slices w₀ words₀ cs₀ out₀)
  run_result r w words' cs out' w₀ words₀ cs₀ out₀ ea ew ews ecs eo lws lo =
      (λ i. record { answer = ea i; slices = record { work = ew i; words = ews i; checkpoints = ecs i; output = eo i } })
      ∙ (λ i. record {
        answer = record { number = p.number; steps = p.steps; size = e.size_is i };
        slices =
            record {
              work = zeroed w₀;
              words = take (3 * p.steps) words ++ replicate (lws i - length (take (3 * p.steps) words)) 0;
              checkpoints = replicate (length cs₀) blank;
              output = bytes i ++ replicate (lo i - length (bytes i)) 0;
            };
      })
      ∙ ap (λ (x : Run). after_run blank x (slices w₀ words₀ cs₀ out₀)) (sym e.same ∙ ap (whole_run measure f) space)
    where
      bytes : take p.counts.size out ≡ output items
      bytes = sym (take-take p.counts.size 65535 out (omega (arith, size_low, length-take 65535 out))) ∙ e.bytes_are

      space : length (take 65535 out) ≡ min (length out₀) 65535
      space = length-take 65535 out ∙ omega (arith, lo)

-- ---- the whole call

module _ (measure : Measure) (input w ws : List ℕ) (cs : List Checkpoint) (o : List ℕ) where
  abbrev s : Slices Checkpoint
  s = slices w ws cs o

  abbrev the_asked : Got File
  the_asked = asked input (length w) (length ws) (length cs)

  session_of : session blank version_1 (measure_of measure) input s ≡ after_file blank version_1 (measure_of measure) the_asked s
  unfolding session
  session_of = go (are_long (length w) (length ws) (length cs))
    where
      go : (b : Bool) → cond b (after_file blank version_1 (measure_of measure) (file version_1 input) s) (untouched 1 s)
          ≡ after_file blank version_1 (measure_of measure) (cond b (file version_1 input) (refused 1)) s
      go true = refl
      go false = refl

  -- The contents of a file that passed are those of the bytes.
  is_file : (f : File) (rest : List ℕ) → the_asked ≡ got f rest → the_file input ≡ f
  unfolding the_file
  is_file f rest e = go (are_long (length w) (length ws) (length cs)) e
    where
      go : (b : Bool) → cond b (file version_1 input) (refused 1) ≡ got f rest → contents_of (file version_1 input) ≡ f
      go true q = ap contents_of q
      go false q = clash cc

  -- The run of a file that passed is the definition's.
  file_run : (f : File) (rest : List ℕ) → the_asked ≡ got f rest
      → after_run blank (whole_run measure (the_file input) (min (length o) 65535)) s ≡ after_file blank version_1 (measure_of measure) the_asked s
  unfolding whole_run
  file_run f rest is =
      ap (λ (x : File). after_run blank (whole_run measure x (min (length o) 65535)) s) (is_file f rest is)
      ∙ ap (λ (x : Got File). after_file blank version_1 (measure_of measure) x s) (sym is)

  module _ (b : Begun) (w₁ : List ℕ) (same_work : length w₁ ≡ length w) (begins : Begins measure input w (length ws) (length cs) w₁ b the_asked) where
    -- What `run_steps` asks.
    pub run_asks : Going input w₁ ws cs o b.start b.start.done
    run_asks = go the_asked begins
      where
        go : (g : Got File) → Begins measure input w (length ws) (length cs) w₁ b g → Going input w₁ ws cs o b.start b.start.done
        go (refused n) h = subst (λ (x : Begun). Going input w₁ ws cs o x.start x.start.done) (sym h.0) tt
        go (got f rest) h =
            subst (λ (x : Bool). Going input w₁ ws cs o b.start x) (sym h.goes)
            (subst (λ (m : Measure). Underway m input (the_file input) w₁ ws cs (take 65535 o) b.start) (sym h.measure_is)
            (h.ready ws cs (take 65535 o) h.many_words h.many_rows (omega (arith, length-take 65535 o))))

    module _ (p : Progress) (w₂ ws₂ : List ℕ) (cs₂ : List Checkpoint) (o₂ : List ℕ) (lw : length w₂ ≡ length w₁) (lws : length ws₂ ≡ length ws) (lcs : length cs₂ ≡ length cs)
        (lo : length o₂ ≡ length o) (driven : Driven input w₁ ws cs o b.start w₂ ws₂ cs₂ o₂ p b.start.done) where
      stays : (n : ℕ) → b ≡ record { start = refused_with measure n; records = 0 } → (w₂ ≡ w₁) × (ws₂ ≡ ws) × (cs₂ ≡ cs) × (o₂ ≡ o) × (p ≡ refused_with measure n)
      stays n e = subst (λ (x : Begun). Driven input w₁ ws cs o x.start w₂ ws₂ cs₂ o₂ p x.start.done) e driven

      ends : b.start.done ≡ false → b.start.measure ≡ measure → Ended measure (the_file input) ws₂ (take 65535 o₂) p
      ends e m =
          subst (λ (x : Measure). Ended x (the_file input) ws₂ (take 65535 o₂) p) m
          (subst (λ (x : Bool). Driven input w₁ ws cs o b.start w₂ ws₂ cs₂ o₂ p x) e driven)

      -- What `clear_first` asks.
      pub clear_asks : b.records ≤ length cs₂
      clear_asks = go the_asked begins
        where
          go : (g : Got File) → Begins measure input w (length ws) (length cs) w₁ b g → b.records ≤ length cs₂
          go (refused n) h = omega (arith, ap (λ (x : Begun). x.records) h.0)
          go (got f rest) h = omega (arith, h.all_records, lcs)

      -- What `finish` asks.
      abbrev Asks : Type 0
      Asks = (p.steps ≤ 1024) × (3 * p.steps ≤ length ws₂) × (p.counts.size ≤ 65535) × (p.counts.size ≤ length o₂)

      pub finish_asks : Asks
      finish_asks = go the_asked begins
        where
          none : p.steps ≡ 0 → p.counts.size ≡ 0 → Asks
          none e f = (omega arith, omega arith, omega arith, omega arith)

          go : (g : Got File) → Begins measure input w (length ws) (length cs) w₁ b g → Asks
          go (refused n) h = let q = (stays n h.0).4 in none (ap (λ (x : Progress). x.steps) q) (ap (λ (x : Progress). x.counts.size) q)
          go (got f rest) h = ended_asks measure (the_file input) ws₂ o₂ p (ends h.goes h.measure_is)

      -- The answer and the slices are those of the definition.
      pub call_result : (r : SessionAnswer) (w₃ ws₃ : List ℕ) (cs₃ : List Checkpoint) (o₃ : List ℕ) → cs₃ ≡ replicate b.records blank ++ drop b.records cs₂
          → (answer_of r ≡ answer_at p) × Cleared p w₂ ws₂ o₂ w₃ ws₃ o₃ b.start.done
          → result_of r w₃ ws₃ cs₃ o₃ ≡ session blank version_1 (measure_of measure) input s
      call_result r w₃ ws₃ cs₃ o₃ ec e = go the_asked refl begins ∙ sym session_of
        where
          go : (g : Got File) → the_asked ≡ g → Begins measure input w (length ws) (length cs) w₁ b g → result_of r w₃ ws₃ cs₃ o₃ ≡ after_file blank version_1 (measure_of measure) the_asked s
          go (refused n) is h =
              let d = stays n h.0 in
              let c : (w₃ ≡ w₂) × (ws₃ ≡ ws₂) × (o₃ ≡ o₂) = subst (λ (x : Begun). Cleared p w₂ ws₂ o₂ w₃ ws₃ o₃ x.start.done) h.0 e.1 in
              let a = e.0 ∙ ap answer_at d.4 in
              let rows = ec ∙ ap (λ (x : Begun). replicate x.records blank ++ drop x.records cs₂) h.0 ∙ d.2 in
              let work = c.0 ∙ d.0 ∙ h.1 in
              let words = c.1 ∙ d.1 in
              let out = c.2 ∙ d.3 in
              (λ i. record { answer = a i; slices = record { work = work i; words = words i; checkpoints = rows i; output = out i } })
              ∙ ap (λ (x : Got File). after_file blank version_1 (measure_of measure) x s) (sym is)
          go (got f rest) is h =
              let c : (w₃ ≡ zeroed w₂) × (ws₃ ≡ filled ws₂ (take (3 * p.steps) ws₂)) × (o₃ ≡ filled o₂ (take p.counts.size o₂)) =
              subst (λ (x : Bool). Cleared p w₂ ws₂ o₂ w₃ ws₃ o₃ x) h.goes e.1 in
              run_result measure (the_file input) ws₂ o₂ p (ends h.goes h.measure_is) r w₃ ws₃ cs₃ o₃ w ws cs o e.0 (c.0 ∙ ap (λ (n : ℕ). replicate n 0) (lw ∙ same_work)) c.1
              (rows h.all_records) c.2 lws lo
              ∙ file_run f rest is
            where
              rows : b.records ≡ length cs → cs₃ ≡ replicate (length cs) blank
              rows q =
                  ec ∙ ap (λ (n : ℕ). replicate n blank ++ drop n cs₂) q
                  ∙ ap (λ (x : List Checkpoint). replicate (length cs) blank ++ x) (drop_of_length-le cs₂ {i = length cs} (omega (arith, lcs)))
                  ∙ append-nil (replicate (length cs) blank)

-- ---- demand 3

-- What is the definition's result reads back.
pub reads_back : (measure : Measure) (input : List ℕ) → Bytes input → (l : Slices Checkpoint) (t : Result Checkpoint)
    → t ≡ session blank version_1 (measure_of measure) input l → ReadsBack (measure_of measure) input t
reads_back measure input bytes l t e = subst (λ (x : Result Checkpoint). ReadsBack (measure_of measure) input x) (sym e) (λ f rest is.
    (λ k. demand_3_of blank measure input bytes f rest is l k, λ hs steps k. demand_3_adds_of blank measure input bytes f rest is hs steps l k))
