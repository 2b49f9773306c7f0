-- `session_call::run_session::run_session` meets its contract: what each callee leaves is what the next one asks, and the result is the definition's.
-- Assumes nothing.
use mathlib.Core.Path.{◌≡◌}
use Rattle.path.specs.Measure.{measure_of}
use Rattle.session_state.specs.Records.{blank}
use Rattle.spec_session.specs.File.{version_1}
use Rattle.spec_session.specs.Call.{session}
use Rattle.session_call.specs.Outcome.{slices, result_of}
use Rattle.session_call.proofs.Calling.{run_asks, clear_asks, finish_asks, call_result, reads_back}
use Rattle.session_call.proofs.run_session.run_session.Goals as goal

pub run_steps-p-requires : goal.run_steps-p-requires
run_steps-p-requires c =
    let a = c.args in
    let b = c.begin-begun in
    run_asks a.measure a.file.now a.work.now a.words.now a.checkpoints.now a.output.now b.result b.new.work b.auto.work b.ensures.1

pub clear_first-requires : goal.clear_first-requires
clear_first-requires c =
    let a = c.args in
    let b = c.begin-begun in
    let d = c.run_steps-p in
    clear_asks a.measure a.file.now a.work.now a.words.now a.checkpoints.now a.output.now b.result b.new.work b.auto.work b.ensures.1
    d.result d.new.work d.new.words d.new.checkpoints d.new.output d.auto.work d.auto.words d.auto.checkpoints d.auto.output d.ensures

pub finish-requires : goal.finish-requires
finish-requires c =
    let a = c.args in
    let b = c.begin-begun in
    let d = c.run_steps-p in
    finish_asks a.measure a.file.now a.work.now a.words.now a.checkpoints.now a.output.now b.result b.new.work b.auto.work b.ensures.1
    d.result d.new.work d.new.words d.new.checkpoints d.new.output d.auto.work d.auto.words d.auto.checkpoints d.auto.output d.ensures

pub returns : goal.returns
returns c =
    let a = c.args in
    let b = c.begin-begun in
    let d = c.run_steps-p in
    let e = c.clear_first in
    let f = c.finish in
    let same : result_of f.result f.new.work f.new.words e.new.checkpoints f.new.output
    ≡ session blank version_1 (measure_of a.measure) a.file.now (slices a.work.now a.words.now a.checkpoints.now a.output.now) =
    call_result a.measure a.file.now a.work.now a.words.now a.checkpoints.now a.output.now b.result b.new.work b.auto.work b.ensures.1
    d.result d.new.work d.new.words d.new.checkpoints d.new.output d.auto.work d.auto.words d.auto.checkpoints d.auto.output d.ensures
    f.result f.new.work f.new.words e.new.checkpoints f.new.output e.ensures f.ensures in
    record {
      output_after = same;
      reads_back = reads_back a.measure a.file.now b.ensures.0 (slices a.work.now a.words.now a.checkpoints.now a.output.now) _ same;
    }
