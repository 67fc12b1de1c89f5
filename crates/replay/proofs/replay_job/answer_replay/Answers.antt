use Rattle.std.proofs.Common.{sym, ap}
use Rattle.text.specs.Buffered.{writer_buffer, writer_contents}
use Rattle.std.specs.Io.KnownBytes.{append_known}
use Rattle.replay.specs.Words.{Output, got}
use Rattle.replay.proofs.ReplayEndLaws.{both_same, out_both, replay_ending}
use Rattle.replay.proofs.replay_job.answer_replay.Goals as goal

pub returns : goal.returns
returns g c =
    let w = g.W.Write.contents in
    let v = g.V.Write.contents in
    let report = c.let_out-run.new.report in
    let departures = c.let_out-run.new.departures in
    let unwritten : Output = record { report = writer_buffer report; departures = writer_buffer departures } in
    replay_ending c.args.settings c.args.timing c.say_run-ended.result
    (got (writer_contents w c.args.outputs.report) (writer_contents v c.args.outputs.departures))
    (got (writer_contents w c.replay_timed-run.new.outputs.report) (writer_contents v c.replay_timed-run.new.outputs.departures))
    (got (writer_contents w report) (writer_contents v departures))
    (got (w c.into_parts-report.result.0) (v c.into_parts-departures.result.0))
    _ _ unwritten c.replay_timed-run.result c.let_out-run.result
    (g.R.Read.remaining c.args.inputs.script) (g.S.Read.remaining c.args.inputs.capture)
    c.replay_timed-run.ensures.replay c.let_out-run.ensures.kept (out_both c.let_out-run.result (writer_buffer report) (writer_buffer departures) c.let_out-run.ensures.out)
    (c.let_out-run.ensures.report, c.let_out-run.ensures.departures)
    (both_same _ _ _ _ (ap (λ x. append_known (w x) (writer_buffer report)) (sym c.into_parts-report.ensures.inner))
    (ap (λ x. append_known (v x) (writer_buffer departures)) (sym c.into_parts-departures.ensures.inner)))
    c.say_run-ended.ensures.status c.say_run-ended.ensures.told
