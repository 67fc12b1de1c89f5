use Rattle.frame_table.specs.Words.{frames_by_stream, streams_telling}
use Rattle.job.proofs.RunEndLaws.{ended}
use Rattle.script.proofs.ReportLaws.{if_known}
use Rattle.frame_table.proofs.AlertLaws.{told_out}
use Rattle.frame_table.proofs.RunLaws.{out_of_both}
use Rattle.frame_table.proofs.frames_job.answer_frames_by_stream.Goals as goal

pub returns-clause-ending : goal.returns-clause-ending
returns-clause-ending g c =
    let table = g.S.Read.remaining c.args.table in
    let script = g.R.Read.remaining c.args.reader.now in
    ended streams_telling _ _ _ _ _ _ _ c.end_run.ensures
    (λ run out same keeps read is. out_of_both table script (frames_by_stream read c.args.settings) _ _ out _ run keeps same (c.run_frames_by_stream-run.ensures.table read is))

pub returns-clause-watched : goal.returns-clause-watched
returns-clause-watched g c = (
  c.end_run.ensures.run,
  c.end_run.ensures.status,
  λ read is.
      if_known (g.S.Read.remaining c.args.table)
      (λ streams w. if_known (g.R.Read.remaining c.args.reader.now) (λ octets w. told_out g.H.Watch.alerted _ c.run_frames_by_stream-run.result c.end_run.ensures.run c.args.watch.now c.run_frames_by_stream-run.new.watch c.end_run.ensures.left.0 w) w)
      (c.run_frames_by_stream-run.ensures.watched read is),
)
