use Rattle.frame_table.specs.Words.{frames_of_capture, replay_telling}
use Rattle.job.proofs.RunEndLaws.{ended, out_by}
use Rattle.script.proofs.ReportLaws.{if_known}
use Rattle.frame_table.proofs.AlertLaws.{told_out}
use Rattle.replay.proofs.ReplayLaws.{known_at, when_known}
use Rattle.frame_table.proofs.frames_job.answer_frames_of_capture.Goals as goal

pub returns-clause-ending : goal.returns-clause-ending
returns-clause-ending g c =
    let script = g.R.Read.remaining c.args.reader.now in
    let capture = g.S.Read.remaining c.args.capture in
    ended replay_telling _ _ _ _ _ _ _ c.end_run.ensures
    (λ run out same keeps read is. when_known script _ (λ lines known. when_known capture _ (λ octets known'. λ records reads.
    out_by _ _ out (frames_of_capture read c.args.settings lines records) keeps _ run same (known_at capture octets _ known' (known_at script lines _ known (c.run_frames_of_capture-run.ensures.table read is)) records reads))))

pub returns-clause-watched : goal.returns-clause-watched
returns-clause-watched g c = (
  c.end_run.ensures.run,
  c.end_run.ensures.status,
  λ read is.
      if_known (g.R.Read.remaining c.args.reader.now)
      (λ lines w. if_known (g.S.Read.remaining c.args.capture) (λ octets w records reads. told_out g.H.Watch.alerted _ c.run_frames_of_capture-run.result c.end_run.ensures.run c.args.watch.now c.run_frames_of_capture-run.new.watch c.end_run.ensures.left.0 (w records reads)) w)
      (c.run_frames_of_capture-run.ensures.watched read is),
)
