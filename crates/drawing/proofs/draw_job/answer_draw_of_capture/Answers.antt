use Rattle.text.specs.Buffered.{writer_contents}
use Rattle.drawing.proofs.CaptureLaws.{capture_ending}
use Rattle.drawing.proofs.draw_job.answer_draw_of_capture.Goals as goal

pub returns : goal.returns
returns g c =
    capture_ending c.args.settings c.args.options c.draw_capture-run.result (writer_contents g.W.Write.contents c.args.answers) (writer_contents g.W.Write.contents c.draw_capture-run.new.writer) (g.R.Read.remaining c.args.reader.now) (g.S.Read.remaining c.args.capture) c.end_run.result.0 (g.W.Write.contents c.end_run.result.1) (g.E.Write.contents c.args.errors.now) (g.E.Write.contents c.end_run.new.errors) c.draw_capture-run.ensures.picture c.end_run.ensures
