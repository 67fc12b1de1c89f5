use Rattle.std.proofs.Common.{◌≡◌, Result, Ok, Err, sym, ◌∙◌, subst}
use Rattle.text.specs.Buffered.{writer_contents}
use Rattle.frame_table.specs.Words.{IsEnding, whole_frames}
use Rattle.script.specs.Setup.{Setup}
use Rattle.script.specs.declared.settings.BadValue.{BadValue}
use Rattle.script.proofs.AlertLaws.{watched_out}
use Rattle.script.proofs.ReportLaws.{if_known}
use Rattle.frame_table.specs.Alerts.{IsWatchedEnding}
use Rattle.script.proofs.ScriptEndLaws.{whole_ending}
use Rattle.frame_table.proofs.frames_job.answer_frames.Goals as goal

pub returns-in-Ok-clause-ending : goal.returns-in-Ok-clause-ending
returns-in-Ok-clause-ending g c =
    let given : ◌≡◌ {A = Result Setup BadValue} (Ok c.in-Ok.settings) _ = sym c.in-Ok.is ∙ c.settings_given.ensures in
    subst (λ (s : Result Setup BadValue). IsEnding whole_frames s (g.R.Read.remaining c.args.reader.now) c.end_run.result.0 (writer_contents g.W.Write.contents c.args.answers) (g.W.Write.contents c.end_run.result.1) (g.E.Write.contents c.args.errors.now) (g.E.Write.contents c.end_run.new.errors)) given
    (whole_ending (whole_frames c.in-Ok.settings) (g.R.Read.remaining c.args.reader.now) _ _ _ _ _ _ c.run_frames-run.result c.run_frames-run.ensures.table c.end_run.ensures)

pub returns-in-Ok-clause-watched : goal.returns-in-Ok-clause-watched
returns-in-Ok-clause-watched g c =
    let given : ◌≡◌ {A = Result Setup BadValue} (Ok c.in-Ok.settings) _ = sym c.in-Ok.is ∙ c.settings_given.ensures in
    subst (λ (s : Result Setup BadValue). IsWatchedEnding g.H.Watch.alerted s (g.R.Read.remaining c.args.reader.now) c.end_run.result.0 c.args.watch.now c.run_frames-run.new.watch) given (
      c.end_run.ensures.run,
      c.end_run.ensures.status,
      λ read is. if_known (g.R.Read.remaining c.args.reader.now) (λ octets w. watched_out g.H.Watch.alerted _ c.run_frames-run.result c.end_run.ensures.run c.args.watch.now c.run_frames-run.new.watch c.end_run.ensures.left.0 w) (c.run_frames-run.ensures.watched read is),
    )

pub returns-in-Err-clause-watched : goal.returns-in-Err-clause-watched
returns-in-Err-clause-watched g c =
    let given : ◌≡◌ {A = Result Setup BadValue} (Err c.in-Err.value) _ = sym c.in-Err.is ∙ c.settings_given.ensures in
    subst (λ (s : Result Setup BadValue). IsWatchedEnding g.H.Watch.alerted s (g.R.Read.remaining c.args.reader.now) c.end_with_value.result.0 c.args.watch.now c.args.watch.now) given (g.met.H.Watch.nothing c.args.watch.now)
