use Rattle.schedule_check.specs.Words.{whole_check}
use Rattle.script.proofs.AlertLaws.{watched_out}
use Rattle.script.proofs.ReportLaws.{if_known}
use Rattle.script.proofs.ScriptEndLaws.{whole_ending}
use Rattle.schedule_check.proofs.check_job.answer_check.Goals as goal

pub returns-in-Ok-clause-ending : goal.returns-in-Ok-clause-ending
returns-in-Ok-clause-ending g c = λ tell tells.
    rw (← c.in-Ok.ensures) (whole_ending (whole_check tell c.in-Ok.settings) _ _ _ _ _ _ _ _ (λ read is. c.check-run.ensures.text tell tells read is) c.end_run.ensures)

pub returns-in-Ok-clause-watched : goal.returns-in-Ok-clause-watched
returns-in-Ok-clause-watched g c =
    rw (← c.in-Ok.ensures) (
      c.end_run.ensures.run,
      c.end_run.ensures.status,
      λ read is. if_known (g.R.Read.remaining c.args.reader.now) (λ octets w. watched_out g.H.Watch.alerted _ c.check-run.result c.end_run.ensures.run c.args.watch.now c.check-run.new.watch c.end_run.ensures.left.0 w) (c.check-run.ensures.watched read is),
    )
