use Rattle.std.proofs.Common.{Err, ap, ◌∙◌}
use Rattle.std.proofs.lemmas.Result.{err_from_is_err_and}
use Rattle.job.proofs.LineLaws.{memory_exit}
use Rattle.schedule_check.specs.Words.{verdict_lines, checked_of}
use Rattle.script.proofs.AlertLaws.{watched_none}
use Rattle.script.proofs.ReaderLaws.{of_input}
use Rattle.schedule_check.proofs.schedules.check.Goals as goal

pub returns-in_err-lines-clause-text : goal.returns-in_err-lines-clause-text
returns-in_err-lines-clause-text g c = λ tell tells read is.
    let p = err_from_is_err_and c.from_residual.result c.from_residual.ensures.1 in
    memory_exit {T = Unit {0}} (checked_of c.args.settings.script read (verdict_lines tell c.args.settings)) _ _ (p.1 ∙ ap Err p.2)

pub returns-clause-text : goal.returns-clause-text
returns-clause-text g c = λ tell tells read is. of_input (g.R.Read.remaining c.args.reader) _ _ c.in_ok-lines.ensures.left (c.check_lines.ensures.text tell tells read is)

pub returns-in_err-lines-clause-watched : goal.returns-in_err-lines-clause-watched
returns-in_err-lines-clause-watched g c = λ read is.
    let p = err_from_is_err_and c.from_residual.result c.from_residual.ensures.1 in
    watched_none g.H.Watch.alerted g.met.H.Watch.nothing _ _ c.args.watch.now _ (p.1 ∙ ap Err p.2)

pub returns-clause-watched : goal.returns-clause-watched
returns-clause-watched g c = λ read is. of_input (g.R.Read.remaining c.args.reader) _ _ c.in_ok-lines.ensures.left (c.check_lines.ensures.alerts read is)
