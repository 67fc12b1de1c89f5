use Rattle.std.proofs.Common.{◌≡◌, subst}
use Rattle.std.specs.Prelude.{IfErr}
use Rattle.wire_time.specs.Moment.{greatest_moment}
use Rattle.script.specs.Alerts.{IsWatchedEnding}
use Rattle.script.specs.ScriptEnd.{settings_given}
use Rattle.script.specs.Given.{GivenWords}
use Rattle.program.proofs.calls.answer_given.Goals as goal

pub returns-clause-unread : goal.returns-clause-unread
returns-clause-unread g c =
    subst (λ (words : GivenWords). IfErr (settings_given greatest_moment words) (λ _. c.answer_script.new.reader ≡ c.args.reader.now)) c.values_of.ensures c.answer_script.ensures.unread

pub returns-clause-watched : goal.returns-clause-watched
returns-clause-watched g c =
    subst (λ (words : GivenWords). IsWatchedEnding g.H.Watch.alerted (settings_given greatest_moment words) (g.R.Read.remaining c.args.reader.now) c.answer_script.result.0 c.args.watch.now c.answer_script.new.watch) c.values_of.ensures c.answer_script.ensures.watched
