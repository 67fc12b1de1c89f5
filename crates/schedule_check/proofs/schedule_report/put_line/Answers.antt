use Rattle.std.proofs.Common.{[]}
use Rattle.schedule_check.proofs.schedule_report.put_line.Goals as goal

pub returns-clause-text : goal.returns-clause-text
returns-clause-text g c = λ tell tells read is. rw (c.read_tc-read.ensures read is) at (c.put_verdict.ensures.text tell tells)

pub returns-clause-alerts : goal.returns-clause-alerts
returns-clause-alerts g c = λ read is.
    g.met.H.Watch.both [] _ c.args.watch.now c.tell_read.new.watch c.put_verdict.new.watch c.tell_read.ensures
    (rw (c.read_tc-read.ensures read is) at c.put_verdict.ensures.alerts)
