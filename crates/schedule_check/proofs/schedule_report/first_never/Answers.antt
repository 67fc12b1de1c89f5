use Rattle.std.proofs.Common.{sym, ◌∙◌}
use Rattle.schedule_check.proofs.AlertLaws.{never_here, never_later, never_over}
use Rattle.schedule_check.proofs.schedule_report.first_never.Goals as goal

pub returns-then-never_opens : goal.returns-then-never_opens
returns-then-never_opens c =
    sym (c.loop-class.invariant ∙ never_here c.args.settings.now c.args.change.now c.loop-class.class c.loop-class-test.true (sym c.never_opens.ensures ∙ c.if-never_opens.true))

pub loop-class-preserved : goal.loop-class-preserved
loop-class-preserved c =
    c.loop-class.invariant ∙ never_later c.args.settings.now c.args.change.now c.loop-class.class c.loop-class-test.true (sym c.never_opens.ensures ∙ c.if-never_opens.false)

pub returns : goal.returns
returns c = sym (c.loop-class.invariant ∙ never_over c.args.settings.now c.args.change.now c.loop-class.class c.loop-class-test.false)
