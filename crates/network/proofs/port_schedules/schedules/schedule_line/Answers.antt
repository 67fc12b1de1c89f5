use Rattle.std.proofs.Common.{sym, ap, ◌∙◌}
use Rattle.network.proofs.FirstLaws.{first_here, first_more, first_none}
use Rattle.network.specs.Schedules.{schedule_line_of}
use Rattle.network.proofs.port_schedules.schedules.schedule_line.Goals as goal

pub returns-in-Some : goal.returns-in-Some
returns-in-Some c = first_here (schedule_line_of c.args.port) c.args.schedules.now c.loop-schedule.schedule-index _ c.in-Some.line _ c.loop-schedule-test.true (ap (schedule_line_of c.args.port) (sym c.schedule-item.is) ∙ (sym c.schedule_line_of.ensures ∙ c.in-Some.is)) c.loop-schedule.invariant

pub loop-schedule-preserved : goal.loop-schedule-preserved
loop-schedule-preserved c = first_more (schedule_line_of c.args.port) c.args.schedules.now c.loop-schedule.schedule-index _ _ c.loop-schedule-test.true (ap (schedule_line_of c.args.port) (sym c.schedule-item.is) ∙ (sym c.schedule_line_of.ensures ∙ c.in_default.is)) c.loop-schedule.invariant

pub returns : goal.returns
returns c = first_none (schedule_line_of c.args.port) c.args.schedules.now c.loop-schedule.schedule-index _ c.loop-schedule-test.false c.loop-schedule.invariant
