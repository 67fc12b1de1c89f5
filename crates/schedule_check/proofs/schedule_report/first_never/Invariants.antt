use Rattle.std.proofs.Common.{◌≡◌, ◌-◌}
use Rattle.schedule_check.specs.Alerts.{first_never}
use Rattle.schedule_check.proofs.schedule_report.first_never.Given as goal

abbrev pub invariant-loop-class : goal.invariant-loop-class
invariant-loop-class l = first_never l.settings l.change 8 0 ≡ first_never l.settings l.change (8 - l.class) l.class
