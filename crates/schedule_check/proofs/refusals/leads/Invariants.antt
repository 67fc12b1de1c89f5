use Rattle.std.proofs.Common.{◌≡◌}
use Rattle.schedule_check.specs.Refusals.{leads_below}
use Rattle.schedule_check.proofs.refusals.leads.Given as goal

abbrev pub invariant-loop-priority : goal.invariant-loop-priority
invariant-loop-priority l = l.found ≡ leads_below l.priority l.map.classes l.class
