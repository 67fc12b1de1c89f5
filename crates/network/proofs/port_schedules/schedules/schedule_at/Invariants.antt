use Rattle.std.proofs.Common.{◌≡◌, drop}
use Rattle.std.specs.Prelude.{find}
use Rattle.network.specs.Schedules.{has_port}
use Rattle.network.proofs.port_schedules.schedules.schedule_at.Given as goal

abbrev pub invariant-loop-schedule : goal.invariant-loop-schedule
invariant-loop-schedule l = find (has_port l.port) (drop l.schedule-index l.schedules) ≡ find (has_port l.port) l.schedules
