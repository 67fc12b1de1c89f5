use Rattle.std.proofs.Common.{◌≡◌, drop}
use Rattle.network.specs.Network.{first_of}
use Rattle.network.specs.Schedules.{schedule_line, schedule_line_of}
use Rattle.network.proofs.port_schedules.schedules.schedule_line.Given as goal

abbrev pub invariant-loop-schedule : goal.invariant-loop-schedule
invariant-loop-schedule l = first_of (schedule_line_of l.port) (drop l.schedule-index l.schedules) ≡ schedule_line l.port l.schedules
