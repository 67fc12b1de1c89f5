-- A class of a schedule that is judged, beside the streams of all classes and how the classes above it stand.
use Rattle.std.specs.Prelude.{◌≡◌, ◌<◌, All}
use Rattle.wire_time.specs.declared.TheConstants.{CLASSES}
use Rattle.abstract_port.specs.AbstractPort.{plan_asked}
use Rattle.stream_bounds.specs.Classes.{IsPeriodic}
use Rattle.stream_bounds.specs.Standing.{IsCounted}
use Rattle.stream_bounds.specs.declared.case.Case.{Case}

-- the schedule is that of the change, streams have periods, and what is counted of the classes above is small
pub record IsCase (c : Case) : Type 0 where
  pub class : c.class < CLASSES
  pub plan : c.schedule.now ≡ plan_asked c.change.now
  pub table : All IsPeriodic c.table.now
  pub counted : All IsCounted c.above.now
