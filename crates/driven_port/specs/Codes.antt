-- The numbers of reasons: those of `enum taprio_reason` of bindings/c/taprio.h.
use Rattle.std.specs.Prelude.{ℕ}
use Rattle.abstract_port.specs.declared.class_map.MapFault.TheVariants as maps
use Rattle.abstract_port.specs.declared.class_map.QueueFault.TheVariants as queues
use Rattle.gates.specs.declared.gate_list.GateFault.TheVariants as gates
use Rattle.gates.specs.declared.gate_list.PlanFault.{PlanFault}
use Rattle.gates.specs.declared.gate_list.PlanFault.TheVariants as plans
use Rattle.abstract_port.specs.declared.Dropped.{Dropped}
use Rattle.abstract_port.specs.declared.Dropped.TheVariants as drops
use Rattle.driven_port.specs.declared.taken.ScheduleFault.{ScheduleFault}
use Rattle.driven_port.specs.declared.taken.ScheduleFault.TheVariants as faults

-- why a frame is dropped
abbrev pub dropped_code : Dropped → ℕ
dropped_code drops.NoClass = 1
dropped_code drops.Runt = 2
dropped_code drops.TooLong = 3
dropped_code drops.OverSdu = 4
dropped_code drops.Full = 5

-- why a schedule can't run, and the entry that is named
abbrev pub plan_code : PlanFault → ℕ × ℕ
plan_code (plans.IntervalTooShort index) = (9, index)
plan_code plans.CycleTooShort = (10, 0)
plan_code plans.CycleTooLong = (11, 0)
plan_code plans.ExtensionTooLong = (12, 0)
plan_code plans.BaseTooLate = (13, 0)

-- why a schedule is none
abbrev pub schedule_code : ScheduleFault → ℕ
schedule_code (faults.Map maps.BadClassCount) = 15
schedule_code (faults.Map maps.TooManyPriorities) = 16
schedule_code (faults.Map maps.ClassOutOfRange) = 17
schedule_code (faults.Ranges queues.QueueCount) = 18
schedule_code (faults.Ranges queues.EmptyQueue) = 19
schedule_code (faults.Ranges queues.QueueOverlap) = 20
schedule_code (faults.Gates gates.NoEntries) = 21
schedule_code (faults.Gates gates.TooManyEntries) = 22
schedule_code (faults.Gates gates.ZeroInterval) = 23
