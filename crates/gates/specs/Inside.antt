-- What a contract sees of a schedule.
use Rattle.gates.specs.Gate.{Plan}
use Rattle.gates.specs.declared.gate_list.schedule.Schedule.TheInside.{Inside}

-- the plan that the fields of a schedule hold
abbrev pub plan_inside : Inside → Plan
plan_inside s =
    record { entries = s.entries.items; base = s.base_ns; cycle = s.cycle_ns; extension = s.extension_ns }
