-- What structs of a fixed layout say: a moment, a frame, a schedule (IEEE Std 802.1Q-2018, 12.29.1).
use Rattle.std.specs.Prelude.{ℕ, ◌+◌, ◌*◌, ◌^◌, ◌==◌, nat_lt, if◌then◌else◌, List, map, take, Option, Some, None, Result, Ok, Err}
use Rattle.wire_time.specs.declared.Frame.{Frame}
use Rattle.abstract_port.specs.declared.class_map.ClassMap.{ClassMap}
use Rattle.abstract_port.specs.declared.class_map.Queues.{Queues}
use Rattle.abstract_port.specs.Map.{map_of}
use Rattle.abstract_port.specs.Ranges.{queues_of}
use Rattle.gates.specs.Gate.{gate_fault, ok_unless}
use Rattle.gates.specs.declared.gate_list.Entry.{Entry}
use Rattle.gates.specs.declared.gate_list.GateFault.TheVariants.{TooManyEntries}
use Rattle.gates.specs.declared.gate_list.GateList.{GateList}
use Rattle.abstract_port.specs.declared.Command.{Command}
use Rattle.abstract_port.specs.declared.Command.TheVariants.{Replace}
use Rattle.driven_port.specs.declared.taken.ScheduleFault.{ScheduleFault}
use Rattle.driven_port.specs.declared.taken.ScheduleFault.TheVariants.{Map, Ranges, Gates}
use Rattle.driven_port.specs.declared.values.CFrame.{CFrame}
use Rattle.driven_port.specs.declared.values.CSchedule.{CSchedule}

-- the moment of two halves
abbrev pub moment_of : ℕ → ℕ → ℕ
moment_of low high = high * 2 ^ 64 + low

-- a frame
abbrev pub frame_of : CFrame → Frame
frame_of f = record { id = f.id; priority = f.priority; len = f.length; tagged = nat_lt 0 f.tagged }

-- what is there, or the fault as one of the schedule
abbrev pub taken : {T E : Type 0} → (E → ScheduleFault) → Result T E → Result (Option T) ScheduleFault
taken fault (Ok x) = Ok (Some x)
taken fault (Err e) = Err (fault e)

-- the class of each priority, unless there are 0 classes
abbrev pub map_of_classes : CSchedule → Result (Option ClassMap) ScheduleFault
map_of_classes s = if s.num_tc == 0 then Ok None else taken Map (map_of s.num_tc s.map)

-- the device queues of the classes
abbrev pub queues_of_classes : CSchedule → Result (Option Queues) ScheduleFault
queues_of_classes s =
    if s.has_queues == 0 then Ok None else taken Ranges (queues_of s.num_tc (take s.num_tc (map (λ r. (r.count, r.offset)) s.queues)))

-- the limits of the classes
abbrev pub limits_of : CSchedule → Option (List ℕ)
limits_of s = if nat_lt 0 s.has_max_sdu then Some s.max_sdu else None

-- all entries
abbrev pub all_entries : CSchedule → List Entry
all_entries s = map (λ e. record { mask = e.gates; interval = e.interval }) s.entries

-- the gate control list of these entries
abbrev pub list_from : List Entry → Result GateList ScheduleFault
list_from entries = elim (ok_unless (gate_fault entries) entries) [ Ok list ↦ Ok list | Err fault ↦ Err (Gates fault) ]

-- the gate control list of the entries that count
abbrev pub list_of : CSchedule → Result GateList ScheduleFault
list_of s = if nat_lt 256 s.length then Err (Gates TooManyEntries) else list_from (take s.length (all_entries s))

-- the change of a schedule whose parts are taken
abbrev pub change_of : CSchedule → Option ClassMap → Option Queues → GateList → Command
change_of s map queues list = Replace (record {
  map = map;
  queues = queues;
  max_sdu = limits_of s;
  list = list;
  base_ns = s.base_time;
  cycle_ns = s.cycle_time;
  extension_ns = s.extension;
})

-- the command that a schedule gives, or its first fault: of the map, of the queues, of the entries
abbrev pub command_of : CSchedule → Result Command ScheduleFault
command_of s = elim (map_of_classes s) [
  | Err fault ↦ Err fault
  | Ok map ↦ elim (queues_of_classes s) [
    | Err fault ↦ Err fault
    | Ok queues ↦ elim (list_of s) [ Err fault ↦ Err fault | Ok list ↦ Ok (change_of s map queues list) ]
  ]
]
