-- The names in answer lines, and the numbers that stand after some of them.
use Rattle.std.specs.Prelude.{List, ℕ, Option, Some, None, codes}
use Rattle.gates.specs.declared.gate_list.PlanFault.{PlanFault}
use Rattle.gates.specs.declared.gate_list.PlanFault.TheVariants.{IntervalTooShort, CycleTooShort, CycleTooLong, ExtensionTooLong, BaseTooLate}
use Rattle.abstract_port.specs.declared.class_map.MapFault.{MapFault}
use Rattle.abstract_port.specs.declared.class_map.MapFault.TheVariants.{BadClassCount, TooManyPriorities, ClassOutOfRange}
use Rattle.abstract_port.specs.declared.class_map.QueueFault.{QueueFault}
use Rattle.abstract_port.specs.declared.class_map.QueueFault.TheVariants.{QueueCount, EmptyQueue, QueueOverlap}
use Rattle.gates.specs.declared.gate_list.GateFault.{GateFault}
use Rattle.gates.specs.declared.gate_list.GateFault.TheVariants.{NoEntries, TooManyEntries, ZeroInterval}
use Rattle.port_text.specs.TcNames.{word_of}
use Rattle.port_text.specs.declared.tc_reader.fault.TcFault.{TcFault}
use Rattle.port_text.specs.declared.tc_reader.fault.TcFault.TheVariants as TcFaults
use Rattle.abstract_port.specs.declared.Dropped.{Dropped}
use Rattle.abstract_port.specs.declared.Dropped.TheVariants.{NoClass, Runt, TooLong, OverSdu, Full}
use Rattle.abstract_port.specs.declared.Refused.{Refused}
use Rattle.abstract_port.specs.declared.Refused.TheVariants.{MapMissing, MapChanged, SduTooLarge, Schedule, Busy}

-- why a frame was dropped
abbrev pub dropped_name : Dropped → List ℕ
dropped_name NoClass = codes "NoClass"
dropped_name Runt = codes "Runt"
dropped_name TooLong = codes "TooLong"
dropped_name OverSdu = codes "OverSdu"
dropped_name Full = codes "Full"

-- why a schedule is refused
abbrev pub plan_fault_name : PlanFault → List ℕ
plan_fault_name (IntervalTooShort index) = codes "IntervalTooShort"
plan_fault_name CycleTooShort = codes "CycleTooShort"
plan_fault_name CycleTooLong = codes "CycleTooLong"
plan_fault_name ExtensionTooLong = codes "ExtensionTooLong"
plan_fault_name BaseTooLate = codes "BaseTooLate"

-- the number of the entry, from 0, where the fault lies in one
abbrev pub plan_fault_number : PlanFault → Option ℕ
plan_fault_number (IntervalTooShort index) = Some index
plan_fault_number CycleTooShort = None
plan_fault_number CycleTooLong = None
plan_fault_number ExtensionTooLong = None
plan_fault_number BaseTooLate = None

-- why a command is refused
abbrev pub refused_name : Refused → List ℕ
refused_name MapMissing = codes "MapMissing"
refused_name MapChanged = codes "MapChanged"
refused_name (SduTooLarge class) = codes "SduTooLarge"
refused_name (Schedule fault) = plan_fault_name fault
refused_name (Busy lead_moment) = codes "Busy"

-- the number after the name: of a class, or of an entry
abbrev pub refused_number : Refused → Option ℕ
refused_number MapMissing = None
refused_number MapChanged = None
refused_number (SduTooLarge class) = Some class
refused_number (Schedule fault) = plan_fault_number fault
refused_number (Busy lead_moment) = Some lead_moment

-- the fault of a map
abbrev pub map_fault_name : MapFault → List ℕ
map_fault_name BadClassCount = codes "BadClassCount"
map_fault_name TooManyPriorities = codes "TooManyPriorities"
map_fault_name ClassOutOfRange = codes "ClassOutOfRange"

-- the fault of queue ranges
abbrev pub queue_fault_name : QueueFault → List ℕ
queue_fault_name QueueCount = codes "QueueCount"
queue_fault_name EmptyQueue = codes "EmptyQueue"
queue_fault_name QueueOverlap = codes "QueueOverlap"

-- the fault of a gate list
abbrev pub gate_fault_name : GateFault → List ℕ
gate_fault_name NoEntries = codes "NoEntries"
gate_fault_name TooManyEntries = codes "TooManyEntries"
gate_fault_name ZeroInterval = codes "ZeroInterval"

-- the fault of a tc line
abbrev pub tc_fault_name : TcFault → List ℕ
tc_fault_name TcFaults.NotTaprio = codes "NotTaprio"
tc_fault_name (TcFaults.MissingWord option) = codes "MissingWord"
tc_fault_name (TcFaults.UnknownOption place) = codes "UnknownOption"
tc_fault_name (TcFaults.Repeated option) = codes "Repeated"
tc_fault_name (TcFaults.BadNumber place) = codes "BadNumber"
tc_fault_name (TcFaults.Unsupported option) = codes "Unsupported"
tc_fault_name (TcFaults.Map fault) = map_fault_name fault
tc_fault_name (TcFaults.Ranges fault) = queue_fault_name fault
tc_fault_name (TcFaults.Gates fault) = gate_fault_name fault

-- the word after the name, where the fault names an option
abbrev pub tc_fault_word : TcFault → Option (List ℕ)
tc_fault_word (TcFaults.MissingWord option) = Some (word_of option)
tc_fault_word (TcFaults.Repeated option) = Some (word_of option)
tc_fault_word (TcFaults.Unsupported option) = Some (word_of option)
tc_fault_word _ = None

-- the place after the name: the number of a word of the line, from 0
abbrev pub tc_fault_place : TcFault → Option ℕ
tc_fault_place (TcFaults.UnknownOption place) = Some place
tc_fault_place (TcFaults.BadNumber place) = Some place
tc_fault_place _ = None
