-- The schedules of the ports of a network that lines are, and their first fault.
use Rattle.std.specs.Prelude.{◌==◌, ℕ, List, [], ◌∷◌, ◌++◌, Bool, true, false, Option, Some, None, Result, Ok, Err, if◌then◌else◌}
use Rattle.abstract_port.specs.declared.Change.{Change}
use Rattle.abstract_port.specs.declared.Command.{Command}
use Rattle.abstract_port.specs.declared.Command.TheVariants as Commands
use Rattle.job.specs.Lines.{fault_of_line}
use Rattle.job.specs.declared.fault.Fault.{Fault}
use Rattle.job.specs.declared.fault.Fault.TheVariants as Runs
use Rattle.text.specs.Script.{Script, End, Broken, Line}
use Rattle.text.specs.declared.line_reader.lines.LineFault.{LineFault}
use Rattle.network.specs.Network.{Net, first_of, is_crossed, port_of}
use Rattle.pasted.specs.Device.{device_in}
use Rattle.network.specs.declared.port_schedules.faults.BadSchedules.{BadSchedules}
use Rattle.network.specs.declared.port_schedules.faults.SchedulesFault.{SchedulesFault}
use Rattle.network.specs.declared.port_schedules.faults.SchedulesFault.TheVariants as Faults
use Rattle.network.specs.declared.port_schedules.schedules.PortSchedule.{PortSchedule}
use Rattle.schedule_check.specs.Words.{is_command}
use Rattle.script.specs.Outcome.{limit_fault}
use Rattle.script.specs.declared.faults.ScriptFault.{ScriptFault}
use Rattle.port_text.specs.declared.tc_reader.fault.TcFault.{TcFault}
use Rattle.text.specs.Words.{words_of}

-- a schedule is that of a port; and the line of the first that is
abbrev pub has_port : ℕ → PortSchedule → Bool
has_port port s = s.port == port

abbrev pub schedule_line_of : ℕ → PortSchedule → Option ℕ
schedule_line_of port s = if has_port port s then Some s.line else None

abbrev pub schedule_line : ℕ → List PortSchedule → Option ℕ
schedule_line port schedules = first_of (schedule_line_of port) schedules

-- the port of the device that is named
abbrev pub port_named : Net → Option (List ℕ) → Option ℕ
port_named net None = None
port_named net (Some name) = port_of net name

-- one schedule more
abbrev pub unless_second : ℕ → List PortSchedule → Change → ℕ → Option ℕ → Result (List PortSchedule) SchedulesFault
unless_second number kept change port (Some line) = Err (Faults.SecondSchedule line)
unless_second number kept change port None = Ok (kept ++ record { port = port; line = number; change = change } ∷ [])

-- a command for a port that streams cross, and that has none yet
abbrev pub change_put : ℕ → List PortSchedule → Net → Change → Option ℕ → Result (List PortSchedule) SchedulesFault
change_put number kept net change None = Err Faults.UnknownPort
change_put number kept net change (Some port) =
    if is_crossed net port then unless_second number kept change port (schedule_line port kept) else Err Faults.Uncrossed

-- what a line is that begins with tc
abbrev pub command_put : ℕ → List PortSchedule → Net → List (List ℕ) → Result Command TcFault → Result (List PortSchedule) SchedulesFault
command_put number kept net ws (Err fault) = Err (Faults.Malformed fault)
command_put number kept net ws (Ok Commands.Delete) = Err Faults.Deletion
command_put number kept net ws (Ok (Commands.Replace change)) = change_put number kept net change (port_named net (device_in ws))

-- a line: it is skipped, or a command, or neither
abbrev pub line_said : Result Bool ScriptFault → List PortSchedule → Result (List PortSchedule) SchedulesFault → Result (List PortSchedule) SchedulesFault
line_said (Err fault) kept put = Err (Faults.Line fault)
line_said (Ok false) kept put = Ok kept
line_said (Ok true) kept put = put

abbrev pub line_put : (List (List ℕ) → Result Command TcFault) → ℕ → Net → List ℕ → List PortSchedule → Result (List PortSchedule) SchedulesFault
line_put read number net octets kept =
    line_said (is_command false (words_of octets)) kept (command_put number kept net (words_of octets) (read (words_of octets)))

-- the line of a number has a fault
abbrev pub bad_schedules : ℕ → SchedulesFault → BadSchedules
bad_schedules number fault = record { line = number; fault = fault }

abbrev pub by_line : ℕ → Result (List PortSchedule) SchedulesFault → (List PortSchedule → Result (List PortSchedule) BadSchedules) → Result (List PortSchedule) BadSchedules
by_line number (Ok kept) f = f kept
by_line number (Err fault) f = Err (bad_schedules number fault)

-- The schedules that lines are behind those that are kept, in their order, or the first fault.
unfoldable pub schedules_from : (List (List ℕ) → Result Command TcFault) → Net → List PortSchedule → Script → Result (List PortSchedule) BadSchedules
schedules_from read net kept End = Ok kept
schedules_from read net kept (Broken number limit) = Err (bad_schedules number (Faults.Line (limit_fault limit)))
schedules_from read net kept (Line number octets rest) = by_line number (line_put read number net octets kept) (λ more. schedules_from read net more rest)

-- faults as a run has them
abbrev pub numbered_fault : ℕ → Fault SchedulesFault → Fault BadSchedules
numbered_fault number (Runs.Input fault) = Runs.Input (bad_schedules number fault)
numbered_fault number Runs.Read = Runs.Read
numbered_fault number Runs.Write = Runs.Write
numbered_fault number Runs.Memory = Runs.Memory

abbrev pub lines_fault : LineFault → Fault BadSchedules
lines_fault fault = fault_of_line (λ number limit. bad_schedules number (Faults.Line (limit_fault limit))) fault
