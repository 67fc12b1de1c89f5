-- The ports of a network, each with the schedule that is in force there for ever.
--
-- A port has what its line says, and else what the options say. Its schedule is that of its command; a port without a command is as one whose
-- gates are open, and whose classes are those of a port without a map. Base times say how the cycles of ports lie to one another: moment zero is
-- one for all of them (IEEE Std 802.1Q-2018, 8.6.9.3). Times are in picoseconds.
use Rattle.std.specs.Prelude.{ℕ, zero, suc, ◌+◌, ◌-◌, ◌*◌, ◌%◌, ◌^◌, ◌≡◌, ⊤, ◌==◌, nat_lt, min, max, List, [], ◌∷◌, ◌++◌, length, find, Option, Some, None, Result, Ok, Err, unwrap_or, if◌then◌else◌}
use Rattle.wire_time.specs.Moment.{greatest_moment}
use Rattle.abstract_port.specs.Map.{map_of}
use Rattle.abstract_port.specs.declared.class_map.ClassMap.{ClassMap}
use Rattle.gates.specs.Gate.{Plan, in_ps}
use Rattle.gates.specs.declared.gate_list.Entry.{Entry}
use Rattle.abstract_port.specs.AbstractPort.{plan_asked}
use Rattle.abstract_port.specs.declared.Change.{Change}
use Rattle.abstract_port.specs.declared.Refused.{Refused}
use Rattle.job.specs.declared.fault.Fault.{Fault}
use Rattle.job.specs.declared.fault.Fault.TheVariants as Faults
use Rattle.schedule_check.specs.Refusals.{map_if_good}
use Rattle.script.specs.Settings.{settings_with}
use Rattle.script.specs.Setup.{Setup}
use Rattle.script.specs.declared.settings.BadValue.{BadValue}
use Rattle.stream_bounds.specs.Classes.{refusal_of}
use Rattle.stream_bounds.specs.declared.settings.BoundsSettings.{BoundsSettings}
use Rattle.network.specs.Network.{Net, first_of}
use Rattle.network.specs.declared.network_table.contents.Clocks.{Clocks}
use Rattle.network.specs.declared.network_table.contents.PortSetting.{PortSetting}
use Rattle.network.specs.declared.network_table.said.PortValues.{PortValues}
use Rattle.network.specs.Schedules.{has_port}
use Rattle.network.specs.declared.port_schedules.schedules.PortSchedule.{PortSchedule}
use Rattle.path_bounds.specs.declared.hop.PathPort.{PathPort}
use Rattle.paths.specs.declared.faults.PathsInput.{PathsInput}
use Rattle.paths.specs.declared.faults.PathsInput.TheVariants as Inputs
use Rattle.paths.specs.declared.ports.TheConstants.{MOST_NETWORK_PORTS, OPEN_NS}

-- 1. What a port has

-- what a line says of a port
abbrev pub values_of : ℕ → PortSetting → Option PortValues
values_of port s = if s.port == port then Some s.values else None

-- what is said of it, and else what the options say; all that is said is within its limits
abbrev pub setup_by : Setup → PortValues → Result Setup BadValue
setup_by p v = settings_with (unwrap_or v.rate p.rate) (unwrap_or v.mtu p.mtu) (unwrap_or v.room p.room) None

abbrev pub or_setup : Setup → Result Setup BadValue → Setup
or_setup p (Ok said) = said
or_setup p (Err why) = p

abbrev pub setup_at : Setup → Option PortValues → Setup
setup_at p None = p
setup_at p (Some v) = or_setup p (setup_by p v)

abbrev pub settings_at : BoundsSettings → Net → (port : ℕ) → BoundsSettings
settings_at s net port = record s { port = setup_at s.port (first_of (values_of port) net.settings) }

-- 2. Its schedule

-- a change by which all gates are open, and priorities 0 to 7 are classes 0 to 7
abbrev pub open_list : List Entry
open_list = record { mask = 255; interval = OPEN_NS } ∷ []

abbrev pub open_map : Option ClassMap
open_map = map_if_good (map_of 8 (0 ∷ 1 ∷ 2 ∷ 3 ∷ 4 ∷ 5 ∷ 6 ∷ 7 ∷ []))

abbrev pub open_change : Change
open_change = record {
  map = open_map;
  queues = None;
  max_sdu = None;
  list = open_list;
  base_ns = 0;
  cycle_ns = 0;
  extension_ns = 0;
}

-- the change that its command asks for, and the line of that
abbrev pub change_by : Option PortSchedule → Change
change_by None = open_change
change_by (Some s) = s.change

abbrev pub line_by : Option PortSchedule → ℕ
line_by None = 0
line_by (Some s) = s.line

-- A schedule is at the begin of a cycle at its base time. It is in force for so long at moment zero, and for no less than that.
abbrev pub since_of : Plan → (lead : ℕ) → ℕ
since_of plan lead = lead + (in_ps plan.cycle - (lead + in_ps plan.base) % in_ps plan.cycle) % in_ps plan.cycle

-- By as much as clocks may differ along a way through all ports, a frame may come sooner by the clock of its last port: so long a schedule is
-- in force at the least, and no longer than the greatest moment.
abbrev pub clocks_of : Option Clocks → ℕ
clocks_of None = 0
clocks_of (Some c) = c.difference

abbrev pub lead_of : (clocks ports : ℕ) → ℕ
lead_of clocks ports = min (min (clocks * ports) (2 ^ 128 - 1)) greatest_moment

abbrev pub port_by : BoundsSettings → Change → (lead : ℕ) → PathPort
port_by s c lead = record { settings = s; change = c; schedule = plan_asked c; since = since_of (plan_asked c) lead }

-- 3. All ports

-- a port, unless a new one refuses the change
abbrev pub made_unless : Option Refused → (line : ℕ) → PathPort → Result PathPort PathsInput
made_unless (Some why) line p = Err (Inputs.Refused line why)
made_unless None line p = Ok p

-- a network without names has one port
abbrev pub port_count : Net → ℕ
port_count net = max 1 (length net.names)

abbrev pub lead_in : Net → ℕ
lead_in net = lead_of (clocks_of net.clocks) (port_count net)

-- why there are none: that fault, or a call failed
abbrev pub IsWhy : {T : Type 0} → Fault PathsInput → Result T PathsInput → Type 0
IsWhy (Faults.Input fault) said = said ≡ Err fault
IsWhy Faults.Read said = ⊥
IsWhy Faults.Write said = ⊥
IsWhy Faults.Memory said = ⊤

module _ (s : BoundsSettings) (net : Net) (kept : List PortSchedule) where
  abbrev pub made_by : (number : ℕ) → Option PortSchedule → Result PathPort PathsInput
  made_by number asked =
      made_unless (refusal_of (settings_at s net number) (change_by asked)) (line_by asked) (port_by (settings_at s net number) (change_by asked) (lead_in net))

  abbrev pub made_at : (number : ℕ) → Result PathPort PathsInput
  made_at number = made_by number (find (has_port number) kept)

  abbrev pub with_made : List PathPort → Result PathPort PathsInput → (List PathPort → Result (List PathPort) PathsInput) → Result (List PathPort) PathsInput
  with_made ports (Ok p) on = on (ports ++ p ∷ [])
  with_made ports (Err fault) on = Err fault

  -- so many ports from a number on, behind others; the first whose schedule is refused is the fault
  unfoldable pub ports_from : (count number : ℕ) → List PathPort → Result (List PathPort) PathsInput
  ports_from zero number ports = Ok ports
  ports_from (suc count) number ports = with_made ports (made_at number) (λ more. ports_from count (number + 1) more)

  abbrev pub ports_in : Result (List PathPort) PathsInput
  ports_in = if nat_lt MOST_NETWORK_PORTS (port_count net) then Err Inputs.Ports else ports_from (port_count net) 0 []
