-- What is written for a network and the schedules of its ports, and the fault that ends it.
--
-- What is known of all classes is right where these are judged as `AreJudged` says. What is written is then one text: `outcome_of`.
use Rattle.std.specs.Prelude.{ℕ, ◌≡◌, ◌⊎◌, ⊤, List, [], ◌∷◌, ◌++◌, ◌*◌, length, Bool, true, false, Option, Some, None, Result, Ok, Err, option_map}
use Rattle.std.specs.Io.KnownBytes.{Keeps}
use Rattle.abstract_port.specs.declared.Command.{Command}
use Rattle.job.specs.Outcome.{Outcome, Runs, RunsOut}
use Rattle.job.specs.declared.fault.Fault.{Fault}
use Rattle.job.specs.declared.fault.Fault.TheVariants as Faults
use Rattle.text.specs.Script.{Script, script_of}
use Rattle.network.specs.Network.{Net, network_of, port_of}
use Rattle.network.specs.declared.network_table.faults.BadNetwork.{BadNetwork}
use Rattle.path_bounds.specs.Judged.{AreJudged, Known, unjudged}
use Rattle.path_bounds.specs.Start.{start_hops}
use Rattle.path_bounds.specs.declared.hop.PathPort.{PathPort}
use Rattle.network.specs.Schedules.{schedules_from}
use Rattle.network.specs.declared.port_schedules.faults.BadSchedules.{BadSchedules}
use Rattle.network.specs.declared.port_schedules.schedules.PortSchedule.{PortSchedule}
use Rattle.stream_bounds.specs.declared.settings.BoundsSettings.{BoundsSettings}
use Rattle.port_text.specs.declared.tc_reader.fault.TcFault.{TcFault}
use Rattle.paths.specs.Findings.{found_in}
use Rattle.paths.specs.NextLines.{next_lines}
use Rattle.paths.specs.Order.{port_order}
use Rattle.paths.specs.PathLines.{paths_lines}
use Rattle.paths.specs.PortLines.{cyclic_line, ports_lines}
use Rattle.paths.specs.Ports.{clocks_of, ports_in}
use Rattle.paths.specs.Ways.{short, ways_in}
use Rattle.paths.specs.declared.faults.PathsFinding.{PathsFinding}
use Rattle.paths.specs.declared.faults.PathsInput.{PathsInput}
use Rattle.paths.specs.declared.faults.PathsInput.TheVariants as Inputs

-- 1. By what is known

-- the ports in this order, the circles, and the ways
abbrev pub answer_lines : (names : List (List ℕ)) → (order : List ℕ) → List PathPort → Known → List ℕ
answer_lines names order ports k =
    ports_lines k names ports order
    ++ (cyclic_line k names (8 * length ports) ++ paths_lines ports k.verdicts names false k.hops)

-- or the table of a port, where that is asked for
abbrev pub lines_for : (target : Option ℕ) → (names : List (List ℕ)) → (order : List ℕ) → List PathPort → Known → List ℕ
lines_for None names order ports k = answer_lines names order ports k
lines_for (Some port) names order ports k = next_lines (short port) k.hops

-- what is told of a finding, where a run is strict
abbrev pub told_if : Bool → Option PathsFinding → Option PathsInput
told_if true (Some finding) = Some (Inputs.Found finding)
told_if true None = None
told_if false finding = None

abbrev pub outcome_of : BoundsSettings → (target : Option ℕ) → Net → List PortSchedule → List PathPort → Known → Outcome PathsInput
outcome_of s target net kept ports k = record {
  text = lines_for target net.names (port_order k.order (length ports)) ports k;
  fault = told_if s.strict (found_in net kept ports k);
}

-- 2. By the inputs

-- where an input has a fault, nothing is written
abbrev pub failed : PathsInput → Outcome PathsInput
failed fault = record { text = []; fault = Some fault }

-- the port whose table is asked for: the outer None is a name that no port has
abbrev pub target_in : Net → (next : Option (List ℕ)) → Option (Option ℕ)
target_in net None = Some None
target_in net (Some name) = option_map (λ port. Some port) (port_of net name)

-- so the classes of all ports are judged, once the ways of the network's streams have begun
abbrev pub AreJudgedOf : Net → List PathPort → Known → Type 0
AreJudgedOf net ports known = AreJudged ports (clocks_of net.clocks) (unjudged ports (start_hops ports false (ways_in net))) known

module _ (s : BoundsSettings) (Is : Outcome PathsInput → Type 0) where
  -- what is known of all classes is right, and so is what is written
  pub record IsAnswered (target : Option ℕ) (net : Net) (kept : List PortSchedule) (ports : List PathPort) : Type 0 where
    pub known : Known
    pub judged : AreJudgedOf net ports known
    pub is : Is (outcome_of s target net kept ports known)

  abbrev pub ByPorts : (target : Option ℕ) → Net → List PortSchedule → Result (List PathPort) PathsInput → Type 0
  ByPorts target net kept (Ok ports) = IsAnswered target net kept ports
  ByPorts target net kept (Err fault) = Is (failed fault)

  abbrev pub BySchedules : (target : Option ℕ) → Net → Result (List PortSchedule) BadSchedules → Type 0
  BySchedules target net (Ok kept) = ByPorts target net kept (ports_in s net kept)
  BySchedules target net (Err bad) = Is (failed (Inputs.Schedules bad))

  module _ (read : List (List ℕ) → Result Command TcFault) (schedules : Script) where
    abbrev pub ByTarget : Net → Option (Option ℕ) → Type 0
    ByTarget net None = Is (failed Inputs.Next)
    ByTarget net (Some target) = BySchedules target net (schedules_from read net [] schedules)

    abbrev pub ByNetwork : (next : Option (List ℕ)) → Result Net BadNetwork → Type 0
    ByNetwork next (Ok net) = ByTarget net (target_in net next)
    ByNetwork next (Err bad) = Is (failed (Inputs.Network bad))

-- What an outcome of a network and schedules is.
abbrev pub IsOutcome : BoundsSettings → (next : Option (List ℕ)) → (List (List ℕ) → Result Command TcFault) → (network schedules : Script)
    → (Outcome PathsInput → Type 0) → Type 0
IsOutcome s next read network schedules Is = ByNetwork s Is read schedules next (network_of network)

-- 3. A run

-- a call failed before anything was written
abbrev pub IsStopped : {T : Type 0} → Result T (Fault PathsInput) → Type 0
IsStopped (Ok x) = ⊥
IsStopped (Err (Faults.Input fault)) = ⊥
IsStopped (Err Faults.Read) = ⊤
IsStopped (Err Faults.Write) = ⊤
IsStopped (Err Faults.Memory) = ⊤

-- an end with this fault, or without one
abbrev pub IsEnd : Result (Unit {0}) (Fault PathsInput) → Option PathsInput → Type 0
IsEnd (Ok x) fault = fault ≡ None
IsEnd (Err why) None = ⊥
IsEnd (Err why) (Some fault) = why ≡ Faults.Input fault

-- So a run ends: before anything is written, or with an outcome of its inputs.
module _ (result : Result (Unit {0}) (Fault PathsInput)) (s : BoundsSettings) where
  abbrev pub OrStopped : (old new : Option (List ℕ)) → Type 0 → Type 0
  OrStopped old new Is = (IsStopped result × Keeps old new) ⊎ Is

  abbrev pub IsAnsweredRun : (target : Option ℕ) → Net → List PortSchedule → List PathPort → (old new : Option (List ℕ)) → Type 0
  IsAnsweredRun target net kept ports old new = OrStopped old new (IsAnswered s (Runs result old new) target net kept ports)

  abbrev pub IsPortsRun : (target : Option ℕ) → Net → List PortSchedule → (old new : Option (List ℕ)) → Type 0
  IsPortsRun target net kept old new = OrStopped old new (ByPorts s (Runs result old new) target net kept (ports_in s net kept))

  module _ (next : Option (List ℕ)) where
    abbrev pub IsTargetRun : Net → (List (List ℕ) → Result Command TcFault) → Script → (old new : Option (List ℕ)) → Type 0
    IsTargetRun net read schedules old new = OrStopped old new (ByTarget s (Runs result old new) read schedules net (target_in net next))

    abbrev pub IsLinesRun : (List (List ℕ) → Result Command TcFault) → (network schedules : Script) → (old new : Option (List ℕ)) → Type 0
    IsLinesRun read network schedules old new = OrStopped old new (IsOutcome s next read network schedules (Runs result old new))

    -- the same of a run whose output goes through a buffer
    abbrev pub IsRunOut : (List (List ℕ) → Result Command TcFault) → (network schedules : Script) → (old new : Option (List ℕ)) → Type 0
    IsRunOut read network schedules old new = OrStopped old new (IsOutcome s next read network schedules (RunsOut result old new))
