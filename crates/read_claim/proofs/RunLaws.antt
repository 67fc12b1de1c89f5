-- What a run of `paths` writes, by its inputs.
use Rattle.std.proofs.Common.{◌≡◌, ◌⊎◌, inl, inr, ℕ, List, [], Option, Some, None, Result, Ok, Err, refl}
use Rattle.abstract_port.specs.declared.Command.{Command}
use Rattle.job.specs.Outcome.{RunsOut}
use Rattle.job.specs.declared.fault.Fault.{Fault}
use Rattle.text.specs.Script.{script_of}
use Rattle.port_text.specs.declared.tc_reader.fault.TcFault.{TcFault}
use Rattle.network.specs.Network.{Net, network_of}
use Rattle.network.specs.Schedules.{schedules_from}
use Rattle.network.specs.declared.network_table.faults.BadNetwork.{BadNetwork}
use Rattle.network.specs.declared.port_schedules.faults.BadSchedules.{BadSchedules}
use Rattle.network.specs.declared.port_schedules.schedules.PortSchedule.{PortSchedule}
use Rattle.path_bounds.specs.declared.hop.PathPort.{PathPort}
use Rattle.paths.specs.Outcome.{ByNetwork, ByPorts, BySchedules, ByTarget, target_in}
use Rattle.paths.specs.Ports.{ports_in}
use Rattle.paths.specs.declared.faults.PathsInput.{PathsInput}
use Rattle.paths.specs.declared.faults.PathsInput.TheVariants as Inputs
use Rattle.stream_bounds.specs.declared.settings.BoundsSettings.{BoundsSettings}
use Rattle.read_claim.specs.ReadClaim.{IsAnswered, IsFailed, ReadClaim, RunClaim}

module _ (s : BoundsSettings) (claim : ReadClaim s) (octets : List ℕ) (result : Result (Unit {0}) (Fault PathsInput)) (old new : Option (List ℕ)) where
  abbrev Told : Type 0
  Told = IsFailed s octets result old new ⊎ IsAnswered s octets result old new

  module _ (net : Net) (is : network_of (script_of octets) ≡ Ok net) (target : Option ℕ) where
    by_ports : (kept : List PortSchedule) (r : Result (List PathPort) PathsInput) → ports_in s net kept ≡ r
        → ByPorts s (RunsOut result old new) target net kept r → Told
    by_ports kept (Err why) made out = inl (why, out)
    by_ports kept (Ok ports) made out =
        inr (record {
          net = net;
          kept = kept;
          ports = ports;
          known = out.known;
          made = record { read = is; made = made };
          target = target;
          written = out.is;
          holds = claim octets net kept ports out.known (record { read = is; made = made }) out.judged;
        })

    by_schedules : (r : Result (List PortSchedule) BadSchedules) → BySchedules s (RunsOut result old new) target net r → Told
    by_schedules (Err bad) out = inl (Inputs.Schedules bad, out)
    by_schedules (Ok kept) out = by_ports kept (ports_in s net kept) refl out

  module _ (next : Option (List ℕ)) (read : List (List ℕ) → Result Command TcFault) (schedules : List ℕ) where
    by_target : (net : Net) → network_of (script_of octets) ≡ Ok net → (o : Option (Option ℕ))
        → ByTarget s (RunsOut result old new) read (script_of schedules) net o → Told
    by_target net is None out = inl (Inputs.Next, out)
    by_target net is (Some target) out = by_schedules net is target (schedules_from read net [] (script_of schedules)) out

    by_network : (r : Result Net BadNetwork) → network_of (script_of octets) ≡ r
        → ByNetwork s (RunsOut result old new) read (script_of schedules) next r → Told
    by_network (Err bad) is out = inl (Inputs.Network bad, out)
    by_network (Ok net) is out = by_target net is (target_in net next) out

pub run_claim : (s : BoundsSettings) → ReadClaim s → RunClaim s
run_claim s claim next read network schedules result old new (inl stopped) = inl stopped
run_claim s claim next read network schedules result old new (inr out) =
    inr (by_network s claim network result old new next read schedules (network_of (script_of network)) refl out)
