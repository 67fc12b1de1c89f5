-- The claim for each network that is read: what is found of it holds in every run.
--
-- A network is read from octets, and its ports are made by settings and by schedules, whichever these are. Then its ports and the ways of its
-- streams are such as the claim for what is read of a network asks (Found.antt of path_claim), so that this speaks of each network of which
-- `paths` answers.
use Rattle.std.specs.Prelude.{◌≡◌, ◌⊎◌, ℕ, List, Option, Result, Ok}
use Rattle.abstract_port.specs.declared.Command.{Command}
use Rattle.job.specs.Outcome.{RunsOut}
use Rattle.job.specs.declared.fault.Fault.{Fault}
use Rattle.text.specs.Script.{script_of}
use Rattle.port_text.specs.declared.tc_reader.fault.TcFault.{TcFault}
use Rattle.network.specs.Network.{Net, network_of}
use Rattle.network.specs.declared.port_schedules.schedules.PortSchedule.{PortSchedule}
use Rattle.stream_bounds.specs.declared.settings.BoundsSettings.{BoundsSettings}
use Rattle.path_bounds.specs.Judged.{Known}
use Rattle.path_bounds.specs.declared.hop.PathPort.{PathPort}
use Rattle.paths.specs.Outcome.{AreJudgedOf, IsRunOut, OrStopped, failed, outcome_of}
use Rattle.paths.specs.Ports.{clocks_of, ports_in}
use Rattle.paths.specs.Ways.{ways_in}
use Rattle.paths.specs.declared.faults.PathsInput.{PathsInput}
use Rattle.claims.specs.Network.{IsNetworkRun, PortRun}
use Rattle.path_claim.specs.Built.{AreWays, network_of as found_network}
use Rattle.path_claim.specs.Found.{IsKeptBy}
use Rattle.path_claim.specs.Read.{IsRead}

-- What is known of all classes of these ports holds in every run of the network that is found.
abbrev pub Holds : List PathPort → (clocks : ℕ) → Known → Type 0
Holds ports clocks known =
    (runs : ℕ → PortRun) (nominal : (stream n : ℕ) → ℕ) → IsNetworkRun (found_network ports clocks known) runs nominal
    → IsKeptBy (found_network ports clocks known) ports clocks known runs nominal

module _ (s : BoundsSettings) where
  -- A network is read from octets: no line has a fault, and each way can be gone. Its ports are made: none refuses its schedule.
  pub record IsMade (octets : List ℕ) (net : Net) (kept : List PortSchedule) (ports : List PathPort) : Type 0 where
    pub read : network_of (script_of octets) ≡ Ok net
    pub made : ports_in s net kept ≡ Ok ports

  -- The laws: each port of a way is there, and all hops of a way are of one stream;
  abbrev pub MadeWaysLaw : Type 0
  MadeWaysLaw =
      (octets : List ℕ) (net : Net) (kept : List PortSchedule) (ports : List PathPort) → IsMade octets net kept ports → AreWays ports (ways_in net)

  -- and all that is read is within limits, so that no sum comes near what 128 bits hold.
  abbrev pub MadeReadLaw : Type 0
  MadeReadLaw =
      (octets : List ℕ) (net : Net) (kept : List PortSchedule) (ports : List PathPort) → IsMade octets net kept ports
      → IsRead ports (clocks_of net.clocks) (ways_in net)

  -- The claim: once all classes are judged, what is known of them holds in every run.
  abbrev pub ReadClaim : Type 0
  ReadClaim =
      (octets : List ℕ) (net : Net) (kept : List PortSchedule) (ports : List PathPort) (known : Known) → IsMade octets net kept ports
      → AreJudgedOf net ports known → Holds ports (clocks_of net.clocks) known

  module _ (octets : List ℕ) (result : Result (Unit {0}) (Fault PathsInput)) (old new : Option (List ℕ)) where
    -- a fault of the inputs ends a run, and nothing is written
    abbrev pub IsFailed : Type 0
    IsFailed = (why : PathsInput) × RunsOut result old new (failed why)

    -- What a run writes is what is known of a network that is made of octets. That holds in every run.
    pub record IsAnswered : Type 0 where
      pub net : Net
      pub kept : List PortSchedule
      pub ports : List PathPort
      pub known : Known
      pub made : IsMade octets net kept ports
      pub target : Option ℕ
      pub written : RunsOut result old new (outcome_of s target net kept ports known)
      pub holds : Holds ports (clocks_of net.clocks) known

  -- The claim for a run of `paths` on the octets of a network and of schedules: it has stopped, or has failed, or what it writes holds.
  abbrev pub RunClaim : Type 0
  RunClaim =
      (next : Option (List ℕ)) (read : List (List ℕ) → Result Command TcFault) (network schedules : List ℕ)
      (result : Result (Unit {0}) (Fault PathsInput)) (old new : Option (List ℕ))
      → IsRunOut result s next read (script_of network) (script_of schedules) old new
      → OrStopped result s old new (IsFailed network result old new ⊎ IsAnswered network result old new)
