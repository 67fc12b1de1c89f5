-- A line of a schedule by which the streams of a table make their deadlines.
use Rattle.std.specs.Prelude.{◌≡◌, ◌⊎◌, ℕ, List, [], ◌∷◌, true, false, Option, None, Result}
use Rattle.abstract_port.specs.declared.Command.{Command}
use Rattle.script.specs.Setup.{Setup}
use Rattle.stream_bounds.specs.BoundsEnd.{no_classes}
use Rattle.paths.specs.Outcome as Paths
use Rattle.stream_bounds.specs.Outcome.{IsOutcome}
use Rattle.text.specs.Script.{script_of}
use Rattle.stream_bounds.specs.declared.settings.BoundsSettings.{BoundsSettings}
use Rattle.port_text.specs.Reader.{IsReader}
use Rattle.port_text.specs.declared.tc_reader.fault.TcFault.{TcFault}

-- a strict run of `bounds` on a new port, where nothing else is asked for
abbrev pub strict_settings : Setup → BoundsSettings
strict_settings port = record {
  port = port;
  map = None;
  frames = 1000000;
  strict = true;
  slack = false;
  why = false;
  silent = no_classes;
  leftovers = false;
}

-- The octets of a schedule are met by those of a table: a strict run of `bounds` on both ends without a fault, so without a finding. No deadline is
-- missed or unknown then, no frame is dropped, no class loses frames, and the schedule is accepted.
abbrev pub IsMet : Setup → (table schedule : List ℕ) → Type 0
IsMet port table schedule =
    (read : List (List ℕ) → Result Command TcFault) → IsReader read
    → IsOutcome false read (strict_settings port) table schedule (λ o. o.fault ≡ None)

-- The octets of the schedules of its ports are met by those of a network: a strict run of `paths` on both ends without a fault, so without a finding.
-- Each stream makes its deadline from end to end then, and each schedule is accepted.
abbrev pub IsMetAlong : Setup → (network schedules : List ℕ) → Type 0
IsMetAlong port network schedules =
    (read : List (List ℕ) → Result Command TcFault) → IsReader read
    → Paths.IsOutcome (strict_settings port) None read (script_of network) (script_of schedules) (λ o. o.fault ≡ None)

-- What is planned for is a table, which `bounds` reads, or a network, which `paths` does: lines are met by the one or by the other.
abbrev pub IsMetBy : Setup → (table lines : List ℕ) → Type 0
IsMetBy port table lines = IsMet port table lines ⊎ IsMetAlong port table lines
