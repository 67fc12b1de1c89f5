-- What a run of the program on a network and schedules leaves: its exit status, what the writer got, and the text of a fault.
use Rattle.std.specs.Prelude.{ℕ, List, Option, Some, None, Result, Ok, Err, IfSome}
use Rattle.abstract_port.specs.declared.Command.{Command}
use Rattle.job.specs.RunEnd.{IsLetOut, IsRunEnding}
use Rattle.job.specs.declared.report.Ended.{Ended}
use Rattle.text.specs.Script.{script_of}
use Rattle.paths.specs.Faults.{paths_telling}
use Rattle.paths.specs.Outcome.{IsRunOut}
use Rattle.stream_bounds.specs.declared.settings.BoundsSettings.{BoundsSettings}
use Rattle.port_text.specs.Reader.{IsReader}
use Rattle.port_text.specs.declared.tc_reader.fault.TcFault.{TcFault}

-- The end of a run: what the writer got, with what no write let out, is what is to be written for the octets of the network and of the schedules,
-- or after a fault of a call's a prefix of it.
abbrev pub IsPathsEnding : BoundsSettings → (next network schedules : Option (List ℕ)) → Ended → (old got errors_old errors_new : Option (List ℕ))
    → Type 0
IsPathsEnding s next network schedules ended old got errors_old errors_new =
    IsRunEnding paths_telling (λ run. IsLetOut run got (λ out. (read : List (List ℕ) → Result Command TcFault) → IsReader read
    → IfSome network (λ ports. IfSome schedules (λ lines.
    IsRunOut run s next read (script_of ports) (script_of lines) old out)))) ended errors_old errors_new
