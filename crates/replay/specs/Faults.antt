-- Faults of a replay, from those of its parts.
use Rattle.std.specs.Prelude.{ℕ}
use Rattle.text.specs.declared.line_reader.lines.Limit.{Limit}
use Rattle.job.specs.declared.fault.Fault.{Fault}
use Rattle.job.specs.declared.fault.Fault.TheVariants as Faults
use Rattle.script.specs.Outcome.{long_line}
use Rattle.replay.specs.declared.faults.ReplayInput.{ReplayInput}
use Rattle.replay.specs.declared.faults.ReplayInput.TheVariants as Inputs
use Rattle.replay.specs.declared.faults.Stop.{Stop}
use Rattle.replay.specs.declared.faults.Stop.TheVariants as Stops

-- the fault of a script whose line of this number passes a limit
abbrev pub script_limited : ℕ → Limit → ReplayInput
script_limited number limit = Inputs.Script (long_line number limit)

-- the fault of a replay that stops where it stands
abbrev pub fault_of_stop : Stop → Fault ReplayInput
fault_of_stop Stops.Read = Faults.Read
fault_of_stop Stops.Write = Faults.Write
fault_of_stop Stops.Memory = Faults.Memory
