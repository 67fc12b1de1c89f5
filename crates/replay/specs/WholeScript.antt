-- How a script is read whole.
use Rattle.std.specs.Prelude.{◌≡◌, ℕ, List, ◌++◌, Some, None, Result, Ok, Err}
use Rattle.abstract_port.specs.declared.Command.{Command}
use Rattle.script.specs.Outcome.{Reading}
use Rattle.script.specs.Requests.{Request}
use Rattle.port_text.specs.declared.tc_reader.fault.TcFault.{TcFault}
use Rattle.replay.specs.KeptScript.{kept_requests}
use Rattle.job.specs.declared.fault.Fault.{Fault}
use Rattle.job.specs.declared.fault.Fault.TheVariants as Faults
use Rattle.replay.specs.declared.faults.ReplayInput.{ReplayInput}
use Rattle.replay.specs.declared.faults.ReplayInput.TheVariants as Inputs
use Rattle.replay.specs.declared.kept_script.KeptScript.{KeptScript}

-- why reading a script ended early: at its own first fault, or since a read or memory failed
abbrev pub IsScriptFault : Fault ReplayInput → Reading → Type 0
IsScriptFault (Faults.Input (Inputs.Script bad)) reading = reading.fault ≡ Some bad
IsScriptFault Faults.Read reading = Unit {0}
IsScriptFault Faults.Memory reading = Unit {0}
IsScriptFault Faults.Write reading = ⊥
IsScriptFault (Faults.Input Inputs.Until) reading = ⊥
IsScriptFault (Faults.Input (Inputs.Capture number fault)) reading = ⊥

-- reading the rest of a script, after what is kept: at Ok all that it asks is kept, and it has no fault
abbrev pub ReadsRest : {T : Type 0} → Result T (Fault ReplayInput) → List Request → Reading → List Request → Type 0
ReadsRest (Ok x) kept reading all = (reading.fault ≡ None) × (all ≡ kept ++ reading.requests)
ReadsRest (Err fault) kept reading all = IsScriptFault fault reading

-- what reading a whole script gives: at Ok all that it asks is kept, and it has no fault
abbrev pub GivesScript : {A : Type 0} → (List (List ℕ) → Result Command TcFault) → Result (KeptScript A) (Fault ReplayInput) → Reading → Type 0
GivesScript read (Ok script) reading = (reading.fault ≡ None) × (kept_requests read script.octets.items script.lines.items ≡ reading.requests)
GivesScript read (Err fault) reading = IsScriptFault fault reading
