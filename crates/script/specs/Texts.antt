-- The texts of faults, and the exit statuses that go with them.
use Rattle.std.specs.Prelude.{List, ℕ, [], ◌∷◌, decimal, codes}
use Rattle.std.specs.List.{concat}
use Rattle.job.specs.Report.{Telling}
use Rattle.script.specs.declared.faults.BadLine.{BadLine}
use Rattle.script.specs.declared.settings.BadValue.{BadValue}
use Rattle.script.specs.declared.settings.BadValue.TheVariants as Values
use Rattle.script.specs.declared.faults.ScriptFault.{ScriptFault}
use Rattle.script.specs.declared.faults.ScriptFault.TheVariants.{LongLine, TooManyLines, UnknownLine, FrameInReplay, WordCount, BadNumber, ClockTooLate}

-- the name of a fault
abbrev pub script_fault_name : ScriptFault → List ℕ
script_fault_name LongLine = codes "LongLine"
script_fault_name TooManyLines = codes "TooManyLines"
script_fault_name UnknownLine = codes "UnknownLine"
script_fault_name FrameInReplay = codes "FrameInReplay"
script_fault_name WordCount = codes "WordCount"
script_fault_name BadNumber = codes "BadNumber"
script_fault_name ClockTooLate = codes "ClockTooLate"

-- the option whose value is bad
abbrev pub option_name : BadValue → List ℕ
option_name Values.Rate = codes "--rate"
option_name Values.Mtu = codes "--mtu"
option_name Values.Room = codes "--room"
option_name Values.Until = codes "--until"
option_name Values.From = codes "--from"
option_name Values.To = codes "--to"
option_name Values.Width = codes "--width"
option_name Values.Map = codes "--map"
option_name Values.Frame = codes "--frame"
option_name Values.Seed = codes "--seed"

-- the text of a bad value
abbrev pub value_text : BadValue → List ℕ
value_text value = concat (codes "taprio_port: bad value of " ∷ option_name value ∷ codes "\n" ∷ [])

-- the text of a line's fault, after a beginning that names the input
abbrev pub line_text : List ℕ → ℕ → ScriptFault → List ℕ
line_text begin line fault = concat (begin ∷ decimal line ∷ codes ": " ∷ script_fault_name fault ∷ codes "\n" ∷ [])

-- what is reported of a line of a script; 3: the input is refused
abbrev pub script_telling : Telling BadLine
script_telling = record { text = λ bad. line_text (codes "taprio_port: script line ") bad.line bad.fault; status = λ bad. 3 }
