-- The text of a replay's fault, and the exit status that goes with it.
use Rattle.std.specs.Prelude.{List, ℕ, [], ◌∷◌, decimal, codes}
use Rattle.std.specs.List.{concat}
use Rattle.capture.specs.declared.fault.CapFault.{CapFault}
use Rattle.capture.specs.declared.fault.CapFault.TheVariants.{ShortHeader, BadMagic, BadVersion, BadLink, ShortRecord, LongRecord, BadFraction, TooManyRecords, BadShift, Read, Write, Memory}
use Rattle.job.specs.Report.{Telling}
use Rattle.script.specs.Texts.{script_telling, value_text}
use Rattle.script.specs.declared.settings.BadValue.TheVariants as Values
use Rattle.replay.specs.declared.faults.ReplayInput.{ReplayInput}
use Rattle.replay.specs.declared.faults.ReplayInput.TheVariants as Inputs

-- the name of a fault
abbrev pub capture_fault_name : CapFault → List ℕ
capture_fault_name ShortHeader = codes "ShortHeader"
capture_fault_name BadMagic = codes "BadMagic"
capture_fault_name BadVersion = codes "BadVersion"
capture_fault_name BadLink = codes "BadLink"
capture_fault_name ShortRecord = codes "ShortRecord"
capture_fault_name LongRecord = codes "LongRecord"
capture_fault_name BadFraction = codes "BadFraction"
capture_fault_name TooManyRecords = codes "TooManyRecords"
capture_fault_name BadShift = codes "BadShift"
capture_fault_name Read = codes "Read"
capture_fault_name Write = codes "Write"
capture_fault_name Memory = codes "Memory"

-- the text of a fault of a file header, and of one of a record
abbrev pub header_text : CapFault → List ℕ
header_text fault = concat (codes "taprio_port: capture header: " ∷ capture_fault_name fault ∷ codes "\n" ∷ [])

-- the text of the fault of a record
abbrev pub record_text : ℕ → CapFault → List ℕ
record_text number fault = concat (codes "taprio_port: capture record " ∷ decimal number ∷ codes ": " ∷ capture_fault_name fault ∷ codes "\n" ∷ [])

-- the text of a capture's fault; a read, a write and memory have their own
abbrev pub capture_text : ℕ → CapFault → List ℕ
capture_text number ShortHeader = header_text ShortHeader
capture_text number BadMagic = header_text BadMagic
capture_text number BadVersion = header_text BadVersion
capture_text number BadLink = header_text BadLink
capture_text number ShortRecord = record_text number ShortRecord
capture_text number LongRecord = record_text number LongRecord
capture_text number BadFraction = record_text number BadFraction
capture_text number TooManyRecords = record_text number TooManyRecords
capture_text number BadShift = record_text number BadShift
capture_text number Read = codes "taprio_port: read failed\n"
capture_text number Write = codes "taprio_port: write failed\n"
capture_text number Memory = codes "taprio_port: out of memory\n"

-- the text of a fault
abbrev pub replay_text : ReplayInput → List ℕ
replay_text Inputs.Until = value_text Values.Until
replay_text (Inputs.Script bad) = script_telling.text bad
replay_text (Inputs.Capture number fault) = capture_text number fault

-- the text of a path that can't be opened
abbrev pub open_text : List ℕ → List ℕ
open_text path = concat (codes "taprio_port: cannot open " ∷ path ∷ codes "\n" ∷ [])

-- 3: the input is refused; 4: a read, a write or memory failed
abbrev pub capture_status : CapFault → ℕ
capture_status ShortHeader = 3
capture_status BadMagic = 3
capture_status BadVersion = 3
capture_status BadLink = 3
capture_status ShortRecord = 3
capture_status LongRecord = 3
capture_status BadFraction = 3
capture_status TooManyRecords = 3
capture_status BadShift = 3
capture_status Read = 4
capture_status Write = 4
capture_status Memory = 4

-- and 2: a value is refused
abbrev pub replay_status : ReplayInput → ℕ
replay_status Inputs.Until = 2
replay_status (Inputs.Script bad) = 3
replay_status (Inputs.Capture number fault) = capture_status fault

-- what is reported of a fault
abbrev pub replay_telling : Telling ReplayInput
replay_telling = record { text = replay_text; status = replay_status }
