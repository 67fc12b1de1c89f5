-- Faults of a comparison, and what is reported of them.
use Rattle.std.specs.Prelude.{List, ℕ, [], ◌∷◌, codes, decimal}
use Rattle.std.specs.List.{concat}
use Rattle.capture.specs.declared.fault.CapFault.{CapFault}
use Rattle.capture.specs.declared.fault.CapFault.TheVariants as Caps
use Rattle.job.specs.Report.{Telling}
use Rattle.job.specs.declared.kind.CaptureKind.TheVariants as CaptureKinds
use Rattle.job.specs.declared.kind.FaultKind.{FaultKind}
use Rattle.job.specs.declared.kind.FaultKind.TheVariants as Kinds
use Rattle.job.specs.declared.kind.LineKind.TheVariants as LineKinds
use Rattle.compare.specs.declared.faults.CompareInput.{CompareInput}
use Rattle.compare.specs.declared.faults.CompareInput.TheVariants as Inputs
use Rattle.compare.specs.declared.faults.Finding.{Finding}
use Rattle.compare.specs.declared.faults.Finding.TheVariants as Findings
use Rattle.compare.specs.declared.faults.RecordFault.{RecordFault}
use Rattle.compare.specs.declared.faults.RecordFault.TheVariants as Records
use Rattle.compare.specs.declared.faults.Side.{Side}
use Rattle.compare.specs.declared.faults.Side.TheVariants as Sides
use Rattle.compare.specs.declared.faults.TableFault.{TableFault}
use Rattle.compare.specs.declared.faults.TableFault.TheVariants as Tables
use Rattle.compare.specs.declared.faults.Trouble.{Trouble}
use Rattle.compare.specs.declared.faults.Trouble.TheVariants as Troubles

-- 1. Names

abbrev pub side_name : Side → List ℕ
side_name Sides.First = codes "A"
side_name Sides.Second = codes "B"

abbrev pub table_name : TableFault → List ℕ
table_name Tables.LongLine = codes "LongLine"
table_name Tables.TooManyLines = codes "TooManyLines"
table_name Tables.NoColumn = codes "NoColumn"
table_name Tables.FieldCount = codes "FieldCount"
table_name Tables.BadNumber = codes "BadNumber"
table_name Tables.NoPayload = codes "NoPayload"

abbrev pub capture_name : CapFault → List ℕ
capture_name Caps.ShortHeader = codes "ShortHeader"
capture_name Caps.BadMagic = codes "BadMagic"
capture_name Caps.BadVersion = codes "BadVersion"
capture_name Caps.BadLink = codes "BadLink"
capture_name Caps.ShortRecord = codes "ShortRecord"
capture_name Caps.LongRecord = codes "LongRecord"
capture_name Caps.BadFraction = codes "BadFraction"
capture_name Caps.TooManyRecords = codes "TooManyRecords"
capture_name Caps.BadShift = codes "BadShift"
capture_name Caps.Read = codes "Read"
capture_name Caps.Write = codes "Write"
capture_name Caps.Memory = codes "Memory"

abbrev pub record_name : RecordFault → List ℕ
record_name (Records.Capture fault) = capture_name fault
record_name Records.NoId = codes "NoId"

-- 2. Texts

-- where in an input a fault is, and which one
abbrev pub place_text : Side → List ℕ → ℕ → List ℕ → List ℕ
place_text side what number name = concat (
    codes "taprio_port: " ∷ side_name side ∷ what ∷ decimal number ∷ codes ": " ∷ name ∷ codes "\n" ∷ [])

abbrev pub header_text : Side → CapFault → List ℕ
header_text side fault = concat (codes "taprio_port: " ∷ side_name side ∷ codes " header: " ∷ capture_name fault ∷ codes "\n" ∷ [])

abbrev pub trouble_text : Side → Trouble → List ℕ
trouble_text side (Troubles.Line number fault) = place_text side (codes " line ") number (table_name fault)
trouble_text side (Troubles.Header fault) = header_text side fault
trouble_text side (Troubles.Record number fault) = place_text side (codes " record ") number (record_name fault)

-- a frame without a partner
abbrev pub single_found : List ℕ → ℕ → List ℕ
single_found what name = concat (what ∷ decimal name ∷ codes "\n" ∷ [])

-- a pair whose moments differ by so much
abbrev pub apart_found : ℕ → ℕ → ℕ → List ℕ
apart_found a b by = concat (
    codes "taprio_port: compare: pair " ∷ decimal a ∷ codes " " ∷ decimal b ∷ codes " differs by " ∷ decimal by ∷ codes "\n" ∷ [])

abbrev pub found_text : Finding → List ℕ
found_text (Findings.Apart a b by) = apart_found a b by
found_text (Findings.Missing a) = single_found (codes "taprio_port: compare: missing ") a
found_text (Findings.Extra b) = single_found (codes "taprio_port: compare: extra ") b
found_text Findings.NoPair = codes "taprio_port: compare: no pair\n"

abbrev pub compare_text : CompareInput → List ℕ
compare_text (Inputs.Input side trouble) = trouble_text side trouble
compare_text (Inputs.Found finding) = found_text finding

-- 3. Statuses and kinds

-- 3 where an input is refused, 1 where something is found
abbrev pub compare_status : CompareInput → ℕ
compare_status (Inputs.Input side trouble) = 3
compare_status (Inputs.Found finding) = 1

abbrev pub compare_telling : Telling CompareInput
compare_telling = record { text = compare_text; status = compare_status }

abbrev pub table_kind : TableFault → FaultKind
table_kind Tables.LongLine = Kinds.Line LineKinds.LongLine
table_kind Tables.TooManyLines = Kinds.Line LineKinds.TooManyLines
table_kind Tables.NoColumn = Kinds.Line LineKinds.NoColumn
table_kind Tables.FieldCount = Kinds.Line LineKinds.FieldCount
table_kind Tables.BadNumber = Kinds.Line LineKinds.BadNumber
table_kind Tables.NoPayload = Kinds.Line LineKinds.NoPayload

abbrev pub capture_kind : CapFault → FaultKind
capture_kind Caps.ShortHeader = Kinds.Capture CaptureKinds.ShortHeader
capture_kind Caps.BadMagic = Kinds.Capture CaptureKinds.BadMagic
capture_kind Caps.BadVersion = Kinds.Capture CaptureKinds.BadVersion
capture_kind Caps.BadLink = Kinds.Capture CaptureKinds.BadLink
capture_kind Caps.ShortRecord = Kinds.Capture CaptureKinds.ShortRecord
capture_kind Caps.LongRecord = Kinds.Capture CaptureKinds.LongRecord
capture_kind Caps.BadFraction = Kinds.Capture CaptureKinds.BadFraction
capture_kind Caps.TooManyRecords = Kinds.Capture CaptureKinds.TooManyRecords
capture_kind Caps.BadShift = Kinds.Capture CaptureKinds.BadShift
capture_kind Caps.Read = Kinds.ReadFailed
capture_kind Caps.Write = Kinds.WriteFailed
capture_kind Caps.Memory = Kinds.OutOfMemory

abbrev pub trouble_kind : Trouble → FaultKind
trouble_kind (Troubles.Line number fault) = table_kind fault
trouble_kind (Troubles.Header fault) = capture_kind fault
trouble_kind (Troubles.Record number (Records.Capture fault)) = capture_kind fault
trouble_kind (Troubles.Record number Records.NoId) = Kinds.Capture CaptureKinds.NoId

abbrev pub compare_kind : CompareInput → FaultKind
compare_kind (Inputs.Input side trouble) = trouble_kind trouble
compare_kind (Inputs.Found finding) = Kinds.Found
