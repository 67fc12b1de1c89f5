-- What reading an input leaves.
use Rattle.std.specs.Prelude.{◌≡◌, ◌⊎◌, ⊤, List, ℕ, [], ◌++◌, length, Option, Some, None, Result, Ok, Err}
use Rattle.capture.specs.Captures.{AreRecords}
use Rattle.capture.specs.CaptureReader.{Left, octets_left}
use Rattle.capture.specs.Records.{Entry}
use Rattle.capture.specs.declared.fault.CapFault.{CapFault}
use Rattle.capture.specs.declared.fault.CapFault.TheVariants as Caps
use Rattle.capture.specs.declared.reader.End.{End}
use Rattle.text.specs.declared.line_reader.lines.LineFault.{LineFault}
use Rattle.text.specs.declared.line_reader.lines.LineFault.TheVariants as LineFaults
use Rattle.job.specs.declared.fault.Fault.{Fault}
use Rattle.job.specs.declared.fault.Fault.TheVariants as Faults
use Rattle.compare.specs.Frames.{Reading, limit_fault}
use Rattle.compare.specs.declared.faults.CompareInput.{CompareInput}
use Rattle.compare.specs.declared.faults.CompareInput.TheVariants as Inputs
use Rattle.compare.specs.declared.faults.RecordFault.{RecordFault}
use Rattle.compare.specs.declared.faults.RecordFault.TheVariants as Records
use Rattle.compare.specs.declared.faults.Side.{Side}
use Rattle.compare.specs.declared.faults.Trouble.{Trouble}
use Rattle.compare.specs.declared.faults.Trouble.TheVariants as Troubles
use Rattle.compare.specs.declared.frame.Frame.{Frame}

-- why there is no next line
abbrev pub line_failed : LineFault → Fault Trouble
line_failed (LineFaults.Limit number limit) = Faults.Input (Troubles.Line number (limit_fault limit))
line_failed LineFaults.Read = Faults.Read

-- At Ok the frames of the input come behind those that were there, and it has no fault; a fault of an input is its own.
abbrev pub Reads : {T : Type 0} → Result T (Fault Trouble) → Reading → List Frame → List Frame → Type 0
Reads (Ok x) reading old new = (reading.fault ≡ None) × (new ≡ old ++ reading.frames)
Reads (Err (Faults.Input trouble)) reading old new = reading.fault ≡ Some trouble
Reads (Err Faults.Read) reading old new = ⊤
Reads (Err Faults.Write) reading old new = ⊥
Reads (Err Faults.Memory) reading old new = ⊤

-- why a capture isn't opened
abbrev pub header_stopped : CapFault → Fault Trouble
header_stopped Caps.Read = Faults.Read
header_stopped Caps.Memory = Faults.Memory
header_stopped fault = Faults.Input (Troubles.Header fault)

-- why there is no next record
abbrev pub record_stopped : ℕ → CapFault → Fault Trouble
record_stopped number Caps.Read = Faults.Read
record_stopped number Caps.Memory = Faults.Memory
record_stopped number fault = Faults.Input (Troubles.Record number (Records.Capture fault))

-- the frame of a record is the one that it is said to have; or its fault is
abbrev pub TakesRecord : ℕ → Result Frame RecordFault → Result Frame (Fault Trouble) → Type 0
TakesRecord number said (Ok frame) = said ≡ Ok frame
TakesRecord number said (Err (Faults.Input trouble)) = (fault : RecordFault) × (said ≡ Err fault) × (trouble ≡ Troubles.Record number fault)
TakesRecord number said (Err Faults.Read) = ⊥
TakesRecord number said (Err Faults.Write) = ⊥
TakesRecord number said (Err Faults.Memory) = ⊤

-- of a capture these records come, and then this end
pub record Comes {R : Type 0} (remaining : R → Option (List ℕ)) (l : Left R) (entries : List Entry) (last : End) : Type 0 where
  pub octets : List ℕ
  pub known : octets_left remaining l ≡ Some octets
  pub are : AreRecords l.format l.number octets entries last

-- the fault of an input, by which of the two it is
abbrev pub fault_of : Side → Fault Trouble → Fault CompareInput
fault_of side (Faults.Input trouble) = Faults.Input (Inputs.Input side trouble)
fault_of side Faults.Read = Faults.Read
fault_of side Faults.Write = Faults.Write
fault_of side Faults.Memory = Faults.Memory

-- of known octets these are in front: four, or all of them; and the others are still to come
pub record StandsInFront (octets front : List ℕ) (new : Option (List ℕ)) : Type 0 where
  pub rest : List ℕ
  pub known : new ≡ Some rest
  pub parts : octets ≡ front ++ rest
  pub enough : (length front ≡ 4) ⊎ (rest ≡ [])

abbrev pub IsFront : Option (List ℕ) → List ℕ → Option (List ℕ) → Type 0
IsFront None front new = ⊤
IsFront (Some octets) front new = StandsInFront octets front new
